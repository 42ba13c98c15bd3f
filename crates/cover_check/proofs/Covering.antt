-- A mesh that 27 to 30 let pass covers the sampled outline.
use Rattle.std.specs.Prelude.{◌≡◌, ◌≢◌, refl, Bool, true, false, not, ◌&&◌, ◌||◌, cond, ◌⊎◌, List, [], ◌∷◌, ◌++◌, ℕ, zero, suc, ◌+◌, ◌*◌, ◌<◌, ◌≤◌, eqb, ltb, ℤ, pos, nat_abs, neg_ℤ, ◌+ℤ◌, length, take, get_or, T, Float}
use Rattle.std.proofs.Common.{sym, ap, ap₂, ◌∙◌, subst, arith, inl, inr, ltb-false, ltb-true, eqb-true, eq-eqb, get_or-take, ⊎_elim, true≢false}
use Rattle.std.proofs.lemmas.Bool.{eqb-false}
use Rattle.std.specs.Float.{nan, binary64}
use Rattle.std.specs.Float.Ieee.{fits, of_bits, to_bits, unlike}
use Rattle.std.specs.Float.Ieee.Bits.{of_bits-to_bits}
use Rattle.std.proofs.Math.IntN.{+ℤ_invr}
use Rattle.laws.specs.Loop.{for_up}
use Rattle.laws.specs.Tests.{both, neither}
use Rattle.exact.specs.Units.{units}
use Rattle.exact.specs.Corner.{Vector, cross}
use Rattle.topology.specs.Sums.{All}
use Rattle.topology.specs.Links.{off}
use Rattle.topology.specs.Balance.{difference}
use Rattle.front.specs.State.{State}
use Rattle.geometry.specs.Plane.{convex_ccw}
use Rattle.cover_turns.specs.Turn.{turn}
use Rattle.cover_turns.proofs.Turns.{turn_back}
use Rattle.front_sampled.proofs.Lists.{all_append}
use Rattle.books.specs.Book.{Book, Edge, edge, is_edge, Quad, quad_at, quad_edges, edges_sumℤ, place_of, front_area, quads_area, follow}
use Rattle.books.specs.Net.{count_edge, net, quads_edges}
use Rattle.books.proofs.AreasBase.{IsBookNode, FrontJoins}
use Rattle.books.proofs.BookBase.{count_sum, cross_anti}
use Rattle.books.proofs.NetLaws.{same_net}
use Rattle.books.proofs.Areas.{weight_of, weights_same, quads_sum, quads_sum_lem}
use Rattle.books.specs.Points.{nths, turn_of, winding, quads_round, InOne}
use Rattle.books.specs.Holds.{QuadHolds}
use Rattle.books.proofs.Points.{quad_holds_covers, quads_number, in_one}
use Rattle.books_bounded.proofs.Corners.{CornersBounded, corners_in, quad_holds}
use Rattle.cover_check.specs.Check.{side_wrong}
use Rattle.cover_check.specs.Covered.{Covered}

-- ---- the sampled outline

-- The edges of its front are those that `follow` goes along, each once, between its nodes
pub record FrontFollows (start : Book) : Type 0 where
  pub few : length start.xs ≤ off
  pub joins : FrontJoins start
  pub once : (u v : ℕ) → count_edge u v start.front ≤ 1
  pub follows : (u v : ℕ) → 0 < count_edge u v start.front → follow start.front u ≡ v
  pub has : (u v : ℕ) → v ≢ off → follow start.front u ≡ v → 0 < count_edge u v start.front

-- ---- the sides of quads

module _ (P : Edge → Type 0) where
  -- what each quad's sides have, all sides have
  all_sides : (s : State) (k : ℕ) → ((i : ℕ) → i < k → All P (quad_edges (quad_at s i))) → All P (quads_edges s k)
  unfolding quads_edges for_up
  all_sides s zero h = tt
  all_sides s (suc k) h = all_append P (quads_edges s k) (quad_edges (quad_at s k)) (all_sides s k (λ i l. h i (omega arith))) (h k (omega arith))

  -- and so has a side that is counted
  counted_has : (u v : ℕ) (es : List Edge) → All P es → 0 < count_edge u v es → P (edge u v)
  unfolding count_edge
  counted_has u v [] a h = absurd (omega arith)
  counted_has u v (e ∷ es) a h = by (is_edge (edge u v) e) refl h (counted_has u v es a.1)
    where
      by : (b : Bool) → is_edge (edge u v) e ≡ b → 0 < cond b 1 0 + count_edge u v es → (0 < count_edge u v es → P (edge u v)) → P (edge u v)
      by true q h later =
          let same = both (eqb u e.from) (eqb v e.to) q in
          rw (eqb-true u e.from same.0, eqb-true v e.to same.1) a.0
      by false q h later = later (omega arith)

-- ---- one side

-- how often it stands, how often its reverse does, and whether it is an edge of the outline
data SideIs (there back : ℕ) (outline : Type 0) : Type 0 where
  absent : there ≡ 0 → SideIs there back outline
  inner : there ≡ 1 → 0 < back → (outline → ⊥) → SideIs there back outline
  outer : there ≡ 1 → back ≡ 0 → outline → SideIs there back outline

side_right : (start : Book) (es : List Edge) (u v : ℕ) → 0 < count_edge u v es → side_wrong start es (edge u v) ≡ false
    → SideIs (count_edge u v es) (count_edge v u es) (follow start.front u ≡ v)
unfolding side_wrong
side_right start es u v there e =
    let tests = neither (ltb 1 (count_edge u v es)) (not (unlike (ltb 0 (count_edge v u es)) (eqb (follow start.front u) v))) e in
    by (ltb-false 1 (count_edge u v es) tests.0) (ltb 0 (count_edge v u es)) refl (eqb (follow start.front u) v) refl tests.1
  where
    by : count_edge u v es ≤ 1 → (b : Bool) → ltb 0 (count_edge v u es) ≡ b → (c : Bool) → eqb (follow start.front u) v ≡ c → not (unlike b c) ≡ false
        → SideIs (count_edge u v es) (count_edge v u es) (follow start.front u ≡ v)
    by once true p true q f = absurd (true≢false f)
    by once false p false q f = absurd (true≢false f)
    by once true p false q f = inner (omega arith) (ltb-true 0 (count_edge v u es) p) (eqb-false (follow start.front u) v q)
    by once false p true q f = outer (omega arith) (omega (arith, ltb-false 0 (count_edge v u es) p)) (eqb-true (follow start.front u) v q)

-- ---- the figures

-- an edge and its reverse stand in the one list as often as in the other, or in each list as often as each other
data Balanced (s1 s2 q1 q2 : ℕ) : Type 0 where
  same : s1 ≡ q1 → s2 ≡ q2 → Balanced s1 s2 q1 q2
  paired : s1 ≡ s2 → q1 ≡ q2 → Balanced s1 s2 q1 q2

balanced_difference : (s1 s2 q1 q2 : ℕ) → Balanced s1 s2 q1 q2 → difference s1 s2 ≡ difference q1 q2
unfolding difference
balanced_difference s1 s2 q1 q2 (same e f) = ap₂ difference e f
balanced_difference s1 s2 q1 q2 (paired e f) =
    ap (λ (n : ℕ). difference n s2) e ∙ (+ℤ_invr (pos s2) ∙ sym (ap (λ (n : ℕ). difference n q2) f ∙ +ℤ_invr (pos q2)))

module _ (start : Book) (F : FrontFollows start) (s : State) (k : ℕ)
    (ids : (i : ℕ) → i < k → All (λ (e : Edge). e.to < off) (quad_edges (quad_at s i)))
    (right : (i : ℕ) → i < k → All (λ (e : Edge). side_wrong start (quads_edges s k) e ≡ false) (quad_edges (quad_at s i)))
    (laid : (u : ℕ) → u < length start.xs → 0 < count_edge u (follow start.front u) (quads_edges s k)) where
  abbrev Q : List Edge
  Q = quads_edges s k

  side_is : (u v : ℕ) → SideIs (count_edge u v Q) (count_edge v u Q) (follow start.front u ≡ v)
  side_is u v = by (count_edge u v Q) refl
    where
      by : (n : ℕ) → count_edge u v Q ≡ n → SideIs (count_edge u v Q) (count_edge v u Q) (follow start.front u ≡ v)
      by zero e = absent e
      by (suc n) e =
          let there : 0 < count_edge u v Q = omega arith in
          side_right start Q u v there (counted_has (λ (e : Edge). side_wrong start Q e ≡ false) u v Q (all_sides _ s k right) there)

  -- an edge of the outline is a side
  laid_is : (u v : ℕ) → 0 < count_edge u v start.front → 0 < count_edge u v Q
  laid_is u v h =
      let nodes = F.joins u v (rw (count_sum u v start.front) at h) in
      subst (λ (w : ℕ). 0 < count_edge u w Q) (F.follows u v h) (laid u nodes.0.0)

  -- a side that is an edge of the outline stands there once
  outline_once : (u v : ℕ) → 0 < count_edge u v Q → follow start.front u ≡ v → count_edge u v start.front ≡ 1
  outline_once u v there e =
      let node : v < off = counted_has (λ (e : Edge). e.to < off) u v Q (all_sides _ s k ids) there in
      let stands : 0 < count_edge u v start.front = F.has u v (omega arith) e in
      omega (arith, F.once u v)

  -- one that isn't doesn't
  outline_none : (u v : ℕ) → (follow start.front u ≡ v → ⊥) → count_edge u v start.front ≡ 0
  outline_none u v never = by (count_edge u v start.front) refl
    where
      by : (n : ℕ) → count_edge u v start.front ≡ n → n ≡ 0
      by zero e = refl
      by (suc n) e = absurd (never (F.follows u v (omega arith)))

  unlaid_none : (u v : ℕ) → count_edge u v Q ≡ 0 → count_edge u v start.front ≡ 0
  unlaid_none u v none = by (count_edge u v start.front) refl
    where
      by : (n : ℕ) → count_edge u v start.front ≡ n → n ≡ 0
      by zero e = refl
      by (suc n) e = absurd (let there = laid_is u v (omega arith) in omega arith)

  balanced : (u v : ℕ) → Balanced (count_edge u v start.front) (count_edge v u start.front) (count_edge u v Q) (count_edge v u Q)
  balanced u v = by (side_is u v) (side_is v u)
    where
      by : SideIs (count_edge u v Q) (count_edge v u Q) (follow start.front u ≡ v) → SideIs (count_edge v u Q) (count_edge u v Q) (follow start.front v ≡ u)
          → Balanced (count_edge u v start.front) (count_edge v u start.front) (count_edge u v Q) (count_edge v u Q)
      by (absent e) (absent f) = same (unlaid_none u v e ∙ sym e) (unlaid_none v u f ∙ sym f)
      by (absent e) (inner f g n) = absurd (omega arith)
      by (absent e) (outer f g n) = same (unlaid_none u v e ∙ sym e) (outline_once v u (omega arith) n ∙ sym f)
      by (inner e g m) (absent f) = absurd (omega arith)
      by (inner e g m) (inner f h n) = paired (outline_none u v m ∙ sym (outline_none v u n)) (e ∙ sym f)
      by (inner e g m) (outer f h n) = absurd (omega arith)
      by (outer e g m) (absent f) = same (outline_once u v (omega arith) m ∙ sym e) (unlaid_none v u f ∙ sym f)
      by (outer e g m) (inner f h n) = absurd (omega arith)
      by (outer e g m) (outer f h n) = absurd (omega arith)

  pub nets : (u v : ℕ) → net u v start.front ≡ net u v Q
  unfolding net
  nets u v = balanced_difference _ _ _ _ (balanced u v)

-- ---- weights

module _ (start b : Book) (joins : FrontJoins start) (xs : take (length start.xs) b.xs ≡ start.xs) (ys : take (length start.ys) b.ys ≡ start.ys) (s : State) (k : ℕ)
    (nets : (u v : ℕ) → net u v start.front ≡ net u v (quads_edges s k)) (measure : Float → ℤ) where
  begins_at : (l m : List Float) → take (length l) m ≡ l → (id : ℕ) → id < length l → get_or l id nan ≡ get_or m id nan
  begins_at l m h id less = ap (λ (k : List Float). get_or k id nan) (sym h) ∙ get_or-take (length l) m id nan less

  place_same : (id : ℕ) → IsBookNode start id → place_of measure start id ≡ place_of measure b id
  place_same id h = rw (begins_at start.xs b.xs xs id h.0, begins_at start.ys b.ys ys id h.1) refl

  -- a weight that changes its sign with the direction has on the outline the sum of the quads'
  pub weights_cover : (w : Vector → Vector → ℤ) → ((u v : Vector) → w v u ≡ neg_ℤ (w u v))
      → edges_sumℤ (weight_of w measure start) start.front ≡ quads_sum (weight_of w measure b) s k
  weights_cover w back =
      let x = weight_of w measure b in
      weights_same (weight_of w measure start) x start.front (λ u v h. ap₂ w (place_same u (joins u v h).0) (place_same v (joins u v h).1))
      ∙ (same_net x (λ u v. back (place_of measure b u) (place_of measure b v)) start.front (quads_edges s k) nets ∙ quads_sum_lem x s k)

  pub areas_cover : front_area measure start ≡ quads_area measure b s k
  unfolding quads_area
  areas_cover = weights_cover cross cross_anti

-- ---- all together

module _ (start : Book) (F : FrontFollows start) (b : Book) (s : State) (k : ℕ)
    (xs : take (length start.xs) b.xs ≡ start.xs) (ys : take (length start.ys) b.ys ≡ start.ys)
    (quads : (i : ℕ) → i < k → QuadHolds b (quad_at s i))
    (nets : (u v : ℕ) → net u v start.front ≡ net u v (quads_edges s k)) where
  points : (n : ℕ) → 0 < n → (p : Vector) → winding n p start start.front ≡ pos (quads_round n p b s k)
  points n above p = weights_cover start b F.joins xs ys s k nets (nths n) (turn p) (turn_back p) ∙ quads_number n above p b s k quads

  pub covered : Covered start b s k
  covered =
      record {
        xs = xs;
        ys = ys;
        quads = quads;
        edges = nets;
        areas = areas_cover start b F.joins xs ys s k nets units;
        covers = λ i h. quad_holds_covers b (quad_at s i) (quads i h);
        points = points;
        one = λ n above p e. in_one n p b s k (ap nat_abs (sym (points n above p) ∙ e));
      }
