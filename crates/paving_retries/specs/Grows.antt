-- What a later state of a run keeps of an earlier one, as far as an attempt reads it: nodes and mesh edges are only added. And what the searches
-- over nodes and edges make of it: what they found they find again.
use Rattle.std.specs.Prelude.{ℕ, ◌+◌, ◌<◌, ◌≤◌, ◌≡◌, Bool, true, false, not, ◌&&◌, ◌≢◌, eqb, Float}
use Rattle.std.proofs.Math.Path.{refl}
use Rattle.std.proofs.Common.{sym, ◌∙◌, true≢false, arith, ne_eqb}
use Rattle.laws.specs.Loop.{any_up, any_found, any_none}
use Rattle.laws.specs.Tests.{both}
use Rattle.numbers.specs.Float.{is_finite}
use Rattle.outline.specs.declared.Point.{Point}
use Rattle.outline.specs.Outline.{Outline, point}
use Rattle.outline.specs.Queries.{contains}
use Rattle.geometry.specs.declared.Corners.{Corners}
use Rattle.geometry.specs.Plane.{convex_ccw, centroid}
use Rattle.front.specs.declared.Corner.{Corner}
use Rattle.front.specs.declared.Corner.TheVariants.{Reused, Fresh}
use Rattle.front.specs.State.{State, node, edge_from, edge_to}
use Rattle.front.specs.Place.{corner_point, id_c, id_d, added}
use Rattle.front.specs.Ready.{Joined}
use Rattle.front.proofs.Pushed.{IsNode}
use Rattle.paving.specs.Checks.{close_node, too_close, node_ok, corner_free, blocks, node_inside, crosses_edge, edge_crosses, side_crosses, edges_free}
use Rattle.paving.specs.Checks.{corners_of, quad_ok}

-- ---- tests of which one is true where the other is

pub and_keeps : (p q p' q' : Bool) → (p ≡ true → p' ≡ true) → (q ≡ true → q' ≡ true) → p && q ≡ true → p' && q' ≡ true
and_keeps p q p' q' f g e = let h = both p q e in rw (f h.0) (g h.1)

-- and the first is the same
pub then_keeps : (p q q' : Bool) → (q ≡ true → q' ≡ true) → p && q ≡ true → p && q' ≡ true
then_keeps p q q' g e = and_keeps p q p q' (λ h. h) g e

pub not_keeps : (p p' : Bool) → (p' ≡ true → p ≡ true) → not p ≡ true → not p' ≡ true
not_keeps p false f e = refl
not_keeps p true f e = absurd (true≢false (sym e ∙ rw (f refl)))

pub differs : (x y : ℕ) → x ≢ y → not (eqb x y) ≡ true
differs x y h = rw (ne_eqb x y h)

-- a search over more indices, by a test that is the same on the old ones, finds something where the first did
pub any_more : (f g : ℕ → Bool) (m n : ℕ) → m ≤ n → ((i : ℕ) → i < m → g i ≡ f i) → any_up m f ≡ true → any_up n g ≡ true
any_more f g m n h same e = by (any_up n g) refl
  where
    by : (t : Bool) → any_up n g ≡ t → t ≡ true
    by true q = refl
    by false q =
        let r = any_found f m e in
        let less : r.0 < n = omega (arith, r.1) in
        absurd (true≢false (sym r.2 ∙ (sym (same r.0 r.1) ∙ any_none g n q r.0 less)))

-- ---- definitions

-- t has the nodes and mesh edges of s, and perhaps more
pub record Grows (s t : State) : Type 0 where
  pub nodes : s.counts.nodes ≤ t.counts.nodes
  pub few : t.counts.nodes ≤ 4294967294
  pub points : (id : ℕ) → id < s.counts.nodes → node t id ≡ node s id
  pub edges : s.counts.edges ≤ t.counts.edges
  pub ends : (k : ℕ) → k < s.counts.edges → (edge_from t k ≡ edge_from s k) × (edge_to t k ≡ edge_to s k)
  pub joined : Joined s.counts.nodes s

-- u and v are the same, as far as the numbers below n can tell
abbrev pub SameBelow : ℕ → ℕ → ℕ → Type 0
SameBelow n u v = (x : ℕ) → x < n → eqb x v ≡ eqb x u

-- ---- laws

-- two numbers from n on
past_same : (n u v : ℕ) → n ≤ u → n ≤ v → SameBelow n u v
past_same n u v h k x l = ne_eqb x v (omega arith) ∙ sym (ne_eqb x u (omega arith))

module _ (s t : State) (G : Grows s t) where
  abbrev N : ℕ
  N = s.counts.nodes

  -- ---- the ids of the corners

  pub same_c : (c : Corner) → SameBelow N (id_c s c) (id_c t c)
  same_c (Reused id) = λ x h. refl
  same_c (Fresh x y) = past_same N N t.counts.nodes (omega arith) G.nodes

  pub same_d : (c d : Corner) → SameBelow N (id_d s c d) (id_d t c d)
  same_d c (Reused id) = λ x h. refl
  same_d c (Fresh x y) = past_same N (N + added c) (t.counts.nodes + added c) (omega arith) (omega (arith, G.nodes))

  pub point_kept : (c : Corner) → IsNode N c → corner_point t c ≡ corner_point s c
  point_kept (Reused id) h = G.points id h
  point_kept (Fresh x y) h = refl

  -- ---- the searches

  close_kept : (size : Float) (p : Point) → too_close size s p ≡ true → too_close size t p ≡ true
  unfolding too_close
  close_kept size p = any_more (close_node size s p) (close_node size t p) N t.counts.nodes G.nodes (λ id h. rw (G.points id h))

  inside_kept : (size : Float) (p : Corners) (a b d c d' c' : ℕ) → SameBelow N d d' → SameBelow N c c'
      → node_inside size s p a b d c ≡ true → node_inside size t p a b d' c' ≡ true
  unfolding node_inside
  inside_kept size p a b d c d' c' sd sc =
      any_more (blocks size s p a b d c) (blocks size t p a b d' c') N t.counts.nodes G.nodes
      (λ id h. rw (G.points id h, sd id h, sc id h))

  crosses_kept : (size : Float) (p q : Point) (u v u' v' : ℕ) → SameBelow N u u' → SameBelow N v v'
      → edge_crosses size s p q u v ≡ true → edge_crosses size t p q u' v' ≡ true
  unfolding edge_crosses
  crosses_kept size p q u v u' v' su sv =
      any_more (crosses_edge size s p q u v) (crosses_edge size t p q u' v') s.counts.edges t.counts.edges G.edges
      (λ k h.
      let e = G.ends k h in
      let j = G.joined k h in
      let from : edge_from s k < N = omega (arith, j.0, j.1) in
      let to : edge_to s k < N = j.1 in
      rw (
        e.0,
        e.1,
        G.points (edge_from s k) from,
        G.points (edge_to s k) to,
        su (edge_from s k) from,
        sv (edge_from s k) from,
        su (edge_to s k) to,
        sv (edge_to s k) to,
      ))

  -- ---- the checks: one that holds of the later state held of the earlier one

  pub free_before : (o : Outline) (size : Float) (c : Corner) → corner_free o size t c ≡ true → corner_free o size s c ≡ true
  unfolding corner_free node_ok
  free_before o size (Reused id) e = refl
  free_before o size (Fresh x y) e =
      then_keeps (is_finite x) _ _
      (then_keeps (is_finite y) _ _ (then_keeps (contains o (point x y)) _ _ (not_keeps _ _ (close_kept size (point x y))))) e

  side_kept : (size : Float) (c : Corner) (id id' to : ℕ) → to < N → SameBelow N id id' → side_crosses size s c id to ≡ true
      → side_crosses size t c id' to ≡ true
  side_kept size (Reused v) id id' to h same e = e
  side_kept size (Fresh x y) id id' to h same e =
      rw (G.points to h) (crosses_kept size (point x y) (node s to) id to id' to same (λ z l. refl) e)

  module _ (o : Outline) (size : Float) (a b : ℕ) (ha : a < N) (hb : b < N) (c d : Corner) (hc : IsNode N c) (hd : IsNode N d) where
    across_kept : edge_crosses size s (corner_point s c) (corner_point s d) (id_c s c) (id_d s c d) ≡ true
        → edge_crosses size t (corner_point t c) (corner_point t d) (id_c t c) (id_d t c d) ≡ true
    across_kept e =
        rw (point_kept c hc, point_kept d hd)
        (crosses_kept size (corner_point s c) (corner_point s d) (id_c s c) (id_d s c d) (id_c t c) (id_d t c d) (same_c c) (same_d c d) e)

    edges_before : edges_free size t a b c d ≡ true → edges_free size s a b c d ≡ true
    unfolding edges_free
    edges_before =
        and_keeps _ _ _ _ (not_keeps _ _ (side_kept size c (id_c s c) (id_c t c) a ha (same_c c)))
        (and_keeps _ _ _ _ (not_keeps _ _ across_kept) (not_keeps _ _ (side_kept size d (id_d s c d) (id_d t c d) b hb (same_d c d))))

    corners_kept : corners_of t a b c d ≡ corners_of s a b c d
    corners_kept = rw (G.points a ha, G.points b hb, point_kept c hc, point_kept d hd)

    within_kept : node_inside size s (corners_of s a b c d) a b (id_d s c d) (id_c s c) ≡ true
        → node_inside size t (corners_of s a b c d) a b (id_d t c d) (id_c t c) ≡ true
    within_kept = inside_kept size (corners_of s a b c d) a b (id_d s c d) (id_c s c) (id_d t c d) (id_c t c) (same_d c d) (same_c c)

    pub ok_before : quad_ok o size t a b c d ≡ true → quad_ok o size s a b c d ≡ true
    unfolding quad_ok
    ok_before e =
        let p = corners_of s a b c d in
        then_keeps (convex_ccw p) _ _
        (then_keeps (contains o (centroid p)) _ _ (and_keeps _ _ _ _ (not_keeps _ _ within_kept) edges_before)) (rw corners_kept at e)
