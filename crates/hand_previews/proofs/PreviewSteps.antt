-- What the code of a preview has at hand makes the preview: the front that it lists is that of the mesh after the placing. Assumes nothing.
use Rattle.std.specs.Prelude.{Bool, true, false, cond, List, Ok, Err, [], ◌≢◌, leb, ltb, eqb, length, set, Float, Option, Some, None}
use Rattle.std.proofs.Math.Path.{◌≡◌, refl}
use Rattle.std.proofs.Common.{sym, ap, ◌∙◌, subst, arith}
use Prim.Native.Nat.{ℕ, zero, suc, ◌+◌, ◌*◌, ◌/◌, ◌<◌, ◌≤◌}
use borrow.Author.Tests.{le-leb, lt-leb, lt-ltb, le-ltb, ltb-false, eq-eqb, ne_eqb}
use Rattle.laws.specs.Loop.{sum_up, for_up_keeps}
use Rattle.laws.proofs.Sums.{sum_zero, sum_suc}
use Rattle.outline.specs.Outline.{Outline, first_of}
use Rattle.outline.specs.Accepted.{first_zero}
use Rattle.field_direction.specs.declared.Grid.{Grid}
use Rattle.field_direction.specs.Record.{FieldRecord, field_record}
use Rattle.topology.specs.Links.{off, link_of}
use Rattle.front.specs.declared.Counts.{Counts}
use Rattle.front.specs.declared.Corner.{Corner}
use Rattle.front.specs.State.{State, next_of}
use Rattle.front.specs.Place.{place, is_full}
use Rattle.front.specs.declared.FarCorners.{FarCorners}
use Rattle.paving.specs.Attempt.{try_edge, far}
use Rattle.paving.proofs.AttemptLaws.{far_same}
use Rattle.paving.specs.Advance.{most_quads}
use Rattle.paving_attempts.specs.Seen.{seen_of}
use Rattle.paving_attempts.proofs.SeenLaws.{try_seen}
use Rattle.hand_mesh_check.specs.Check.{lent_state, link_count, mesh_refusal, links_of, edge_refusal}
use Rattle.hand_mesh_check.specs.Passed.{mesh_passes, room, front_few}
use Rattle.hand_steps.specs.declared.StepOutcome.{StepOutcome}
use Rattle.hand_steps.specs.declared.StepOutcome.TheVariants.{Placed, Full, Cap}
use Rattle.hand_steps.specs.Hand.{hand_refusal, Handled, handled, settled_on, place_on}
use Rattle.hand_steps.specs.Lent.{OnFront}
use Rattle.hand_steps.proofs.UseBase.{front_room, quad_fits_lem}
use Rattle.hand_previews.specs.declared.Foreseen.{Foreseen}
use Rattle.hand_previews.specs.declared.View.{View}
use Rattle.hand_previews.specs.Preview.{EdgeList, edge_list, edge_turn, front_listed, foresight, foreseen, foreseen_on, preview_refusal, view_on}
use Rattle.hand_previews.specs.Preview.{preview_answer, preview_list, PreviewTaken, is_on, shown_links, shown_nodes, QuadKnown}
use Rattle.hand_previews.proofs.FrontAfter.{Shows, placed_shows}

-- ---- what would become of the edge

module _ (a b : ℕ) (c d : Corner) (s : State) {t : Option FarCorners} (q : t ≡ Some (far c d)) {r : Bool} (e : r ≡ is_full s a b c d) where
  pub foreseen_full : r ≡ true → foresight Full None ≡ foreseen a b t s
  foreseen_full f = rw (q, ← e, f)

  pub foreseen_placed : r ≡ false → foresight Placed (Some (far c d)) ≡ foreseen a b t s
  foreseen_placed f = rw (q, ← e, f)

module _ (o : Outline) (size : Float) (g : Grid) (values : List Float) (marks : List ℕ) (a b : ℕ) (s : State) where
  abbrev field : FieldRecord
  field = field_record g values marks

  pub foreseen_cap : most_quads ≤ s.counts.quads → foresight Cap None ≡ foreseen_on o size field a b s
  unfolding foreseen_on
  foreseen_cap h = rw (le-leb _ _ h)

  pub foreseen_tried : s.counts.quads < most_quads → {t : Option FarCorners} → t ≡ try_edge o size (field_record g values []) (seen_of s) a b → {w : Foreseen}
      → w ≡ foreseen a b t s → w ≡ foreseen_on o size field a b s
  unfolding foreseen_on
  foreseen_tried less e p = rw (lt-leb _ _ less, ← (e ∙ try_seen s field o size a b)) p

-- ---- what it shows

-- the state once the quad is placed
abbrev pub with_quad : ℕ → ℕ → Option FarCorners → State → State
with_quad a b None s = s
with_quad a b (Some q) s = place a b q.c q.d s

module _ (o : Outline) (size : Float) (field : FieldRecord) (a b : ℕ) (s : State) where
  -- the foresight is what a placing does
  pub record Foresees (w : Foreseen) : Type 0 where
    pub does : place_on o size field a b s ≡ handled (with_quad a b w.quad s) w.outcome
    pub fits : (c d : Corner) → w.quad ≡ Some (far c d) → (try_edge o size field s a b ≡ Some (far c d)) × (is_full s a b c d ≡ false)

  pub foresees : Foresees (foreseen_on o size field a b s)
  unfolding foreseen_on place_on
  foresees = by (leb most_quads s.counts.quads) refl (try_edge o size field s a b) refl
    where
      never : {A : Type 0} (c d : Corner) → None ≡ Some (far c d) → A
      never c d e = absurd (let z : ◌≡◌ {A = ℕ} 0 1 = cc in omega arith)

      quad : (c d : Corner) → try_edge o size field s a b ≡ Some (far c d) → (full : Bool) → is_full s a b c d ≡ full → (w : Foreseen)
          → w ≡ cond full (foresight Full None) (foresight Placed (Some (far c d)))
          → (settled_on a b (Some (far c d)) s ≡ handled (with_quad a b w.quad s) w.outcome)
          × ((x y : Corner) → w.quad ≡ Some (far x y) → (try_edge o size field s a b ≡ Some (far x y)) × (is_full s a b x y ≡ false))
      quad c d e true f w p = rw (p, f) (refl, λ x y z. never x y z)
      quad c d e false f w p =
          rw (p, f) (
            refl,
            λ x y z. let q = far_same z in rw (← q.0, ← q.1) (e, f),
          )

      by : (cap : Bool) → leb most_quads s.counts.quads ≡ cap → (t : Option FarCorners) → try_edge o size field s a b ≡ t
          → Foresees (cond cap (foresight Cap None) (foreseen a b t s))
      by true e t u = record { does = rw e refl; fits = λ c d z. never c d z }
      by false e None u = record { does = rw (e, u) refl; fits = λ c d z. never c d z }
      by false e (Some q) u =
          let Q = quad q.c q.d u (is_full s a b q.c q.d) refl (foreseen a b (Some q) s) refl in
          record { does = rw (e, u) Q.0; fits = Q.1 }

-- as many edges are frontListed as nodes have links
edges_counted : (m : ℕ) (g : ℕ → ℕ) (l : List ℕ) → (front_listed m g l).count ≡ sum_up m (is_on g)
unfolding front_listed
edges_counted m g l =
    for_up_keeps (λ i w. w.count ≡ sum_up i (is_on g)) m (edge_turn g) (edge_list l 0) (sym (sum_zero (is_on g))) turn
  where
    turn : (i : ℕ) (w : EdgeList) → i < m → w.count ≡ sum_up i (is_on g) → (edge_turn g i w).count ≡ sum_up (suc i) (is_on g)
    turn i w h e = by (eqb (g i) off) refl
      where
        by : (t : Bool) → eqb (g i) off ≡ t
            → (cond t w (edge_list (set (set w.list (2 * w.count) i) (2 * w.count + 1) (g i)) (w.count + 1))).count
            ≡ sum_up (suc i) (is_on g)
        by true q = omega (arith, e, sum_suc (is_on g) i, ap (λ (b : Bool). cond {A = ℕ} b 0 1) q)
        by false q = omega (arith, e, sum_suc (is_on g) i, ap (λ (b : Bool). cond {A = ℕ} b 0 1) q)

-- the links shown are those of the state after the placing, and there are two more at most
pub record FrontShown (s t : State) (m : ℕ) (g : ℕ → ℕ) : Type 0 where
  pub shows : Shows m g t
  pub most : t.counts.front ≤ s.counts.front + 2
  pub few : m ≤ 4294967294

module _ (xs ys : List Float) (next prev origins quads edges : List ℕ) (k : Counts) (a b : ℕ)
    (S : OnFront (lent_state xs ys next prev origins quads edges k) a b) (o : Outline) (size : Float) (field : FieldRecord) where
  abbrev s : State
  s = lent_state xs ys next prev origins quads edges k

  standing : Shows k.nodes (next_of s) s
  unfolding link_count
  standing =
      let R = front_room xs ys next prev origins quads edges k a b S in
      record { size = refl; long = R.nodes.next_fit; links = refl; count = S.passes.links }

  pub shown : (w : Foreseen) → w ≡ foreseen_on o size field a b s
      → FrontShown s (with_quad a b w.quad s) (shown_nodes w.quad k.nodes) (shown_links w.quad a b k.nodes (link_of k.nodes next))
  shown w e = by w.quad refl
    where
      by : (q : Option FarCorners) → w.quad ≡ q → FrontShown s (with_quad a b q s) (shown_nodes q k.nodes) (shown_links q a b k.nodes (link_of k.nodes next))
      by None z =
          record { shows = standing; most = omega arith; few = (front_room xs ys next prev origins quads edges k a b S).nodes.few }
      by (Some q) z =
          let C = (subst (Foresees o size field a b s) (sym e) (foresees o size field a b s)).fits q.c q.d z in
          let F = quad_fits_lem xs ys next prev origins quads edges k a b S o size field q.c q.d C.0 C.1 in
          let P = placed_shows s standing q.c q.d a b F.nodes.next_fit (omega (arith, F.nodes.few)) F.ids S.there in
          record { shows = P.0; most = P.1; few = F.nodes.few }

  -- a quad that it shows has the ids of nodes
  pub shown_known : (w : Foreseen) → w ≡ foreseen_on o size field a b s → (q : FarCorners) → w.quad ≡ Some q → QuadKnown q k.nodes a b
  shown_known w e q z =
      let C = (subst (Foresees o size field a b s) (sym e) (foresees o size field a b s)).fits q.c q.d z in
      (quad_fits_lem xs ys next prev origins quads edges k a b S o size field q.c q.d C.0 C.1).ids

  -- the list has a place for each
  pub shown_fits : (w : Foreseen) → w ≡ foreseen_on o size field a b s → (places : ℕ) → k.front + 2 ≤ places
      → sum_up (shown_nodes w.quad k.nodes) (is_on (shown_links w.quad a b k.nodes (link_of k.nodes next))) ≤ places
  shown_fits w e places h = let H = shown w e in omega (arith, H.shows.count, H.most)

  -- the list, once it is written, is that of the mesh after the placing
  pub front_written : (w : Foreseen) → w ≡ foreseen_on o size field a b s → (before left : List ℕ) (r : ℕ)
      → edge_list left r ≡ front_listed (shown_nodes w.quad k.nodes) (shown_links w.quad a b k.nodes (link_of k.nodes next)) before
      → (record { outcome = w.outcome; quad = w.quad; front = r } ≡ view_on o size field a b s)
      × (left ≡ (front_listed (place_on o size field a b s).state.counts.nodes (next_of (place_on o size field a b s).state) before).list)
  front_written w e before left r l =
      let H = shown w e in
      let does = (subst (Foresees o size field a b s) (sym e) (foresees o size field a b s)).does in
      let front : r ≡ (place_on o size field a b s).state.counts.front =
      ap (λ (c : EdgeList). c.count) l ∙ (edges_counted _ _ before ∙ (H.shows.count ∙ sym (ap (λ (h : Handled). h.state.counts.front) does))) in (
        view (sym (ap (λ (h : Handled). h.outcome) does)) (ap (λ (c : Foreseen). c.quad) e) front,
        rw (does, H.shows.links, H.shows.size) (ap (λ (c : EdgeList). c.list) l),
      )
    where
      view : {p p' : StepOutcome} {q q' : Option FarCorners} {r r' : ℕ} → p ≡ p' → q ≡ q' → r ≡ r'
          → ◌≡◌ {A = View} (record { outcome = p; quad = q; front = r }) (record { outcome = p'; quad = q'; front = r' })
      view e f g = rw (e, f, g)

  module _ (before : List ℕ) {r : ℕ} (e : r ≡ preview_refusal s (length before / 2) a b) where
    pub preview_shown : r ≡ 0 → (w : Foreseen) → w ≡ foreseen_on o size field a b s → (left : List ℕ) (n : ℕ)
        → edge_list left n ≡ front_listed (shown_nodes w.quad k.nodes) (shown_links w.quad a b k.nodes (link_of k.nodes next)) before
        → PreviewTaken o size field a b s before (Ok (record { outcome = w.outcome; quad = w.quad; front = n })) left
    unfolding preview_answer preview_list
    preview_shown z w q left n l =
        let F = front_written w q before left n l in
        record { answer = rw (← e, eq-eqb r 0 z) (ap Ok F.0); list = rw (← e, eq-eqb r 0 z) F.1 }

-- ---- the refusal

pub preview_refused : (o : Outline) (size : Float) (field : FieldRecord) (a b : ℕ) (s : State) (before : List ℕ) {r : ℕ}
    → r ≡ preview_refusal s (length before / 2) a b → r ≢ 0 → PreviewTaken o size field a b s before (Err r) before
unfolding preview_answer preview_list
preview_refused o size field a b s before {r} e h = record { answer = rw (← e, ne_eqb r 0 h); list = rw (← e, ne_eqb r 0 h) }

module _ (s : State) (places a b : ℕ) {r : ℕ} (e : r ≡ mesh_refusal s) where
  pub preview_mesh : r ≢ 0 → r ≡ preview_refusal s places a b
  unfolding preview_refusal
  preview_mesh h = rw (← e) (first r _ h)
    where
      first : (r q : ℕ) → r ≢ 0 → r ≡ first_of r q
      first zero q h = absurd (h refl)
      first (suc r) q h = refl

  pub preview_list_lem : r ≡ 0 → places < s.counts.front + 2 → 23 ≡ preview_refusal s places a b
  unfolding preview_refusal
  preview_list_lem z h = rw (← e, z, lt-ltb _ _ h)

  pub preview_edge : r ≡ 0 → s.counts.front + 2 ≤ places → {q : ℕ} → q ≡ edge_refusal (links_of s.next s.counts.nodes) a b
      → q ≡ preview_refusal s places a b
  unfolding preview_refusal edge_refusal
  preview_edge z h f = rw (← e, z, le-ltb _ _ h) f

-- what isn't refused is on the front, and its list suffices
pub preview_passes : (s : State) (places a b : ℕ) → preview_refusal s places a b ≡ 0 → (hand_refusal s a b ≡ 0) × (s.counts.front + 2 ≤ places)
unfolding preview_refusal hand_refusal
preview_passes s places a b e =
    let p = first_zero (mesh_refusal s) _ e in
    let q = first_zero (cond {A = ℕ} (ltb places (s.counts.front + 2)) 23 0) (edge_refusal s a b) p.1 in
    (rw p.0 q.1, by (ltb places (s.counts.front + 2)) refl q.0)
  where
    by : (t : Bool) → ltb places (s.counts.front + 2) ≡ t → cond {A = ℕ} t 23 0 ≡ 0 → s.counts.front + 2 ≤ places
    by true e z = absurd (omega arith)
    by false e z = ltb-false places (s.counts.front + 2) e

-- what a mesh that passes gives the code of the refusal
pub lent_passes : (xs ys : List Float) (next prev origins quads edges : List ℕ) (k : Counts) {r : ℕ}
    → r ≡ mesh_refusal (lent_state xs ys next prev origins quads edges k) → r ≡ 0 → (k.front ≤ 4294967294) × (k.nodes ≤ length next)
lent_passes xs ys next prev origins quads edges k e z =
    let s = lent_state xs ys next prev origins quads edges k in
    let P = mesh_passes s (sym e ∙ z) in
    let R = room xs ys next prev origins quads edges k k.nodes k.quads k.edges P.counts in
    (omega (arith, front_few s P, R.nodes.few), R.nodes.next_fit)
