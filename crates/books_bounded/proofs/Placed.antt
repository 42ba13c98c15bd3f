-- A placing keeps every node bounded, since a new corner is inside the outline: `place_bounded`, and along a run `reaches_bounded`. And the quad
-- placed holds in a book that has its corners: `placement_holds`, and `matched_holds` for a book that matches a later state. Assumes nothing.
use Rattle.std.specs.Prelude.{◌≡◌, refl, Bool, true, false, not, cond, List, ℕ, ◌+◌, ◌<◌, eqb, get_or, Float, Option, Some, None}
use Rattle.std.proofs.Common.{sym, ap, ap₂, ◌∙◌, subst, arith, get_or-take}
use borrow.Author.Tests.{ltb-false}
use Rattle.std.specs.Float.{nan, binary64}
use Rattle.std.specs.Float.Ieee.Fits.{add-fits}
use Rattle.laws.specs.Tests.{both, neither}
use Rattle.numbers.specs.Float.{◌⊗◌, is_finite}
use Rattle.exact.specs.Units.{widen}
use Rattle.outline.specs.declared.Point.{Point}
use Rattle.outline.specs.Outline.{Outline, point, outline_refusal}
use Rattle.outline.specs.Accepted.{OutlineFits, PointFits}
use Rattle.outline.proofs.Inside.{inside}
use Rattle.geometry.specs.Plane.{convex_ccw}
use Rattle.front.specs.declared.Corner.{Corner}
use Rattle.front.specs.declared.Corner.TheVariants.{Reused, Fresh}
use Rattle.front.specs.State.{State, node_in, node, node_places}
use Rattle.front.specs.Neighbours.{next_at, prev_at, is_at}
use Rattle.front.specs.Place.{added, id_c, id_d, place, is_full}
use Rattle.front.specs.Sound.{Sound, Frame}
use Rattle.front.proofs.FrameLaws.{frame_node}
use Rattle.paving.specs.Checks.{node_ok, corner_free, corners_apart, corners_of, quad_ok, quad_fits}
use Rattle.paving.specs.Attempt.{is_reused, corner_at, ideal, corner_c, corner_d}
use Rattle.paving.proofs.AttemptLaws.{QuadChosen, quad_chosen}
use Rattle.paving.specs.Advance.{with_snapshot}
use Rattle.paving.specs.Reach.{Placement, Reaches, begin, snapshot, placed}
use Rattle.books.specs.Book.{Book, Quad, quad_at}
use Rattle.books.proofs.Matches.{Matches}
use Rattle.books.proofs.BookBase.{frame_quad}
use Rattle.books.specs.Holds.{QuadHolds}
use Rattle.books.proofs.Step.{answered_step}
use Rattle.books_bounded.proofs.Point.{Bounded}
use Rattle.books_bounded.proofs.Corners.{CornersBounded, node_of, corners_in, quad_holds}
use Rattle.books_bounded.proofs.Nodes.{AllNodes, IfNew, Roomy, place_nodes}

-- ---- the checks that a placing has passed

record Checked (o : Outline) (size : Float) (s : State) (a b : ℕ) (c d : Corner) : Type 0 where
  free_c : corner_free o size s c ≡ true
  free_d : corner_free o size s d ≡ true
  convex : convex_ccw (corners_of s a b c d) ≡ true

checked : (o : Outline) (size : Float) (s : State) (a b : ℕ) (c d : Corner) → quad_fits o size s a b c d ≡ true → Checked o size s a b c d
unfolding quad_fits quad_ok
checked o size s a b c d e =
    let t₁ = (both (not (eqb (id_c s c) (id_d s c d))) _ e).1 in
    let t₂ = both (corner_free o size s c) _ t₁ in
    let t₃ = both (corner_free o size s d) _ t₂.1 in
    let t₄ = (both (corners_apart size c d) _ t₃.1).1 in
    let t₅ = (both (not (is_at (next_at s (id_c s c)) (id_d s c d))) _ t₄).1 in
    record { free_c = t₂.0; free_d = t₃.0; convex = (both _ _ t₅).0 }

-- ---- a book that matches a state has its nodes

matched_node : (t : State) {ms : List (List ℕ)} (book : Book) → Matches t ms book → (id : ℕ) → id < t.counts.nodes → node_of book id ≡ node t id
unfolding node_in
matched_node t book M id l =
    ap₂ point (ap (λ (z : List Float). get_or z id nan) (sym M.xs) ∙ get_or-take t.counts.nodes t.xs id nan l)
    (ap (λ (z : List Float). get_or z id nan) (sym M.ys) ∙ get_or-take t.counts.nodes t.ys id nan l)

-- ---- a new corner

-- a new corner is computed as a sum, so it is a double
corner_fits : (size : Float) (s : State) (other : ℕ) (n : Option ℕ) (p d : Point) → IfNew PointFits (corner_at size s other n (ideal size p d))
unfolding corner_at ideal
corner_fits size s other n p d = by n
  where
    sums : PointFits (ideal size p d)
    sums = record { x = add-fits binary64 p.x (size ⊗ d.x); y = add-fits binary64 p.y (size ⊗ d.y) }

    go : (v : ℕ) (t : Bool) → IfNew PointFits (cond t (Reused v) (Fresh (ideal size p d).x (ideal size p d).y))
    go v true = tt
    go v false = sums

    by : (n : Option ℕ) → IfNew PointFits (corner_at size s other n (ideal size p d))
    by None = sums
    by (Some v) = go v (is_reused size s other v (ideal size p d))

module _ (o : Outline) (fits : OutlineFits o) (taken : outline_refusal o ≡ 0) where
  node_bounded : (size : Float) (s : State) (p : Point) → PointFits p → node_ok o size s p ≡ true → Bounded p
  unfolding node_ok
  node_bounded size s p f e =
      let t₁ = both (is_finite p.x) _ e in
      let t₂ = both (is_finite p.y) _ t₁.1 in
      let w = inside o p fits taken f t₁.0 t₂.0 (both _ _ t₂.1).0 in
      record { fits = f; within = record { x = w.x; y = widen 1001 tt w.y } }

  corner_bounded : (size : Float) (s : State) (c : Corner) → IfNew PointFits c → corner_free o size s c ≡ true → IfNew Bounded c
  unfolding corner_free
  corner_bounded size s (Reused id) f e = tt
  corner_bounded size s (Fresh x y) f e = node_bounded size s (point x y) f e

  module _ {size : Float} {s : State} {a b : ℕ} {c d : Corner} (P : Placement o size s a b c d) where
    chosen : QuadChosen o size s a b P.da P.db c d
    chosen = quad_chosen o size s a b P.da P.db c d P.answered

    checks : Checked o size s a b c d
    checks = checked o size s a b c d chosen.checks

    new_c_lem : IfNew Bounded c
    unfolding corner_c
    new_c_lem =
        corner_bounded size s c (subst (IfNew PointFits) chosen.at_c (corner_fits size s b (prev_at s a) (node s a) P.da)) checks.free_c

    new_d_lem : IfNew Bounded d
    unfolding corner_d
    new_d_lem =
        corner_bounded size s d (subst (IfNew PointFits) chosen.at_d (corner_fits size s a (next_at s b) (node s b) P.db)) checks.free_d

    room : AllNodes Bounded s → Roomy Bounded (added c + added d) s
    unfolding is_full node_places
    room h =
        let l = ltb-false (node_places s) (s.counts.nodes + added c + added d) (neither _ _ P.fits).0 in
        record { nodes = h; xs = omega (arith, l); ys = omega (arith, l) }

    -- after a placing every node is bounded, if every one was before
    pub place_bounded : AllNodes Bounded s → AllNodes Bounded (place a b c d s)
    place_bounded h = place_nodes Bounded a b c d s (room h) new_c_lem new_d_lem

  snapshot_bounded : (s : State) → AllNodes Bounded s → AllNodes Bounded (with_snapshot s)
  unfolding with_snapshot
  snapshot_bounded s h = h

  -- so every node of a run is bounded, if the first are
  pub reaches_bounded : {size : Float} {s t : State} {k : ℕ} → AllNodes Bounded s → Reaches o size s k t → AllNodes Bounded t
  reaches_bounded h begin = h
  reaches_bounded h (snapshot {t = t} r) = snapshot_bounded t (reaches_bounded h r)
  reaches_bounded h (placed r P) = place_bounded P (reaches_bounded h r)

  -- ---- the quad

  -- the corners of a quad that is placed on a sound state
  pub placement_bounded : {n : ℕ} {ls : List (List ℕ)} {size : Float} {s : State} {a b : ℕ} {c d : Corner} → Sound n s ls → AllNodes Bounded s
      → Placement o size s a b c d → CornersBounded (corners_of s a b c d)
  placement_bounded {n} {ls} {size} {s} {a} {b} {c} {d} S h P =
      let T = answered_step n s ls o size a b c d S P in
      let after = place_bounded P h in
      record {
        a = h a T.node_a;
        b = h b T.node_b;
        d = subst Bounded T.at_d (after (id_d s c d) T.node_d);
        c = subst Bounded T.at_c (after (id_c s c) T.node_c);
      }

  -- the quad holds in every book that has its corners
  pub placement_holds : {n : ℕ} {ls : List (List ℕ)} {size : Float} {s : State} {a b : ℕ} {c d : Corner} → Sound n s ls → AllNodes Bounded s
      → Placement o size s a b c d → (book : Book) (q : Quad) → corners_in book q ≡ corners_of s a b c d → QuadHolds book q
  placement_holds S h P book q e = quad_holds book q (subst CornersBounded (sym e) (placement_bounded S h P)) (ap convex_ccw e ∙ (checks P).convex)

  -- so in a book that matches a later state
  pub matched_holds : {n : ℕ} {ls ms : List (List ℕ)} {size : Float} {s t : State} {a b : ℕ} {c d : Corner} → Sound n s ls → AllNodes Bounded s
      → Placement o size s a b c d → Frame (place a b c d s) t → (book : Book) → Matches t ms book → QuadHolds book (quad_at t s.counts.quads)
  matched_holds {n} {ls} {ms} {size} {s} {t} {a} {b} {c} {d} S h P F book M =
      let T = answered_step n s ls o size a b c d S P in
      let u = place a b c d s in
      let is = frame_quad u t F s.counts.quads (omega (arith, T.quads)) ∙ T.quad in
      let at_a = later a (omega (arith, T.node_a, T.nodes)) ∙ frame_node s u T.frame a T.node_a in
      let at_b = later b (omega (arith, T.node_b, T.nodes)) ∙ frame_node s u T.frame b T.node_b in
      let at_d = later (id_d s c d) T.node_d ∙ T.at_d in
      let at_c = later (id_c s c) T.node_c ∙ T.at_c in
      placement_holds S h P book (quad_at t s.counts.quads) (ap (corners_in book) is ∙ rw (at_a, at_b, at_d, at_c) refl)
    where
      later : (id : ℕ) → id < (place a b c d s).counts.nodes → node_of book id ≡ node (place a b c d s) id
      later id l = matched_node t book M id (omega (arith, F.nodes)) ∙ frame_node (place a b c d s) t F id l
