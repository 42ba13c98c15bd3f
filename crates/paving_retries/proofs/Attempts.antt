-- An attempt on a front edge that fails in a state fails in every later one in which the edge has the same neighbours: `try_fails`. Function by
-- function along the definitions of the choice of corners and of the checks.
use Rattle.std.specs.Prelude.{ℕ, ◌+◌, ◌<◌, List, Bool, ◌&&◌, ◌≢◌, Float, Option, Some, None}
use Rattle.std.proofs.Math.Path.{◌≡◌, refl, ap, ap₂}
use Rattle.std.proofs.Common.{sym, ◌∙◌, true≢false, arith}
use Rattle.std.proofs.Math.Bool.{true, false, not, cond}
use Rattle.std.proofs.Math.Dec.{eqb}
use Rattle.std.specs.Float.Ieee.{le}
use borrow.Author.Tests.{eqb-false}
use Rattle.numbers.specs.Float.{◌⊖◌, ◌⊗◌, tolerance}
use Rattle.outline.specs.declared.Point.{Point}
use Rattle.outline.specs.Outline.{Outline}
use Rattle.exact.specs.Corner.{norm}
use Rattle.geometry.specs.Plane.{distance}
use Rattle.field_direction.specs.Record.{FieldRecord}
use Rattle.field_direction.specs.Direction.{nearest_direction}
use Rattle.topology.specs.Links.{off, link_out}
use Rattle.topology.proofs.Front.{source, target, next_edge, next_in, next_of_prev, prev_in}
use Rattle.front.specs.declared.Corner.{Corner}
use Rattle.front.specs.declared.Corner.TheVariants.{Reused, Fresh}
use Rattle.front.specs.State.{State, node, next_of, prev_of}
use Rattle.front.specs.Neighbours.{neighbour_of, next_at, is_at}
use Rattle.front.specs.Place.{id_c, id_d}
use Rattle.front.specs.Ready.{Chosen}
use Rattle.front.specs.Sound.{Sound}
use Rattle.front.proofs.Pushed.{IsNode}
use Rattle.front.specs.declared.FarCorners.{FarCorners}
use Rattle.paving.specs.Checks.{corners_apart, quad_fits}
use Rattle.paving.specs.Attempt.{reuse, is_reused, corner_at, ideal, corner_c, corner_d, quad_if, attempt_quad, or_else, normal_of, try_toward, try_edge}
use Rattle.books.proofs.Answered.{chosen}
use Rattle.paving_retries.specs.Grows.{Grows, and_keeps, then_keeps, differs, free_before, ok_before}

-- ---- corners

-- what is chosen among nodes is a node
chosen_in : (n : ℕ) (c : Corner) (other v : ℕ) → (v ≢ off → v < n) → Chosen c other v → IsNode n c
chosen_in n (Reused id) other v inside h = omega (arith, h.0, inside (λ e. h.1 (sym h.0 ∙ e)))
chosen_in n (Fresh x y) other v inside h = tt

-- ---- the checks on ids

module _ (n : ℕ) (s t : State) (ls : List (List ℕ)) (S : Sound n s ls) (G : Grows s t) where
  abbrev N : ℕ
  N = s.counts.nodes

  -- c and d are two nodes: new ones always, and reused ones in both states or in neither
  apart_before : (c d : Corner) → IsNode N c → IsNode N d → not (eqb (id_c t c) (id_d t c d)) ≡ true → not (eqb (id_c s c) (id_d s c d)) ≡ true
  apart_before (Reused c) (Reused d) hc hd e = e
  apart_before (Reused c) (Fresh x y) hc hd e = differs c (N + 0) (omega arith)
  apart_before (Fresh x y) (Reused d) hc hd e = differs N d (omega arith)
  apart_before (Fresh x y) (Fresh z w) hc hd e = differs N (N + 1) (omega arith)

  -- next(c) is d only where both are `off`: c to d is no front edge
  pub never_across : (a b : ℕ) → a < N → (c d : Corner) → Chosen c b (prev_of s a) → Chosen d a (next_of s b)
      → next_of s (id_c s c) ≡ id_d s c d → next_of s (id_c s c) ≡ off
  never_across a b ha (Reused c) d hc hd e =
      absurd (away d hd (sym (next_of_prev N (next_of s) (prev_of s) ls S.front c a hc.1 hc.0) ∙ e))
    where
      away : (d : Corner) → Chosen d a (next_of s b) → a ≢ id_d s (Reused c) d
      away (Reused d) h = λ q. h.2 (sym q)
      away (Fresh x y) h = omega arith
  never_across a b ha (Fresh x y) d hc hd e = link_out N s.next N (omega arith)

  -- so the check passes in every sound state
  across_passes : (a b : ℕ) → a < N → (c d : Corner) → Chosen c b (prev_of s a) → Chosen d a (next_of s b)
      → not (is_at (next_at s (id_c s c)) (id_d s c d)) ≡ true
  unfolding neighbour_of
  across_passes a b ha c d hc hd = by (eqb (next_of s (id_c s c)) off) refl
    where
      by : (i : Bool) → eqb (next_of s (id_c s c)) off ≡ i → not (is_at (cond i None (Some (next_of s (id_c s c)))) (id_d s c d)) ≡ true
      by true e = refl
      by false e = differs (next_of s (id_c s c)) (id_d s c d) (λ q. eqb-false (next_of s (id_c s c)) off e (never_across a b ha c d hc hd q))

  -- ---- all the checks

  fits_before : (o : Outline) (size : Float) (a b : ℕ) → a < N → b < N → (c d : Corner) → Chosen c b (prev_of s a) → Chosen d a (next_of s b)
      → IsNode N c → IsNode N d → quad_fits o size t a b c d ≡ true → quad_fits o size s a b c d ≡ true
  unfolding quad_fits
  fits_before o size a b ha hb c d hc hd nc nd =
      and_keeps _ _ _ _ (apart_before c d nc nd)
      (and_keeps _ _ _ _ (free_before s t G o size c)
      (and_keeps _ _ _ _ (free_before s t G o size d)
      (then_keeps (corners_apart size c d) _ _
      (and_keeps (not (is_at (next_at t (id_c t c)) (id_d t c d))) _ _ _ (λ e. across_passes a b ha c d hc hd) (ok_before s t G o size a b ha hb c d nc nd)))))

  -- ---- an attempt

  module _ (o : Outline) (size : Float) (a b : ℕ) (on : b ≢ off) (edge : next_of s a ≡ b) (prev : prev_of t a ≡ prev_of s a)
      (next : next_of t b ≡ next_of s b) where
    ha : a < N
    ha = source N (next_of s) ls S.front.loops a b (omega (arith, next_edge N (next_of s) ls S.front.loops a b on edge))

    hb : b < N
    hb = target N (next_of s) ls S.front.loops a b (omega (arith, next_edge N (next_of s) ls S.front.loops a b on edge))

    prev_node : prev_of s a ≢ off → prev_of s a < N
    prev_node h = (prev_in N (next_of s) (prev_of s) ls S.front a h).0

    next_node : next_of s b ≢ off → next_of s b < N
    next_node = next_in N (next_of s) ls S.front.loops b

    -- the corners are chosen alike
    corner_same : (other v : ℕ) (p : Point) → (v ≢ off → v < N) → corner_at size t other (neighbour_of v) p ≡ corner_at size s other (neighbour_of v) p
    unfolding corner_at is_reused neighbour_of
    corner_same other v p inside = by (eqb v off) refl
      where
        by : (i : Bool) → eqb v off ≡ i → corner_at size t other (cond i None (Some v)) p ≡ corner_at size s other (cond i None (Some v)) p
        by true e = refl
        by false e =
            ap (λ (q : Point). cond (not (eqb v other) && le (distance q p) (reuse ⊗ size)) (Reused v) (Fresh p.x p.y))
            (G.points v (inside (eqb-false v off e)))

    corner_c_lem : (da : Point) → corner_c size t a b da ≡ corner_c size s a b da
    unfolding corner_c
    corner_c_lem da =
        ap₂ (λ (v : ℕ) (p : Point). corner_at size t b (neighbour_of v) (ideal size p da)) prev (G.points a ha)
        ∙ corner_same b (prev_of s a) (ideal size (node s a) da) prev_node

    corner_d_lem : (db : Point) → corner_d size t a b db ≡ corner_d size s a b db
    unfolding corner_d
    corner_d_lem db =
        ap₂ (λ (v : ℕ) (p : Point). corner_at size t a (neighbour_of v) (ideal size p db)) next (G.points b hb)
        ∙ corner_same a (next_of s b) (ideal size (node s b) db) next_node

    chosen_c : (da : Point) → Chosen (corner_c size s a b da) b (prev_of s a)
    unfolding corner_c
    chosen_c da = chosen size s b (prev_of s a) (ideal size (node s a) da) _ refl

    chosen_d : (db : Point) → Chosen (corner_d size s a b db) a (next_of s b)
    unfolding corner_d
    chosen_d db = chosen size s a (next_of s b) (ideal size (node s b) db) _ refl

    -- with any directions
    attempt_fails : (da db : Point) → attempt_quad o size s a b da db ≡ None → attempt_quad o size t a b da db ≡ None
    unfolding attempt_quad
    attempt_fails da db e =
        let c = corner_c size s a b da in
        let d = corner_d size s a b db in
        let nc = chosen_in N c b (prev_of s a) prev_node (chosen_c da) in
        let nd = chosen_in N d a (next_of s b) next_node (chosen_d db) in
        rw (corner_c_lem da, corner_d_lem db)
        (by c d (quad_fits o size s a b c d) (quad_fits o size t a b c d) (fits_before o size a b ha hb c d (chosen_c da) (chosen_d db) nc nd) e)
      where
        by : (c d : Corner) (before after : Bool) → (after ≡ true → before ≡ true) → quad_if before c d ≡ None → quad_if after c d ≡ None
        by c d before false f e = refl
        by c d true true f e = absurd (let z : ◌≡◌ {A = ℕ} 0 1 = cc in omega arith)
        by c d false true f e = absurd (true≢false (sym (f refl)))

    -- with the directions of the field, then with the edge's normal
    pub try_fails : (field : FieldRecord) → try_edge o size field s a b ≡ None → try_edge o size field t a b ≡ None
    unfolding try_edge try_toward
    try_fails field e =
        let bx = (node s b).x ⊖ (node s a).x in
        let by = (node s b).y ⊖ (node s a).y in
        let normal = normal_of bx by (norm bx by) in
        let da = nearest_direction field (node s a) normal in
        let db = nearest_direction field (node s b) normal in
        rw (G.points a ha, G.points b hb)
        (choose (le (norm bx by) tolerance) (attempt_quad o size s a b da db) (attempt_quad o size s a b normal normal)
        (attempt_quad o size t a b da db) (attempt_quad o size t a b normal normal) (attempt_fails da db) (attempt_fails normal normal) e)
      where
        choose : (short : Bool) (x y x' y' : Option FarCorners) → (x ≡ None → x' ≡ None) → (y ≡ None → y' ≡ None)
            → cond short None (or_else x y) ≡ None → cond short None (or_else x' y') ≡ None
        choose true x y x' y' f g e = refl
        choose false None y x' y' f g e = rw (f refl) (g e)
        choose false (Some q) y x' y' f g e = absurd (let z : ◌≡◌ {A = ℕ} 0 1 = cc in omega arith)
