-- What holds of the definitions of specs/Attempts.antt.
use Rattle.std.specs.Prelude.{ℕ, ◌+◌, ◌*◌, ◌<◌, List, ◌≡◌, Bool, cond, ◌≢◌, Float, Some, None}
use Rattle.std.proofs.Math.Path.{refl, ap, ap₂}
use Rattle.std.proofs.Common.{◌∙◌}
use Rattle.std.proofs.Math.Bool.{true, false}
use native.Mathlib.Omega.{arith}
use Rattle.std.proofs.Math.Dec.{eqb}
use Rattle.std.proofs.lemmas.Bool.{eqb-false}
use Rattle.laws.specs.Loop.{any_up}
use Rattle.laws.proofs.Sums.{any_same}
use Rattle.outline.specs.declared.Point.{Point}
use Rattle.outline.specs.Outline.{Outline, point}
use Rattle.geometry.specs.declared.Corners.{Corners}
use Rattle.topology.specs.Links.{off}
use Rattle.topology.proofs.Front.{next_in, prev_in}
use Rattle.field_direction.specs.Record.{FieldRecord}
use Rattle.front.specs.declared.Corner.{Corner}
use Rattle.front.specs.declared.Corner.TheVariants.{Reused, Fresh}
use Rattle.front.specs.State.{State, node, next_of, prev_of}
use Rattle.front.specs.Neighbours.{neighbour_of}
use Rattle.front.specs.Place.{corner_point, corner_id, id_c, id_d, added}
use Rattle.front.specs.Sound.{Sound}
use Rattle.front.proofs.Pushed.{IsNode}
use Rattle.paving.specs.Checks.{close_node, too_close, node_ok, corner_free, blocks, node_inside, crosses_edge, edge_crosses, side_crosses}
use Rattle.paving.specs.Checks.{edges_free, corners_of, quad_ok, quad_fits}
use Rattle.paving.specs.Attempt.{is_reused, corner_at, ideal, corner_c, corner_d, quad_if, attempt_quad, try_toward, try_edge}
use Rattle.run_capacity.proofs.Alike.{EdgesAlike, Alike, next_alike, prev_alike}

-- ---- what an attempt reads

pub record ReadsAlike (s t : State) : Type 0 where
  pub nodes : t.counts.nodes ≡ s.counts.nodes
  pub points : (id : ℕ) → id < s.counts.nodes → node t id ≡ node s id
  pub next : (u : ℕ) → next_of t u ≡ next_of s u
  pub prev : (u : ℕ) → prev_of t u ≡ prev_of s u
  pub next_node : (u : ℕ) → next_of s u ≢ off → next_of s u < s.counts.nodes
  pub prev_node : (u : ℕ) → prev_of s u ≢ off → prev_of s u < s.counts.nodes
  pub edges : EdgesAlike s.counts.nodes s t

pub reads_alike : (n : ℕ) (s t : State) (ls ms : List (List ℕ)) → Sound n s ls → Sound n t ms → Alike s t ls ms → ReadsAlike s t
reads_alike n s t ls ms S T A =
    record {
      nodes = A.nodes;
      points = A.points;
      next = next_alike n s t ls ms S T A;
      prev = prev_alike n s t ls ms S T A;
      next_node = next_in _ _ ls S.front.loops;
      prev_node = λ u on. (prev_in _ _ _ ls S.front u on).0;
      edges = A.edges;
    }

module _ (s t : State) (R : ReadsAlike s t) where
  abbrev N : ℕ
  N = s.counts.nodes

  -- ---- the choice of corners

  corner_alike : (size : Float) (other v : ℕ) (p : Point) → (v ≢ off → v < N)
      → corner_at size t other (neighbour_of v) p ≡ corner_at size s other (neighbour_of v) p
  unfolding corner_at is_reused neighbour_of
  corner_alike size other v p inside = by (eqb v off) refl
    where
      by : (b : Bool) → eqb v off ≡ b → corner_at size t other (cond b None (Some v)) p ≡ corner_at size s other (cond b None (Some v)) p
      by true e = refl
      by false e = rw (R.points v (inside (eqb-false v off e)))

  corner_in : (size : Float) (other v : ℕ) (p : Point) → (v ≢ off → v < N) → IsNode N (corner_at size s other (neighbour_of v) p)
  unfolding corner_at neighbour_of
  corner_in size other v p inside = by (eqb v off) refl
    where
      at : v < N → (b : Bool) → IsNode N (cond b (Reused v) (Fresh p.x p.y))
      at h true = h
      at h false = tt

      by : (b : Bool) → eqb v off ≡ b → IsNode N (corner_at size s other (cond b None (Some v)) p)
      by true e = tt
      by false e = at (inside (eqb-false v off e)) (is_reused size s other v p)

  corner_c_lem : (size : Float) (a b : ℕ) (d : Point) → a < N → corner_c size t a b d ≡ corner_c size s a b d
  unfolding corner_c
  corner_c_lem size a b d h =
      ap₂ (λ (v : ℕ) (p : Point). corner_at size t b (neighbour_of v) (ideal size p d)) (R.prev a) (R.points a h)
      ∙ corner_alike size b (prev_of s a) (ideal size (node s a) d) (R.prev_node a)

  corner_d_lem : (size : Float) (a b : ℕ) (d : Point) → b < N → corner_d size t a b d ≡ corner_d size s a b d
  unfolding corner_d
  corner_d_lem size a b d h =
      ap₂ (λ (v : ℕ) (p : Point). corner_at size t a (neighbour_of v) (ideal size p d)) (R.next b) (R.points b h)
      ∙ corner_alike size a (next_of s b) (ideal size (node s b) d) (R.next_node b)

  -- ---- the checks

  pub point_alike : (c : Corner) → IsNode N c → corner_point t c ≡ corner_point s c
  point_alike (Reused id) h = R.points id h
  point_alike (Fresh x y) h = refl

  pub id_c_lem : (c : Corner) → id_c t c ≡ id_c s c
  id_c_lem c = ap (λ (n : ℕ). corner_id n c) R.nodes

  pub id_d_lem : (c d : Corner) → id_d t c d ≡ id_d s c d
  id_d_lem c d = ap (λ (n : ℕ). corner_id (n + added c) d) R.nodes

  -- a search over the nodes
  nodes_alike : (f g : ℕ → Bool) → ((id : ℕ) → id < N → f id ≡ g id) → any_up t.counts.nodes f ≡ any_up N g
  nodes_alike f g same = ap (λ (n : ℕ). any_up n f) R.nodes ∙ any_same f g N same

  close_alike : (size : Float) (p : Point) → too_close size t p ≡ too_close size s p
  unfolding too_close
  close_alike size p = nodes_alike (close_node size t p) (close_node size s p) (λ id h. rw (R.points id h))

  free_alike : (o : Outline) (size : Float) (c : Corner) → corner_free o size t c ≡ corner_free o size s c
  unfolding corner_free node_ok
  free_alike o size (Reused id) = refl
  free_alike o size (Fresh x y) = rw (close_alike size (point x y))

  inside_alike : (size : Float) (p : Corners) (a b d c : ℕ) → node_inside size t p a b d c ≡ node_inside size s p a b d c
  unfolding node_inside
  inside_alike size p a b d c = nodes_alike (blocks size t p a b d c) (blocks size s p a b d c) (λ id h. rw (R.points id h))

  crosses_alike : (size : Float) (p q : Point) (u v : ℕ) → edge_crosses size t p q u v ≡ edge_crosses size s p q u v
  unfolding edge_crosses
  crosses_alike size p q u v =
      let E = R.edges in
      ap (λ (n : ℕ). any_up n (crosses_edge size t p q u v)) E.number
      ∙ any_same (crosses_edge size t p q u v) (crosses_edge size s p q u v) s.counts.edges
      (λ k h.
      let i : 2 * k < 2 * s.counts.edges = omega arith in
      let j : 2 * k + 1 < 2 * s.counts.edges = omega arith in
      rw (E.ends (2 * k) i, E.ends (2 * k + 1) j, R.points _ (E.below (2 * k) i), R.points _ (E.below (2 * k + 1) j)))

  side_alike : (size : Float) (c : Corner) (id to : ℕ) → to < N → side_crosses size t c id to ≡ side_crosses size s c id to
  side_alike size (Reused v) id to h = refl
  side_alike size (Fresh x y) id to h =
      ap (λ (p : Point). edge_crosses size t (point x y) p id to) (R.points to h) ∙ crosses_alike size (point x y) (node s to) id to

  module _ (o : Outline) (size : Float) (a b : ℕ) (ha : a < N) (hb : b < N) (c d : Corner) (hc : IsNode N c) (hd : IsNode N d) where
    edges_free_lem : edges_free size t a b c d ≡ edges_free size s a b c d
    unfolding edges_free
    edges_free_lem =
        let C = id_c s c in
        let D = id_d s c d in
        rw (
          id_c_lem c,
          id_d_lem c d,
          side_alike size c C a ha,
          side_alike size d D b hb,
          point_alike c hc,
          point_alike d hd,
          crosses_alike size (corner_point s c) (corner_point s d) C D,
        )

    pub corners_alike : corners_of t a b c d ≡ corners_of s a b c d
    corners_alike = rw (R.points a ha, R.points b hb, point_alike c hc, point_alike d hd)

    quad_ok_lem : quad_ok o size t a b c d ≡ quad_ok o size s a b c d
    unfolding quad_ok
    quad_ok_lem = rw (corners_alike, id_c_lem c, id_d_lem c d, inside_alike size (corners_of s a b c d) a b (id_d s c d) (id_c s c), edges_free_lem)

    fits_alike : quad_fits o size t a b c d ≡ quad_fits o size s a b c d
    unfolding quad_fits
    fits_alike = rw (id_c_lem c, id_d_lem c d, free_alike o size c, free_alike o size d, R.next (id_c s c), quad_ok_lem)

  -- ---- an attempt

  module _ (o : Outline) (size : Float) (a b : ℕ) (ha : a < N) (hb : b < N) where
    pub in_c : (da : Point) → IsNode N (corner_c size s a b da)
    unfolding corner_c
    in_c da = corner_in size b (prev_of s a) (ideal size (node s a) da) (R.prev_node a)

    pub in_d : (db : Point) → IsNode N (corner_d size s a b db)
    unfolding corner_d
    in_d db = corner_in size a (next_of s b) (ideal size (node s b) db) (R.next_node b)

    attempt_alike : (da db : Point) → attempt_quad o size t a b da db ≡ attempt_quad o size s a b da db
    unfolding attempt_quad
    attempt_alike da db =
        let c = corner_c size s a b da in
        let d = corner_d size s a b db in
        rw (corner_c_lem size a b da ha, corner_d_lem size a b db hb)
        (ap (λ (ok : Bool). quad_if ok c d) (fits_alike o size a b ha hb c d (in_c da) (in_d db)))

    -- the edge a to b answers the same
    pub try_alike : (field : FieldRecord) → try_edge o size field t a b ≡ try_edge o size field s a b
    unfolding try_edge try_toward
    try_alike field = rw (R.points a ha, R.points b hb) (simp attempt_alike)
