-- Each check reads only the lists that its function is lent; so an attempt on a state is that on what `seen_of` keeps of it. Assumes nothing.
use Rattle.std.specs.Prelude.{◌≡◌, [], ℕ, Float, Option, Some, None}
use Rattle.std.proofs.Math.Path.{refl}
use Rattle.std.proofs.Common.{sym, ◌∙◌}
use Rattle.numbers.specs.Float.{◌⊖◌}
use Rattle.outline.specs.declared.Point.{Point}
use Rattle.outline.specs.Outline.{Outline}
use Rattle.geometry.specs.declared.Corners.{Corners}
use Rattle.exact.specs.Corner.{norm}
use Rattle.field_direction.specs.Record.{FieldRecord, field_record}
use Rattle.field_direction.specs.Direction.{nearest_direction}
use Rattle.front.specs.declared.Corner.{Corner}
use Rattle.front.specs.declared.Corner.TheVariants.{Reused, Fresh}
use Rattle.front.specs.State.{State, node}
use Rattle.front.specs.Neighbours.{next_at, prev_at}
use Rattle.front.specs.Place.{corner_point}
use Rattle.paving.specs.Checks.{too_close, node_ok, corner_free, node_inside}
use Rattle.paving.specs.Checks.{edge_crosses, edges_free, corners_of, quad_ok, quad_fits}
use Rattle.paving.specs.Attempt.{is_reused, corner_at, corner_c, corner_d, ideal, attempt_quad, normal_of, try_toward, try_edge}
use Rattle.paving_attempts.specs.Seen.{seen_of, seen_nodes, seen_points, seen_edges}

-- ---- what each function reads

module _ (s : State) where
  pub corner_point_seen : (c : Corner) → corner_point (seen_points s.xs s.ys) c ≡ corner_point s c
  corner_point_seen (Reused id) = refl
  corner_point_seen (Fresh x y) = refl

  pub corners_seen : (a b : ℕ) (c d : Corner) → corners_of (seen_points s.xs s.ys) a b c d ≡ corners_of s a b c d
  corners_seen a b c d = rw (corner_point_seen c, corner_point_seen d)

  pub corner_free_seen : (o : Outline) (size : Float) (c : Corner)
      → corner_free o size (seen_nodes s.xs s.ys s.counts) c ≡ corner_free o size s c
  unfolding corner_free node_ok too_close
  corner_free_seen o size (Reused id) = refl
  corner_free_seen o size (Fresh x y) = refl

  pub node_inside_seen : (size : Float) (p : Corners) (a b d c : ℕ)
      → node_inside size (seen_nodes s.xs s.ys s.counts) p a b d c ≡ node_inside size s p a b d c
  unfolding node_inside
  node_inside_seen size p a b d c = refl

  pub edges_free_seen : (size : Float) (a b : ℕ) (c d : Corner)
      → edges_free size (seen_edges s.xs s.ys s.edges s.counts) a b c d ≡ edges_free size s a b c d
  unfolding edges_free edge_crosses
  edges_free_seen size a b (Reused u) (Reused v) = refl
  edges_free_seen size a b (Reused u) (Fresh x y) = refl
  edges_free_seen size a b (Fresh x y) (Reused v) = refl
  edges_free_seen size a b (Fresh x y) (Fresh z w) = refl

  pub corner_at_seen : (size : Float) (other : ℕ) (n : Option ℕ) (p : Point)
      → corner_at size (seen_points s.xs s.ys) other n p ≡ corner_at size s other n p
  unfolding corner_at is_reused
  corner_at_seen size other None p = refl
  corner_at_seen size other (Some v) p = refl

  quad_fits_seen : (o : Outline) (size : Float) (a b : ℕ) (c d : Corner) → quad_fits o size (seen_of s) a b c d ≡ quad_fits o size s a b c d
  unfolding quad_fits corner_free node_ok too_close quad_ok node_inside edges_free edge_crosses
  quad_fits_seen o size a b (Reused u) (Reused v) = refl
  quad_fits_seen o size a b (Reused u) (Fresh x y) = refl
  quad_fits_seen o size a b (Fresh x y) (Reused v) = refl
  quad_fits_seen o size a b (Fresh x y) (Fresh z w) = refl

-- a corner depends on no more of a state than its points
pub corner_same : (s t : State) (size : Float) (other : ℕ) (n : Option ℕ) (p : Point)
    → corner_at size (seen_points s.xs s.ys) other n p ≡ corner_at size (seen_points t.xs t.ys) other n p
    → corner_at size s other n p ≡ corner_at size t other n p
corner_same s t size other n p e = sym (corner_at_seen s size other n p) ∙ e ∙ corner_at_seen t size other n p

-- ---- an attempt

corner_c_seen : (s : State) (size : Float) (a b : ℕ) (da : Point) → corner_c size (seen_of s) a b da ≡ corner_c size s a b da
unfolding corner_c
corner_c_seen s size a b da = corner_same (seen_of s) s size b (prev_at s a) (ideal size (node s a) da) refl

corner_d_seen : (s : State) (size : Float) (a b : ℕ) (db : Point) → corner_d size (seen_of s) a b db ≡ corner_d size s a b db
unfolding corner_d
corner_d_seen s size a b db = corner_same (seen_of s) s size a (next_at s b) (ideal size (node s b) db) refl

-- an attempt on a state is that on what it reads of it
pub attempt_seen : (s : State) (o : Outline) (size : Float) (a b : ℕ) (da db : Point)
    → attempt_quad o size (seen_of s) a b da db ≡ attempt_quad o size s a b da db
unfolding attempt_quad
attempt_seen s o size a b da db =
    rw (
      corner_c_seen s size a b da,
      corner_d_seen s size a b db,
      quad_fits_seen s o size a b (corner_c size s a b da) (corner_d size s a b db),
    )

-- and so is a front edge that is tried; of a field it reads the grid and the values
pub try_seen : (s : State) (field : FieldRecord) (o : Outline) (size : Float) (a b : ℕ)
    → try_edge o size (field_record field.grid field.lists.values []) (seen_of s) a b ≡ try_edge o size field s a b
unfolding try_edge try_toward nearest_direction
try_seen s field o size a b =
    let bx = (node s b).x ⊖ (node s a).x in
    let by' = (node s b).y ⊖ (node s a).y in
    let normal = normal_of bx by' (norm bx by') in
    let da = nearest_direction field (node s a) normal in
    let db = nearest_direction field (node s b) normal in
    rw (attempt_seen s o size a b da db, attempt_seen s o size a b normal normal)
