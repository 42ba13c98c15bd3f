-- The choice of corners, `attempt_quad` up to the commit, and `try_edge` of src/alt_crossfield.rs. Definitions only.
use Rattle.std.specs.Prelude.{Bool, not, ◌&&◌, cond, ℕ, eqb, Float, Option, Some, None}
use Rattle.std.specs.Float.Ieee.{neg, le}
use Rattle.numbers.specs.Float.{◌⊕◌, ◌⊖◌, ◌⊗◌, ◌⊘◌, bits, tolerance}
use Rattle.outline.specs.declared.Point.{Point}
use Rattle.outline.specs.Outline.{Outline, point}
use Rattle.exact.specs.Corner.{norm}
use Rattle.geometry.specs.Plane.{distance}
use Rattle.field_direction.specs.Record.{FieldRecord}
use Rattle.field_direction.specs.Direction.{nearest_direction}
use Rattle.front.specs.declared.Corner.{Corner}
use Rattle.front.specs.declared.Corner.TheVariants.{Reused, Fresh}
use Rattle.front.specs.State.{State, node}
use Rattle.front.specs.Neighbours.{next_at, prev_at}
use Rattle.front.specs.declared.FarCorners.{FarCorners}
use Rattle.paving.specs.Checks.{quad_fits}

-- ---- the choice of corners

-- 0.35, the factor of the reuse
abbrev pub reuse : Float
reuse = bits 0x3fd6_6666_6666_6666

-- the front node v is reused for a corner wanted at p: it is not the edge's other end, and is within 0.35 × size
unfoldable pub is_reused : Float → State → ℕ → ℕ → Point → Bool
is_reused size s other v p = not (eqb v other) && le (distance (node s v) p) (reuse ⊗ size)

-- the corner wanted at p, of a node with the given neighbour
unfoldable pub corner_at : Float → State → ℕ → Option ℕ → Point → Corner
corner_at size s other None p = Fresh p.x p.y
corner_at size s other (Some v) p = cond (is_reused size s other v p) (Reused v) (Fresh p.x p.y)

-- one size from p in a direction
unfoldable pub ideal : Float → Point → Point → Point
ideal size p d = point (p.x ⊕ size ⊗ d.x) (p.y ⊕ size ⊗ d.y)

-- c stands at a and may be `prev(a)`
unfoldable pub corner_c : Float → State → ℕ → ℕ → Point → Corner
corner_c size s a b da = corner_at size s b (prev_at s a) (ideal size (node s a) da)

-- d stands at b and may be `next(b)`
unfoldable pub corner_d : Float → State → ℕ → ℕ → Point → Corner
corner_d size s a b db = corner_at size s a (next_at s b) (ideal size (node s b) db)

-- ---- `attempt_quad` up to the commit

abbrev pub far : Corner → Corner → FarCorners
far c d = record { c = c; d = d }

-- the far corners of a quad, where they fit
abbrev pub quad_if : Bool → Corner → Corner → Option FarCorners
quad_if fits c d = cond fits (Some (far c d)) None

unfoldable pub attempt_quad : Outline → Float → State → ℕ → ℕ → Point → Point → Option FarCorners
attempt_quad o size s a b da db =
    let c = corner_c size s a b da in
    let d = corner_d size s a b db in
    quad_if (quad_fits o size s a b c d) c d

-- ---- `try_edge`

abbrev pub or_else : Option FarCorners → Option FarCorners → Option FarCorners
or_else None second = second
or_else (Some q) second = Some q

-- left of a to b, of length 1
unfoldable pub normal_of : Float → Float → Float → Point
normal_of bx by length = point (neg (by ⊘ length)) (bx ⊘ length)

-- directions come from the field, then from the edge's normal
unfoldable pub try_toward : Outline → Float → FieldRecord → State → ℕ → ℕ → Point → Option FarCorners
try_toward o size field s a b normal =
    or_else (attempt_quad o size s a b (nearest_direction field (node s a) normal) (nearest_direction field (node s b) normal))
    (attempt_quad o size s a b normal normal)

-- none on an edge no longer than 1e-12
unfoldable pub try_edge : Outline → Float → FieldRecord → State → ℕ → ℕ → Option FarCorners
try_edge o size field s a b =
    let bx = (node s b).x ⊖ (node s a).x in
    let by = (node s b).y ⊖ (node s a).y in
    let length = norm bx by in
    cond (le length tolerance) None (try_toward o size field s a b (normal_of bx by length))
