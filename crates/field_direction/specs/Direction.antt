-- Refusal 11, and the direction query. Definitions only.
use Rattle.std.specs.Prelude.{Bool, not, ◌&&◌, cond, List, Result, Ok, Err, ℕ, ◌+◌, ◌-◌, ◌*◌, min, ℤ, pos, negsuc, leb, eqb, length, Float}
use Rattle.std.specs.Float.Ieee.{neg, lt, le}
use Rattle.numbers.specs.Float.{◌⊕◌, ◌⊖◌, ◌⊗◌, ◌⊘◌, bits, zero_f, one_f, four_f, tolerance, is_finite, abs_f, clamp_f, to_float}
use Rattle.numbers.specs.Whole.{floor_int}
use Rattle.outline.specs.declared.Point.{Point}
use Rattle.outline.specs.Outline.{point, point_at, any_float, first_of, point_refusal}
use Rattle.outline.specs.Queries.{answer_by}
use Rattle.exact.specs.Corner.{norm}
use Rattle.field_direction.specs.declared.Grid.{Grid}
use Rattle.field_direction.specs.Record.{most_field_nodes, grid_nodes, node_at, FieldRecord}

-- ---- 11: a field record that isn't one

-- 0.001
abbrev pub least_spacing : Float
least_spacing = bits 0x3f50_624d_d2f1_a9fc

-- 1,000
abbrev pub most_spacing : Float
most_spacing = bits 0x408f_4000_0000_0000

-- 2,000
abbrev pub most_origin : Float
most_origin = bits 0x409f_4000_0000_0000

-- finite, and at most m either way
unfoldable pub within : Float → Float → Bool
within m x = is_finite x && le (abs_f x) m

-- nx and ny at least 2, product at most 250,000 and equal to the number of marks lent and to exactly half the number of value floats lent
unfoldable pub counts_sound : FieldRecord → Bool
counts_sound r =
    leb 2 r.grid.nx && (leb 2 r.grid.ny && (leb (grid_nodes r.grid) most_field_nodes
    && (eqb (grid_nodes r.grid) (length r.lists.marks) && eqb (2 * grid_nodes r.grid) (length r.lists.values))))

-- h finite, 0.001 to 1,000; xmin and ymin finite, at most 2,000 either way
unfoldable pub grid_sound : Grid → Bool
grid_sound g =
    is_finite g.h && (le least_spacing g.h && (le g.h most_spacing && (within most_origin g.xmin && within most_origin g.ymin)))

-- values finite, at most 4 either way
abbrev pub value_unsound : Float → Bool
value_unsound v = not (within four_f v)

unfoldable pub record_refusal : FieldRecord → ℕ
record_refusal r = cond (counts_sound r && (grid_sound r.grid && not (any_float value_unsound r.lists.values))) 0 11

-- ---- the direction

-- `z.clamp(0, n - 2)`: the cell of a grid with n nodes a side
abbrev pub grid_cell : ℤ → ℕ → ℕ
grid_cell (pos k) n = min k (n - 2)
grid_cell (negsuc k) n = 0

-- the four values round a point, weighed: w00·p00 + w10·p10 + w01·p01 + w11·p11
unfoldable pub weighed : Float → Float → Float → Float → Float → Float → Float
weighed tx ty v00 v10 v01 v11 =
    (one_f ⊖ tx) ⊗ (one_f ⊖ ty) ⊗ v00 ⊕ tx ⊗ (one_f ⊖ ty) ⊗ v10 ⊕ (one_f ⊖ tx) ⊗ ty ⊗ v01 ⊕ tx ⊗ ty ⊗ v11

-- `raw_at`: the values at the corners of p's cell, interpolated
unfoldable pub raw_at : Grid → List Float → Point → Point
raw_at g values p =
    let fx = (p.x ⊖ g.xmin) ⊘ g.h in
    let fy = (p.y ⊖ g.ymin) ⊘ g.h in
    let i = grid_cell (floor_int fx) g.nx in
    let j = grid_cell (floor_int fy) g.ny in
    let tx = clamp_f (fx ⊖ to_float i) zero_f one_f in
    let ty = clamp_f (fy ⊖ to_float j) zero_f one_f in
    let id = node_at g i j in
    let p00 = point_at values id in
    let p10 = point_at values (id + 1) in
    let p01 = point_at values (id + g.nx) in
    let p11 = point_at values (id + g.nx + 1) in
    point (weighed tx ty p00.x p10.x p01.x p11.x) (weighed tx ty p00.y p10.y p01.y p11.y)

-- both divided by the norm of the pair
unfoldable pub scaled : Float → Float → Point
scaled a b = point (a ⊘ norm a b) (b ⊘ norm a b)

-- `half`: n is the norm; if a ≥ 0 take (a + n, b), else (|b|, n − a) with the second negated if b < 0; divide both by the norm of that pair
unfoldable pub half : Point → Point
half v =
    let n = norm v.x v.y in
    let up = n ⊖ v.x in
    cond (le zero_f v.x) (scaled (v.x ⊕ n) v.y) (scaled (abs_f v.y) (cond (lt v.y zero_f) (neg up) up))

-- direction of (a, b): (1, 0) if the norm is at most 1e-12, else half(half(a, b))
unfoldable pub direction_of : Point → Point
direction_of v = cond (le (norm v.x v.y) tolerance) (point one_f zero_f) (half (half v))

unfoldable pub dot : Point → Point → Float
dot u v = u.x ⊗ v.x ⊕ u.y ⊗ v.y

-- the second where its dot product is greater: so the first of equals wins
unfoldable pub closer_of : Point → Point → Point → Point
closer_of target best other = cond (lt (dot best target) (dot other target)) other best

-- the other three directions of (c, s), in the order k = 1, 2, 3: (−s, c), (−c, −s), (s, −c)
unfoldable pub nearest_of : Point → Point → Point
nearest_of target d =
    let first = closer_of target d (point (neg d.y) d.x) in
    let second = closer_of target first (point (neg d.x) (neg d.y)) in
    closer_of target second (point d.y (neg d.x))

-- the direction of a field at p that is nearest to a target, by its grid and values
abbrev pub direction_at : Grid → List Float → Point → Point → Point
direction_at g values p target = nearest_of target (direction_of (raw_at g values p))

-- `nearest_direction`
unfoldable pub nearest_direction : FieldRecord → Point → Point → Point
nearest_direction r p target = direction_at r.grid r.lists.values p target

-- of a direction query: 11, then 3 and 4 of its point; its target may be any two floats
unfoldable pub direction_refusal : FieldRecord → Point → ℕ
direction_refusal r p = first_of (record_refusal r) (point_refusal p)

unfoldable pub direction_answer : FieldRecord → Point → Point → Result Point ℕ
direction_answer r p target = answer_by Err (Ok (nearest_direction r p target)) (direction_refusal r p)
