-- The bounding box, the grid of a field, and the refusals 5 to 8. Definitions only.
use Rattle.std.specs.Prelude.{Bool, not, ◌||◌, cond, List, ℕ, ◌+◌, ◌*◌, max, ltb, length, Float}
use Rattle.std.specs.Float.Ieee.{lt, le}
use Rattle.laws.specs.Loop.{for_up, Turn, go, out, run}
use Rattle.numbers.specs.Float.{◌⊖◌, ◌⊗◌, ◌⊘◌, bits, zero_f, half_f, infinity_f, neg_infinity_f, is_finite, min_f, max_f}
use Rattle.numbers.specs.Whole.{ceil_count}
use Rattle.outline.specs.declared.Point.{Point}
use Rattle.outline.specs.Outline.{Outline, hole_at, points, point_at}
use Rattle.field_direction.specs.declared.Grid.{Grid}
use Rattle.field_direction.specs.Record.{most_field_nodes}
use Rattle.field_cross.specs.declared.Bounds.{Bounds}

-- ---- the bounding box, over all loops

abbrev pub no_bounds : Bounds
no_bounds = record { xmin = infinity_f; xmax = neg_infinity_f; ymin = infinity_f; ymax = neg_infinity_f }

unfoldable pub widened : Point → Bounds → Bounds
widened p b =
    record {
      xmin = min_f b.xmin p.x;
      xmax = max_f b.xmax p.x;
      ymin = min_f b.ymin p.y;
      ymax = max_f b.ymax p.y;
    }

abbrev pub bounds_turn : List Float → ℕ → Bounds → Bounds
bounds_turn s i b = widened (point_at s i) b

unfoldable pub loop_bounds : List Float → Bounds → Bounds
loop_bounds s b = for_up (points s) (bounds_turn s) b

abbrev pub hole_bounds : Outline → ℕ → Bounds → Bounds
hole_bounds o k b = loop_bounds (hole_at o k) b

-- `bounds`
unfoldable pub bounds : Outline → Bounds
bounds o = for_up (length o.lens) (hole_bounds o) (loop_bounds o.outer no_bounds)

-- ---- the grid

-- 1.25
abbrev pub growth : Float
growth = bits 0x3ff4_0000_0000_0000

-- max(ceil(width/h), 2) + 3
unfoldable pub grid_count : Float → Float → ℕ
grid_count width h = max (ceil_count (width ⊘ h)) 2 + 3

unfoldable pub too_many_nodes : Float → Float → Float → Bool
too_many_nodes width height h = ltb most_field_nodes (grid_count width h * grid_count height h)

-- while the grid has more than 250,000 nodes, h grows by 1.25
abbrev pub grow_turn : Float → Float → ℕ → Float → Turn Float Float
grow_turn width height k h = cond (too_many_nodes width height h) (go (h ⊗ growth)) (out h)

-- the most growths that are tried. For an outline and a size that are not refused fewer are needed, which is proved.
abbrev pub growths : ℕ
growths = 64

unfoldable pub spacing : Float → Float → Float → Float
spacing width height h = run growths (grow_turn width height) (λ grown. grown) h

-- the grid of a box and a size: it begins one spacing left of the box and below it
unfoldable pub grid_of : Bounds → Float → Grid
grid_of b size =
    let width = b.xmax ⊖ b.xmin in
    let height = b.ymax ⊖ b.ymin in
    let h = spacing width height (half_f ⊗ size) in
    record { xmin = b.xmin ⊖ h; ymin = b.ymin ⊖ h; h = h; nx = grid_count width h; ny = grid_count height h }

-- ---- refusals

-- 0.01
abbrev pub least_size : Float
least_size = bits 0x3f84_7ae1_47ae_147b

-- 100
abbrev pub most_size : Float
most_size = bits 0x4059_0000_0000_0000

-- 5: size not finite, or not above 0. 6: size below 0.01 or above 100
unfoldable pub size_refusal : Float → ℕ
size_refusal size = cond (not (is_finite size) || le size zero_f) 5 (cond (lt size least_size || lt most_size size) 6 0)

-- 7: a bounding box with no width or no height
unfoldable pub bounds_refusal : Bounds → ℕ
bounds_refusal b = cond (le b.xmax b.xmin || le b.ymax b.ymin) 7 0

-- 8: more than 1,000 sweeps
unfoldable pub sweeps_refusal : ℕ → ℕ
sweeps_refusal sweeps = cond (ltb 1000 sweeps) 8 0
