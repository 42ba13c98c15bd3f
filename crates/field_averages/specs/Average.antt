-- The average of a node's neighbours in a grid, normalised. Definitions only.
use Rattle.std.specs.Prelude.{Bool, cond, List, ℕ, ◌+◌, ◌-◌, ltb, Float}
use Rattle.std.specs.Float.Ieee.{lt}
use Rattle.numbers.specs.Float.{◌⊕◌, ◌⊘◌, zero_f, one_f, tolerance, to_float}
use Rattle.outline.specs.declared.Point.{Point}
use Rattle.outline.specs.Outline.{point, point_at}
use Rattle.exact.specs.Corner.{norm}
use Rattle.field_direction.specs.declared.Grid.{Grid}
use Rattle.field_direction.specs.Record.{node_at}

-- a sum of two values with one more, where there is one
unfoldable pub plus_if : Bool → Point → Point → Point
plus_if there v sum = cond there (point (sum.x ⊕ v.x) (sum.y ⊕ v.y)) sum

abbrev pub one_if : Bool → ℕ
one_if there = cond there 1 0

-- the sum of the neighbours' values: left, right, below, above
unfoldable pub neighbour_sum : Grid → List Float → ℕ → ℕ → Point
neighbour_sum g values j i =
    let id = node_at g i j in
    let left = plus_if (ltb 0 i) (point_at values (id - 1)) (point zero_f zero_f) in
    let right = plus_if (ltb (i + 1) g.nx) (point_at values (id + 1)) left in
    let under = plus_if (ltb 0 j) (point_at values (id - g.nx)) right in
    plus_if (ltb (j + 1) g.ny) (point_at values (id + g.nx)) under

unfoldable pub neighbour_count : Grid → ℕ → ℕ → ℕ
neighbour_count g j i = one_if (ltb 0 i) + one_if (ltb (i + 1) g.nx) + one_if (ltb 0 j) + one_if (ltb (j + 1) g.ny)

-- normalised if the norm is above 1e-12, else (1, 0)
unfoldable pub normalised : Point → Point
normalised v =
    let n = norm v.x v.y in
    cond (lt tolerance n) (point (v.x ⊘ n) (v.y ⊘ n)) (point one_f zero_f)

-- a sum of so many
abbrev pub divided : Point → ℕ → Point
divided sum count = point (sum.x ⊘ to_float count) (sum.y ⊘ to_float count)

-- the sum, divided by the count and normalised
unfoldable pub average : Grid → List Float → ℕ → ℕ → Point
average g values j i = normalised (divided (neighbour_sum g values j i) (neighbour_count g j i))
