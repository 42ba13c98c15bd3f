-- The counts of a grid: each is above 2, and a side of more than 250,000 cells has too many nodes by itself. Assumes nothing.
use Rattle.std.specs.Prelude.{◌≡◌, ◌*◌, ◌≤◌, ◌<◌, Float}
use Rattle.std.proofs.Math.Nat.{le-max_left}
use Rattle.std.proofs.Common.{mul-le-mul_left, mul-le-mul_right, arith}
use Rattle.numbers.specs.Float.{◌⊖◌, ◌⊗◌, ◌⊘◌, half_f}
use Rattle.numbers.specs.Whole.{ceil_count}
use Rattle.field_direction.specs.Record.{most_field_nodes, grid_nodes}
use Rattle.field_direction.specs.Cells.{more_columns, more_rows}
use Rattle.field_cross.specs.declared.Bounds.{Bounds}
use Rattle.field_cross.specs.Grid.{grid_count, spacing, grid_of}

count_over : (width h : Float) → ceil_count (width ⊘ h) < grid_count width h
unfolding grid_count
count_over width h = let l = le-max_left (ceil_count (width ⊘ h)) 2 in omega arith

pub count_pos : (width h : Float) → 2 ≤ grid_count width h
unfolding grid_count
count_pos width h = omega arith

pub wide_many : (width height h : Float) → most_field_nodes < ceil_count (width ⊘ h) → most_field_nodes < grid_count width h * grid_count height h
wide_many width height h t = more_columns _ _ _ (let l = count_over width h in omega arith) (count_pos height h)

pub high_many : (width height h : Float) → most_field_nodes < ceil_count (height ⊘ h) → most_field_nodes < grid_count width h * grid_count height h
high_many width height h t = more_rows _ _ _ (let l = count_over height h in omega arith) (count_pos width h)

-- so where a grid has few nodes, no side has more cells
module _ (b : Bounds) (size h : Float) (few : grid_nodes (grid_of b size) ≤ most_field_nodes)
    (e : h ≡ spacing (b.xmax ⊖ b.xmin) (b.ymax ⊖ b.ymin) (half_f ⊗ size)) where
  abbrev width : Float
  width = b.xmax ⊖ b.xmin

  abbrev height : Float
  height = b.ymax ⊖ b.ymin

  few_at : grid_count width h * grid_count height h ≤ most_field_nodes
  unfolding grid_of
  few_at = rw e few

  pub few_columns : ceil_count ((b.xmax ⊖ b.xmin) ⊘ h) ≤ most_field_nodes
  few_columns =
      let l = count_over width h in
      let m = mul-le-mul_left (grid_count width h) (count_pos height h) in
      let t = few_at in omega arith

  pub few_rows : ceil_count ((b.ymax ⊖ b.ymin) ⊘ h) ≤ most_field_nodes
  few_rows =
      let l = count_over height h in
      let m = mul-le-mul_right (grid_count height h) (count_pos width h) in
      let t = few_at in omega arith
