-- Where a grid's rows and the corners of a cell lie in the lent lists: what the functions over a record's values ask. Assumes nothing.
use Rattle.std.specs.Prelude.{List, ℕ, ◌+◌, ◌*◌, ◌≤◌, ◌<◌, length, Float}
use Rattle.std.proofs.Common.{mul_comm, mul-le-mul_left, mul-le-mul_right, mul-le-mul, arith}
use Rattle.field_direction.specs.declared.Grid.{Grid}
use Rattle.field_direction.specs.Record.{most_field_nodes, grid_nodes}

-- a grid of at least two nodes and at most 250,000, and a list that holds their values: what refusal 11 leaves
pub record FieldLent (g : Grid) (values : List Float) : Type 0 where
  pub columns : 2 ≤ g.nx
  pub rows : 2 ≤ g.ny
  pub few : grid_nodes g ≤ most_field_nodes
  pub room : 2 * grid_nodes g ≤ length values

-- row j of n rows of w nodes lies within them, and so does the row above
pub row_in : (j n w : ℕ) → j < n → j * w + w ≤ n * w
row_in j n w h = omega (arith, mul-le-mul_right w h)

pub row_over : (j n w : ℕ) → j + 1 < n → j * w + w + w ≤ n * w
row_over j n w h = omega (arith, mul-le-mul_right w h)

-- ---- counts: one above the most has too many nodes by itself, where the other is above 0
pub more_columns : (w n most : ℕ) → most < w → 2 ≤ n → most < w * n
more_columns w n most h t = omega (arith, mul-le-mul_left w t)

pub more_rows : (w n most : ℕ) → most < n → 2 ≤ w → most < w * n
more_rows w n most h t = omega (arith, mul-le-mul_right n t)

pub field_product_small : (w n : ℕ) → w ≤ most_field_nodes → n ≤ most_field_nodes → w * n ≤ most_field_nodes * most_field_nodes
field_product_small w n h t = mul-le-mul h t

-- ---- the cell of columns i and i + 1 and of rows j and j + 1
pub corner_in : {g : Grid} {values : List Float} (i j : ℕ) → FieldLent g values → i + 2 ≤ g.nx → j + 2 ≤ g.ny
    → 2 * (j * g.nx + i + g.nx + 1) + 1 < length values
corner_in {g} i j h columns rows = omega (arith, h.room, mul_comm g.nx g.ny, row_over j g.ny g.nx (omega arith))

pub corner_small : {g : Grid} {values : List Float} (i j : ℕ) → FieldLent g values → i + 2 ≤ g.nx → j + 2 ≤ g.ny
    → j * g.nx + i + g.nx + 1 < most_field_nodes
corner_small {g} i j h columns rows = omega (arith, h.few, mul_comm g.nx g.ny, row_over j g.ny g.nx (omega arith))

pub column_small : {g : Grid} {values : List Float} (i : ℕ) → FieldLent g values → i + 2 ≤ g.nx → i < 4294967296
column_small {g} i h t = omega (arith, h.few, mul-le-mul_left g.nx h.rows)

pub row_small : {g : Grid} {values : List Float} (j : ℕ) → FieldLent g values → j + 2 ≤ g.ny → j < 4294967296
row_small {g} j h t = omega (arith, h.few, mul-le-mul_right g.ny h.columns)
