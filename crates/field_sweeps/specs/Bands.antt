-- Rows that are swept four at a time. Assumes nothing.
use Rattle.std.specs.Prelude.{◌≡◌, ◌⊎◌, ℕ, ◌*◌, ◌≤◌}
use Rattle.field_direction.specs.declared.Grid.{Grid}

-- so many fours of rows: they are in the grid, and there are none where a row is too short for a wavefront
pub record AreBands (g : Grid) (bands : ℕ) : Type 0 where
  pub within : 4 * bands ≤ g.ny
  pub columns : (bands ≡ 0) ⊎ (3 ≤ g.nx)
