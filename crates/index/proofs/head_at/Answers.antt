-- `index::head_at` meets its contract: the cell's head stands in the list.
use Rattle.std.specs.Prelude.{ℕ, ◌+◌, ◌<◌}
use Rattle.std.proofs.Common.{arith}
use Rattle.index_pools.specs.Pool.{cells}
use Rattle.index.proofs.head_at.Goals as goal

stands : (n cell : ℕ) → cell < cells n → 2 + cell < n
unfolding cells
stands n cell h = omega (arith, h)

pub overflow_add-result : goal.overflow_add-result
overflow_add-result c = omega (arith, stands _ _ c.requires)

pub offset_bounds-pool-cell : goal.offset_bounds-pool-cell
offset_bounds-pool-cell c = omega (arith, stands _ _ c.requires)

pub bounds-pool-cell : goal.bounds-pool-cell
bounds-pool-cell c = stands _ _ c.requires
