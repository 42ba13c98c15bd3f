-- `index::place_at` meets its contract: the place stands in the list.
use Prim.Native.Nat.{◌<◌}
use native.Mathlib.Omega.{arith}
use lib.ListN.{length}
use Rattle.index_pools.specs.Pool.{link_place}
use Rattle.index_pools.specs.FileLaws.{place_fits}
use Rattle.index.proofs.place_at.Goals as goal
use Rattle.index.proofs.place_at.Goals.{After-cells_of}

room : (c : After-cells_of) → let n = length c.args.pool.now in link_place n c.args.t < n
room c = place_fits _ _ c.requires

pub overflow_mul-at : goal.overflow_mul-at
overflow_mul-at c = omega (arith, room (goal.at.overflow_mul-at c).After-cells_of)

pub overflow_add-at : goal.overflow_add-at
overflow_add-at c = omega (arith, room (goal.at.overflow_add-at c).After-cells_of, c.cells_of.ensures)

pub overflow_add-at-2 : goal.overflow_add-at-2
overflow_add-at-2 c = omega (arith, room (goal.at.overflow_add-at-2 c).After-cells_of, c.cells_of.ensures)

pub overflow_add-result : goal.overflow_add-result
overflow_add-result c = omega (arith, room (goal.at.overflow_add-result c).After-cells_of, c.cells_of.ensures)

pub offset_bounds-pool-at : goal.offset_bounds-pool-at
offset_bounds-pool-at c = omega (arith, room (goal.at.offset_bounds-pool-at c).After-cells_of, c.cells_of.ensures)

pub bounds-pool-at : goal.bounds-pool-at
bounds-pool-at c = omega (arith, room (goal.at.bounds-pool-at c).After-cells_of, c.cells_of.ensures)

pub offset_bounds-pool-at-2 : goal.offset_bounds-pool-at-2
offset_bounds-pool-at-2 c = omega (arith, room (goal.at.offset_bounds-pool-at-2 c).After-cells_of, c.cells_of.ensures)

pub bounds-pool-at-2 : goal.bounds-pool-at-2
bounds-pool-at-2 c = omega (arith, room (goal.at.bounds-pool-at-2 c).After-cells_of, c.cells_of.ensures)
