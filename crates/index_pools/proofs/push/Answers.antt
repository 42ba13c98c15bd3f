-- `index_pools::push` meets its contract: a pair of places is left.
use Prim.Native.Nat.{◌<◌}
use native.Mathlib.Omega.{arith}
use lib.ListN.{length, length-set}
use Rattle.index_pools.specs.Pool.{link_place, used, push}
use Rattle.index_pools.specs.FileLaws.{place_fits, place_small}
use Rattle.index_pools.proofs.push.Goals as goal
use Rattle.index_pools.proofs.push.Goals.{After-cells_of}

-- there is a place left, and its pair stands in the list
room : (c : After-cells_of) → let pool = c.args.pool.now in link_place (length pool) (used pool) < length pool
room c = place_fits _ _ c.requires.1

small : (c : After-cells_of) → used c.args.pool.now < 4294967294
small c = place_small _ _ c.requires.1

pub bounds-pool-0 : goal.bounds-pool-0
bounds-pool-0 c = omega (arith, place_fits _ _ c.requires.1)

pub overflow_add-at : goal.overflow_add-at
overflow_add-at c = omega (arith, room (goal.at.overflow_add-at c).After-cells_of, c.cells_of.ensures)

pub overflow_cast-at : goal.overflow_cast-at
overflow_cast-at c = omega (arith, small (goal.at.overflow_cast-at c).After-cells_of)

pub overflow_mul-at : goal.overflow_mul-at
overflow_mul-at c = omega (arith, small (goal.at.overflow_mul-at c).After-cells_of)

pub overflow_add-at-2 : goal.overflow_add-at-2
overflow_add-at-2 c = omega (arith, room (goal.at.overflow_add-at-2 c).After-cells_of, c.cells_of.ensures)

pub overflow_add-head : goal.overflow_add-head
overflow_add-head c = omega (arith, room (goal.at.overflow_add-head c).After-cells_of, c.cells_of.ensures)

pub offset_bounds-pool-cell : goal.offset_bounds-pool-cell
offset_bounds-pool-cell c = omega (arith, room (goal.at.offset_bounds-pool-cell c).After-cells_of, c.cells_of.ensures)

pub bounds-pool-cell : goal.bounds-pool-cell
bounds-pool-cell c = omega (arith, room (goal.at.bounds-pool-cell c).After-cells_of, c.cells_of.ensures)

pub offset_bounds-pool-at : goal.offset_bounds-pool-at
offset_bounds-pool-at c = omega (arith, room (goal.at.offset_bounds-pool-at c).After-cells_of, c.cells_of.ensures)

pub bounds-pool-at : goal.bounds-pool-at
bounds-pool-at c = omega (arith, room (goal.at.bounds-pool-at c).After-cells_of, c.cells_of.ensures)

pub overflow_add-pool : goal.overflow_add-pool
overflow_add-pool c = omega (arith, room (goal.at.overflow_add-pool c).After-cells_of, c.cells_of.ensures)

pub offset_bounds-pool-at-2 : goal.offset_bounds-pool-at-2
offset_bounds-pool-at-2 c = omega (arith, room (goal.at.offset_bounds-pool-at-2 c).After-cells_of, c.cells_of.ensures)

pub bounds-pool-at-2 : goal.bounds-pool-at-2
bounds-pool-at-2 c = simp length-set (omega (arith, room (goal.at.bounds-pool-at-2 c).After-cells_of, c.cells_of.ensures))

pub overflow_add-pool-2 : goal.overflow_add-pool-2
overflow_add-pool-2 c = omega (arith, room (goal.at.overflow_add-pool-2 c).After-cells_of, c.cells_of.ensures)

pub offset_bounds-pool-cell-2 : goal.offset_bounds-pool-cell-2
offset_bounds-pool-cell-2 c = omega (arith, room (goal.at.offset_bounds-pool-cell-2 c).After-cells_of, c.cells_of.ensures)

pub bounds-pool-cell-2 : goal.bounds-pool-cell-2
bounds-pool-cell-2 c = simp length-set (omega (arith, room (goal.at.bounds-pool-cell-2 c).After-cells_of, c.cells_of.ensures))

pub overflow_add-pool-3 : goal.overflow_add-pool-3
overflow_add-pool-3 c = omega (arith, small (goal.at.overflow_add-pool-3 c).After-cells_of)

pub bounds-pool-0-2 : goal.bounds-pool-0-2
bounds-pool-0-2 c = simp length-set (omega (arith, room (goal.at.bounds-pool-0-2 c).After-cells_of, c.cells_of.ensures))

pub returns : goal.returns
unfolding push
returns c = rw c.cells_of.ensures
