-- `index_pools::capacity_of` meets its contract.
use borrow.Author.Rules.{rules}
use Rattle.index_pools.specs.Pool.{cells, capacity}
use Rattle.index_pools.proofs.capacity_of.Goals as goal

pub returns : goal.returns
unfolding cells capacity
returns c = search rules
