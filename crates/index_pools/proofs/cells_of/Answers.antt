-- `index_pools::cells_of` meets its contract.
use borrow.Author.Rules.{rules}
use Rattle.index_pools.specs.Pool.{cells}
use Rattle.index_pools.proofs.cells_of.Goals as goal

pub returns : goal.returns
unfolding cells
returns c = search rules
