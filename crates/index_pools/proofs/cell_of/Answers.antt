-- `index_pools::cell_of` meets its contract.
use borrow.Author.Rules.{rules}
use Rattle.index_pools.specs.Pool.{cell_of}
use Rattle.index_pools.proofs.cell_of.Goals as goal

pub returns : goal.returns
unfolding cell_of
returns c = search rules
