-- `index_pools::filed` meets its contract.
use Rattle.index_pools.specs.FileLaws.{filed_some, filed_short}
use mathlib.Core.Path.{sym}
use Rattle.index_pools.proofs.filed.Goals as goal

pub returns-then-pool-lt4 : goal.returns-then-pool-lt4
returns-then-pool-lt4 c = sym (filed_short _ c.if-pool-lt4.true)

pub returns-else-pool-lt4 : goal.returns-else-pool-lt4
returns-else-pool-lt4 c = sym (filed_some _ c.if-pool-lt4.false)
