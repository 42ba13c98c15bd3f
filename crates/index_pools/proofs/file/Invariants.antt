-- `index_pools::file` meets its contract: one row more a turn.
use Prim.Native.Nat.{◌-◌}
use Rattle.index_pools.specs.FileLaws.{RectFiling}
use Rattle.index_pools.proofs.file.Given as goal

abbrev pub invariant-loop-k : goal.invariant-loop-k
invariant-loop-k l = RectFiling l.r l.own l.initial.pool l.h l.pool l.k
