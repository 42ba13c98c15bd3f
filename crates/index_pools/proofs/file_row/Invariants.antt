-- `index_pools::file_row` meets its contract: one column more a turn, and its cell by a step.
use Prim.Native.Nat.{◌-◌}
use Rattle.index_pools.specs.FileLaws.{RowFiling}
use Rattle.index_pools.proofs.file_row.Given as goal

abbrev pub invariant-loop-k : goal.invariant-loop-k
invariant-loop-k l = RowFiling l.left l.j l.own l.initial.pool l.w l.pool l.cell l.k
