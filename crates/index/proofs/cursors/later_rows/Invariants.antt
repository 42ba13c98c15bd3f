-- `index::later_rows` meets its contract: the rows passed have no place under them.
use mathlib.Core.Path.{◌≡◌}
use Prim.Native.Nat.{◌+◌, ◌-◌}
use Rattle.index.specs.Walk.{rows}
use Rattle.index.proofs.cursors.later_rows.Given as goal

abbrev pub invariant-loop-k : goal.invariant-loop-k
invariant-loop-k l = rows l.pool l.r (l.r.high - l.j) (l.j + 1) ≡ rows l.pool l.r (l.r.high - l.k) (l.k + 1)
