-- `paving_snapshots::copy_links` meets its contract: the loop copies node by node, but for the stretches. Assumes nothing.
use Prim.Native.Nat.{◌-◌}
use Rattle.paving_snapshots.proofs.TakingBase.{Taking}
use Rattle.paving_snapshots.proofs.copy_links.Given as goal

abbrev pub invariant-loop-i : goal.invariant-loop-i
invariant-loop-i l = Taking l.next l.initial.snapshot l.initial.tried l.n l.from l.i l.snapshot l.tried

abbrev pub decreases-loop-i : goal.decreases-loop-i
decreases-loop-i l = l.n - l.i
