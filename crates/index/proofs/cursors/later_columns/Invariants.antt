-- `index::later_columns` meets its contract: the columns passed have no place under them.
use Rattle.std.specs.Prelude.{◌-◌}
use Rattle.index.proofs.CursorLaws.{Seeking}
use Rattle.index.proofs.cursors.later_columns.Given as goal

abbrev pub invariant-loop-i : goal.invariant-loop-i
invariant-loop-i l = Seeking l.pool l.right l.i-2 l.j l.i l.cell

abbrev pub decreases-loop-i : goal.decreases-loop-i
decreases-loop-i l = l.last - l.i
