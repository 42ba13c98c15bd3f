-- `points_reader::has_tabs` meets its contract: the loop is the definition's.
use Rattle.std.specs.Prelude.{false}
use Rattle.std.proofs.Common.{◌≤◌, length}
use Rattle.laws.specs.Loop.{Loop}
use Rattle.points_reader.specs.Walking.{tabs, tabs_turn}
use Rattle.points_reader.proofs.walking.has_tabs.Given as goal

abbrev pub invariant-loop-i : goal.invariant-loop-i
invariant-loop-i l = (Loop (tabs_turn l.text) (tabs 0 false) (length l.text) l.i (tabs l.from l.found)) × (l.from ≤ l.i)
