-- `points_text::read_cells` meets its contract: the loop is the definition's, and no word reaches past what has been read.
use Rattle.std.proofs.Common.{◌≤◌, length}
use Rattle.laws.specs.Loop.{Loop}
use Rattle.points_text.specs.Words.{no_cells, row_turn}
use Rattle.points_text.specs.Bounds.{CellsFit}
use Rattle.points_text.proofs.read_cells.Given as goal

abbrev pub invariant-loop-i : goal.invariant-loop-i
invariant-loop-i l = (Loop (row_turn l.separator l.row) no_cells (length l.row) l.i l.cells) × (CellsFit l.i l.cells) × (l.cells.count ≤ l.i)
