-- `field_sweeps::MarkedGrid::sweep_row` meets its contract. Assumes nothing.
use mathlib.Core.Path.{◌≡◌}
use lib.ListN.{length}
use Rattle.laws.specs.Loop.{Loop}
use Rattle.field_sweeps.specs.Sweeps.{swept, sweep_node}
use Rattle.field_sweeps.proofs.MarkedGrid.sweep_row.Given as goal

abbrev pub invariant-loop-i : goal.invariant-loop-i
invariant-loop-i l =
    (length l.values ≡ length l.initial.values) × Loop (sweep_node l.self.grid l.self.marks.now l.row.j) (swept l.initial.values l.quiet) l.self.grid.nx l.i (swept l.values l.still)
