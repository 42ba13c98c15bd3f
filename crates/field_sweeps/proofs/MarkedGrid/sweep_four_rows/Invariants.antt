-- `field_sweeps::MarkedGrid::sweep_four_rows` meets its contract. Assumes nothing.
use Rattle.std.specs.Prelude.{◌≡◌, ◌-◌, length}
use Rattle.laws.specs.Loop.{Loop}
use Rattle.field_sweeps.specs.Sweeps.{swept}
use Rattle.field_sweeps.proofs.Wave.{rows_turn}
use Rattle.field_sweeps.proofs.MarkedGrid.sweep_four_rows.Given as goal

abbrev pub invariant-loop-i : goal.invariant-loop-i
invariant-loop-i l =
    (length l.values ≡ length l.initial.values)
    × Loop (rows_turn l.self.grid l.self.marks.now l.row.j) (swept l.initial.values l.initial.still) (l.nx - 3) l.i (swept l.values l.still)
