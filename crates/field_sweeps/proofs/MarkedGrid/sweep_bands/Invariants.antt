-- `field_sweeps::MarkedGrid::sweep_bands` meets its contract. Assumes nothing.
use Rattle.std.specs.Prelude.{◌≡◌, true, ◌*◌, length}
use Rattle.laws.specs.Loop.{Loop}
use Rattle.field_sweeps.specs.Sweeps.{swept, sweep_row}
use Rattle.field_sweeps.proofs.MarkedGrid.sweep_bands.Given as goal

abbrev pub invariant-loop-k : goal.invariant-loop-k
invariant-loop-k l =
    (length l.values ≡ length l.initial.values)
    × Loop (sweep_row l.self.grid l.self.marks.now) (swept l.initial.values true) (4 * l.bands) (4 * l.k) (swept l.values l.quiet)
