-- `field_sweeps::MarkedGrid::sweep` meets its contract. Assumes nothing.
use Rattle.std.specs.Prelude.{◌≡◌, true, ◌+◌, ◌*◌, length}
use Rattle.laws.specs.Loop.{Loop}
use Rattle.field_sweeps.specs.Sweeps.{swept, sweep_row}
use Rattle.field_sweeps.proofs.MarkedGrid.sweep.Given as goal

abbrev pub invariant-loop-k : goal.invariant-loop-k
invariant-loop-k l =
    (length l.values ≡ length l.fn.values)
    × Loop (sweep_row l.self.grid l.self.marks.now) (swept l.fn.values true) l.self.grid.ny (4 * l.bands + l.k) (swept l.values l.quiet)
