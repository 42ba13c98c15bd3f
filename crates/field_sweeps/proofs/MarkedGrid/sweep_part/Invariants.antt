-- `field_sweeps::MarkedGrid::sweep_part` meets its contract. Assumes nothing.
use Rattle.std.specs.Prelude.{◌≡◌, ◌+◌, ◌-◌, length}
use Rattle.laws.specs.Loop.{Loop}
use Rattle.field_sweeps.specs.Sweeps.{swept, sweep_node}
use Rattle.field_sweeps.proofs.MarkedGrid.sweep_part.Given as goal

abbrev pub invariant-loop-i : goal.invariant-loop-i
invariant-loop-i l =
    (length l.values ≡ length l.initial.values)
    × Loop (λ i. sweep_node l.self.grid l.self.marks.now l.row.j (l.from + i)) (swept l.initial.values l.quiet) (l.to - l.from) l.i (swept l.values l.still)
