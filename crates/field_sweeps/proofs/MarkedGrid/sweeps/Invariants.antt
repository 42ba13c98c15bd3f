-- `field_sweeps::MarkedGrid::sweeps` meets its contract. Assumes nothing.
use mathlib.Core.List.{List}
use mathlib.Core.Path.{◌≡◌}
use lib.Ieee.{Float}
use lib.ListN.{length}
use Rattle.laws.specs.Loop.{Run}
use Rattle.field_sweeps.specs.Sweeps.{sweep_turn}
use Rattle.field_sweeps.proofs.MarkedGrid.sweeps.Given as goal

abbrev pub invariant-loop : goal.invariant-loop
invariant-loop l = (length l.values ≡ length l.initial.values) × Run (sweep_turn l.self.grid l.self.marks.now) (λ (last : List Float). last) l.initial.values l.n
    l.counter l.values
