-- `field_cross::spacing` meets its contract: the spacing grown so far is the definition's loop's.
use Rattle.std.specs.Prelude.{Float}
use Rattle.laws.specs.Loop.{Run}
use Rattle.field_cross.specs.Grid.{growths, grow_turn}
use Rattle.field_cross.proofs.spacing.Given as goal

abbrev pub invariant-loop : goal.invariant-loop
invariant-loop l = Run (grow_turn l.width l.height) (λ (last : Float). last) l.h growths l.counter l.grown
