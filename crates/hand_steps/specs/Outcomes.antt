-- What became of an edge, by its number. Definitions only.
use Rattle.std.specs.Prelude.{ℕ}
use Rattle.hand_steps.specs.declared.StepOutcome.{StepOutcome}
use Rattle.hand_steps.specs.declared.StepOutcome.TheVariants.{Placed, None as NoQuad, Full, Cap}

abbrev pub outcome_number : StepOutcome → ℕ
outcome_number Placed = 0
outcome_number NoQuad = 1
outcome_number Full = 2
outcome_number Cap = 3
