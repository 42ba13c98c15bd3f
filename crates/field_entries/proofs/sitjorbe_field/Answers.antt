-- `sitjorbe_field` meets its contract: the answer is that of `field`, each arm is a line of `record_numbers`, and a refusal spares the blocks. Assumes nothing.
use mathlib.Core.Path.{refl}
use Rattle.field_entries.specs.Answers.{field_numbers, record_numbers}
use Rattle.field_entries.proofs.sitjorbe_field.Goals as goal

-- refused
pub returns-in-Err : goal.returns-in-Err
unfolding field_numbers record_numbers
returns-in-Err c = (
  rw (← c.in-Err.ensures.marks_after, c.from.ensures, c.default.ensures.1.0, c.default.ensures.1.1.0, c.default.ensures.1.1.1.0, c.default.ensures.1.1.1.1.0, c.default.ensures.1.1.1.1.1),
  λ refused. c.in-Err.ensures.field_draws,
)

-- answered
pub returns-in-Ok : goal.returns-in-Ok
unfolding field_numbers record_numbers
returns-in-Ok c = (rw (← c.in-Ok.ensures.marks_after), λ refused. absurd (refused refl))
