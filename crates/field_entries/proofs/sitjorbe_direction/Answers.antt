-- `sitjorbe_direction` meets its contract: the answer is that of `query_direction`, and each arm is a line of `direction_numbers`. Assumes nothing.
use Rattle.field_entries.specs.Answers.{direction_numbers}
use Rattle.field_entries.proofs.sitjorbe_direction.Goals as goal

-- refused
pub returns-in-Err : goal.returns-in-Err
unfolding direction_numbers
returns-in-Err c = rw (← c.in-Err.ensures, c.from.ensures, c.default.ensures.1.0, c.default.ensures.1.1)

-- answered
pub returns-in-Ok : goal.returns-in-Ok
unfolding direction_numbers
returns-in-Ok c = rw (← c.in-Ok.ensures)
