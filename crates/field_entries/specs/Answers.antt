-- The answers of the field and the direction query as they cross to the host: the refusal's number and the values, for each case of an answer.
-- Definitions only. The number 0 says that nothing is refused; the values of a refusal are 0.0 or 0.
use Rattle.std.specs.Prelude.{List, Result, Ok, Err, ℕ, Float}
use Rattle.numbers.specs.Float.{zero_f}
use Rattle.outline.specs.declared.Point.{Point}
use Rattle.field_direction.specs.declared.Grid.{Grid}
use Rattle.field_direction.specs.Record.{FieldLists, field_lists}
use Rattle.field_cross.specs.Field.{FieldResult}
use Rattle.field_entries.specs.declared.FieldRecordAnswer.{FieldRecordAnswer}
use Rattle.field_entries.specs.declared.DirectionAnswer.{DirectionAnswer}

-- of `field`: the record's floats and counts
unfoldable pub record_numbers : Result Grid ℕ → FieldRecordAnswer
record_numbers (Err n) = record { refusal = n; xmin = zero_f; ymin = zero_f; h = zero_f; nx = 0; ny = 0 }
record_numbers (Ok g) = record { refusal = 0; xmin = g.xmin; ymin = g.ymin; h = g.h; nx = g.nx; ny = g.ny }

-- the numbers of `field`, and the lists lent as it leaves them
pub record FieldExit : Type 0 where
  pub numbers : FieldRecordAnswer
  pub lists : FieldLists

abbrev pub field_exit : FieldRecordAnswer → List Float → List ℕ → FieldExit
field_exit numbers values marks = record { numbers = numbers; lists = field_lists values marks }

unfoldable pub field_numbers : FieldResult → FieldExit
field_numbers r = record { numbers = record_numbers r.answer; lists = r.lists }

-- the grid of the three floats and two counts lent to `direction`
abbrev pub grid_lent : Float → Float → Float → ℕ → ℕ → Grid
grid_lent xmin ymin h nx ny = record { xmin = xmin; ymin = ymin; h = h; nx = nx; ny = ny }

-- of `direction`
unfoldable pub direction_numbers : Result Point ℕ → DirectionAnswer
direction_numbers (Err n) = record { refusal = n; x = zero_f; y = zero_f }
direction_numbers (Ok d) = record { refusal = 0; x = d.x; y = d.y }
