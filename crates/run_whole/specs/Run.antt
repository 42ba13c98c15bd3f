-- A whole run, from the field to the end of paving, with the refusals 1 to 10. Definitions only.
use Rattle.std.specs.Prelude.{ℕ}
use Rattle.outline.specs.Outline.{Outline, first_of}
use Rattle.outline.specs.declared.Settings.{Settings}
use Rattle.field_direction.specs.Record.{FieldLists, FieldRecord}
use Rattle.field_cross.specs.Field.{field_refusal, field_of}
use Rattle.front.specs.State.{State}
use Rattle.front.specs.Sampling.{front_refusal, from_boundary}
use Rattle.paving.specs.Advance.{EndedPaving, advance}

-- 1 to 10, in rising number
unfoldable pub run_refusal : Outline → Settings → FieldLists → State → ℕ
run_refusal o set f lent = first_of (field_refusal o set.size set.sweeps f) (front_refusal o set.size lent)

-- the field, and the paving where it ended
pub record WholeRun : Type 0 where
  pub field : FieldRecord
  pub paving : EndedPaving

-- field, sampling and paving, in the lists lent
unfoldable pub run_of : Outline → Settings → FieldLists → State → WholeRun
run_of o set f lent =
    let field = field_of o set.size set.sweeps f in
    record { field = field; paving = advance o set.size field set.passes (from_boundary o set.size lent) }
