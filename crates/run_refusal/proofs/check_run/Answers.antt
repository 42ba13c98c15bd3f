-- `run_refusal::check_run` meets its contract: an outline that the field takes is in shape.
use Rattle.std.proofs.Common.{sym}
use Rattle.outline.proofs.Accepted.{accepted}
use Rattle.field_cross.proofs.FieldLaws.{field_unrefused}
use Rattle.run_refusal.proofs.check_run.Goals as goal

pub check_front_places-requires : goal.check_front_places-requires
check_front_places-requires c = (accepted _ (field_unrefused _ _ _ _ (sym c.in_ok-check_field.ensures)).outline).shape
