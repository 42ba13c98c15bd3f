-- `field_directions::sitjorbe_directions` meets its contract: `given_refused` and `given_answered`. Assumes nothing.
use Rattle.std.proofs.Common.{sym, ◌∙◌}
use Rattle.outline.proofs.Refused.{refusal_some}
use Rattle.field_directions.proofs.Laws.{directions_unrefused, given_refused, given_answered}
use Rattle.field_direction.proofs.RecordLaws.{record_lent_lem}
use Rattle.field_directions.proofs.sitjorbe_directions.Goals as goal

pub returns-in-Err : goal.returns-in-Err
returns-in-Err c = given_refused _ _ _ _ (c.from.ensures ∙ c.in-Err.ensures) (λ e. refusal_some c.in-Err.refusal (sym c.from.ensures ∙ e))

pub write_answers-requires : goal.write_answers-requires
write_answers-requires c = let parts = directions_unrefused _ _ _ _ (sym c.in-Ok.ensures) in (record_lent_lem _ parts.1, parts.0)

pub returns-in-Ok : goal.returns-in-Ok
returns-in-Ok c = given_answered _ _ _ _ (sym c.in-Ok.ensures) c.write_answers.ensures
