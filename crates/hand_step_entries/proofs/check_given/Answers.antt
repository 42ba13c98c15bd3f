-- `hand_step_entries::check_given` meets its contract.
use Rattle.std.proofs.Common.{refl, arith, rules}
use Rattle.std.proofs.lemmas.Grind.{common_steps}
use Rattle.outline.proofs.Refused.{refusal_some}
use Rattle.hand_step_entries.proofs.EntryLaws.{given_drawn, given_record}
use Rattle.hand_step_entries.proofs.check_given.Goals as goal

pub returns-in_err-check_drawn : goal.returns-in_err-check_drawn
returns-in_err-check_drawn c = given_drawn _ _ _ (search rules) (grind (arith, common_steps, refusal_some))

pub returns : goal.returns
returns c = given_record _ _ _ c.in_ok-check_drawn.ensures refl c.check_record.ensures
