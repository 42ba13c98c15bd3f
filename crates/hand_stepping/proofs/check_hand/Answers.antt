-- `hand_stepping::check_hand` meets its contract: 23 first.
use Rattle.std.proofs.Common.{refl, arith, rules}
use Rattle.std.proofs.lemmas.Grind.{common_steps}
use Rattle.outline.proofs.Refused.{refusal_some}
use Rattle.hand_steps.proofs.StepLaws.{hand_mesh, hand_edge, next_long}
use Rattle.hand_stepping.proofs.check_hand.Goals as goal

pub returns-in_err-check : goal.returns-in_err-check
returns-in_err-check c = hand_mesh _ _ _ (search rules) (grind (arith, common_steps, refusal_some))

pub check_edge-requires : goal.check_edge-requires
check_edge-requires c = next_long _ _ _ _ _ _ _ c.args.lent.mesh.counts c.in_ok-check.ensures refl

pub returns : goal.returns
returns c = hand_edge _ _ _ c.in_ok-check.ensures refl c.check_edge.ensures
