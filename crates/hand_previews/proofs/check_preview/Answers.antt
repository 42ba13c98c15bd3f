-- `hand_previews::check_preview` meets its contract: 23 of the mesh, 23 of the list, then 24.
use Rattle.std.proofs.Common.{refl, arith, rules}
use Rattle.std.proofs.lemmas.Grind.{common_steps}
use Rattle.outline.proofs.Refused.{refusal_some}
use Rattle.hand_previews.proofs.PreviewSteps.{preview_mesh, preview_list_lem, preview_edge, lent_passes}
use Rattle.hand_previews.proofs.check_preview.Goals as goal

pub returns-in_err-check : goal.returns-in_err-check
returns-in_err-check c = preview_mesh _ _ _ _ (search rules) (grind (arith, common_steps, refusal_some))

pub overflow_add-lent : goal.overflow_add-lent
overflow_add-lent c = omega (arith, (lent_passes _ _ _ _ _ _ _ c.args.lent.mesh.counts c.in_ok-check.ensures refl).0)

pub returns-then-places-lent : goal.returns-then-places-lent
returns-then-places-lent c = preview_list_lem _ _ _ _ c.in_ok-check.ensures refl c.if-places-lent.true

pub check_edge-requires : goal.check_edge-requires
check_edge-requires c = (lent_passes _ _ _ _ _ _ _ c.args.lent.mesh.counts c.in_ok-check.ensures refl).1

pub returns : goal.returns
returns c = preview_edge _ _ _ _ c.in_ok-check.ensures refl c.if-places-lent.false c.check_edge.ensures
