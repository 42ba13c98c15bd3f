-- `file_outline::check_blocks` meets its contract: the loop's invariant is that no block so far is refused.
use Rattle.std.proofs.Common.{refl, arith}
use Rattle.laws.specs.Loop.{loop_start_lem}
use Rattle.std.proofs.lemmas.Grind.{common_steps}
use Rattle.outline.proofs.Refused.{refusal_some}
use Rattle.file_outline.specs.RefusalLaws.{blocks_unrefused_next, blocks_unrefused_out, blocks_unrefused_end}
use Rattle.file_outline.proofs.check_blocks.Goals as goal

pub loop-k-init : goal.loop-k-init
loop-k-init c = loop_start_lem _ _ _

pub returns-in_err-check_points : goal.returns-in_err-check_points
returns-in_err-check_points c =
    let given = blocks_unrefused_out _ _ c.loop-k.invariant (omega (arith, c.div_ceil-k-end.ensures, c.loop-k-test.true)) c.in_err-check_points.ensures (refusal_some _) in
    grind (arith, common_steps)

pub loop-k-preserved : goal.loop-k-preserved
loop-k-preserved c =
    blocks_unrefused_next _ _ c.loop-k.invariant (omega (arith, c.div_ceil-k-end.ensures, c.loop-k-test.true)) c.in_ok-check_points.ensures refl

pub returns : goal.returns
returns c = blocks_unrefused_end _ _ c.loop-k.invariant (omega (arith, c.div_ceil-k-end.ensures, c.loop-k-test.false))
