-- `file_outline::check_points` meets its contract: each way out is a case of `points_refusal`.
use Rattle.std.proofs.Common.{refl, sym, ap, ◌∙◌, arith}
use Rattle.std.proofs.lemmas.Grind.{common_steps}
use Rattle.outline.proofs.Refused.{refusal_some}
use Rattle.file_outline.specs.File.{block_refusal}
use Rattle.file_outline.specs.RefusalLaws.{points_block, points_accepted, points_refused}
use Rattle.file_outline.proofs.Bytes.{block_small}
use Rattle.file_outline.proofs.check_points.Goals as goal

pub check_block-requires : goal.check_block-requires
check_block-requires c = block_small _ _ c.block.ensures

pub returns-in_err-b : goal.returns-in_err-b
returns-in_err-b c =
    let given = points_block _ c.args.n c.args.k c.block.ensures c.in_err-b.ensures.refused (refusal_some _) in
    grind (arith, common_steps)

pub zero_from-requires : goal.zero_from-requires
zero_from-requires c = omega (arith, c.min-here.ensures)

pub returns-then-zero_from : goal.returns-then-zero_from
returns-then-zero_from c =
    let b = c.in_ok-b.ensures in
    points_accepted _ _ _ (b.same ∙ c.block.ensures) (b.refused ∙ ap block_refusal (sym b.same)) refl c.min-here.ensures c.zero_from.ensures c.if-zero_from.true

pub returns-else-zero_from : goal.returns-else-zero_from
returns-else-zero_from c =
    let b = c.in_ok-b.ensures in
    points_refused _ _ _ (b.same ∙ c.block.ensures) (b.refused ∙ ap block_refusal (sym b.same)) refl c.min-here.ensures c.zero_from.ensures c.if-zero_from.false
