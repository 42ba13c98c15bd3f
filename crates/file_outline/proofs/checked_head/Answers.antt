-- `file_outline::checked_head` meets its contract: each way out is a case of `file_refusal`.
use Rattle.std.proofs.Common.{refl, sym, ap, ◌∙◌, arith}
use Rattle.std.proofs.lemmas.Grind.{common_steps}
use Rattle.outline.proofs.Refused.{refusal_some}
use Rattle.file_outline.specs.File.{head_refusal}
use Rattle.file_outline.specs.RefusalLaws.{headed, head_count, file_head, file_blocks, file_longer, file_accepted}
use Rattle.file_outline.proofs.Bytes.{block_small}
use Rattle.file_outline.proofs.checked_head.Goals as goal

pub check_head-requires : goal.check_head-requires
check_head-requires c = block_small _ _ c.block.ensures

pub returns-in_err-h-clause-refused : goal.returns-in_err-h-clause-refused
returns-in_err-h-clause-refused c =
    let given = file_head _ c.block.ensures c.in_err-h.ensures.refused (refusal_some _) in
    grind (arith, common_steps)

pub head_points-n-requires : goal.head_points-n-requires
head_points-n-requires c =
    let h = c.in_ok-h.ensures in
    let unrefused = h.refused ∙ ap head_refusal (sym h.same) in
    omega (arith, (headed _ (sym unrefused)).sound.few, c.from.ensures, c.number_at.ensures.same)

pub check_blocks-requires : goal.check_blocks-requires
check_blocks-requires c =
    let h = c.in_ok-h.ensures in
    let unrefused = h.refused ∙ ap head_refusal (sym h.same) in
    head_count (headed _ (sym unrefused)) (rw c.from.ensures c.number_at.ensures) c.head_points-n.ensures

pub returns-in_err-check_blocks-clause-refused : goal.returns-in_err-check_blocks-clause-refused
returns-in_err-check_blocks-clause-refused c =
    let h = c.in_ok-h.ensures in
    let unrefused = h.refused ∙ ap head_refusal (sym h.same) in
    let given = file_blocks _ (h.same ∙ c.block.ensures) unrefused refl (rw c.from.ensures c.number_at.ensures) c.head_points-n.ensures c.in_err-check_blocks.ensures (refusal_some _) in
    grind (arith, common_steps)

pub file_length-requires : goal.file_length-requires
file_length-requires c =
    let h = c.in_ok-h.ensures in
    let unrefused = h.refused ∙ ap head_refusal (sym h.same) in
    head_count (headed _ (sym unrefused)) (rw c.from.ensures c.number_at.ensures) c.head_points-n.ensures

pub returns-then-file_length-file-clause-refused : goal.returns-then-file_length-file-clause-refused
returns-then-file_length-file-clause-refused c =
    let h = c.in_ok-h.ensures in
    let unrefused = h.refused ∙ ap head_refusal (sym h.same) in
    file_longer _ (h.same ∙ c.block.ensures) unrefused refl (rw c.from.ensures c.number_at.ensures) c.head_points-n.ensures c.in_ok-check_blocks.ensures refl
    (omega (arith, c.file_length.ensures, c.if-file_length-file.true))

pub returns-clause-refused : goal.returns-clause-refused
returns-clause-refused c =
    let h = c.in_ok-h.ensures in
    let unrefused = h.refused ∙ ap head_refusal (sym h.same) in
    file_accepted _ (h.same ∙ c.block.ensures) unrefused refl (rw c.from.ensures c.number_at.ensures) c.head_points-n.ensures c.in_ok-check_blocks.ensures refl
    (omega (arith, c.file_length.ensures, c.if-file_length-file.false))
