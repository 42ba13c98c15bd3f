-- `file_outline::check_head` meets its contract: each way out is a case of `head_refusal`.
use Rattle.std.proofs.Common.{refl, ap, ◌∙◌, arith}
use Rattle.std.proofs.lemmas.Grind.{common_steps}
use Rattle.outline.proofs.Refused.{refusal_some}
use Rattle.file_outline.specs.File.{head_sound}
use Rattle.file_outline.specs.RefusalLaws.{head_block_lem, head_accepted, head_refused}
use Rattle.file_outline.proofs.check_head.Goals as goal

pub returns-in_err-whole-clause-refused : goal.returns-in_err-whole-clause-refused
returns-in_err-whole-clause-refused c =
    let given = head_block_lem _ c.in_err-whole.ensures.refused (refusal_some _) in
    grind (arith, common_steps)

pub returns-then-head_sound-clause-refused : goal.returns-then-head_sound-clause-refused
returns-then-head_sound-clause-refused c =
    let whole = c.in_ok-whole.ensures in head_accepted _ whole.refused refl (c.head_sound.ensures ∙ ap head_sound whole.same) c.if-head_sound.true

pub returns-else-head_sound-clause-refused : goal.returns-else-head_sound-clause-refused
returns-else-head_sound-clause-refused c =
    let whole = c.in_ok-whole.ensures in head_refused _ whole.refused refl (c.head_sound.ensures ∙ ap head_sound whole.same) c.if-head_sound.false
