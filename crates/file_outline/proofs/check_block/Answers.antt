-- `file_outline::check_block` meets its contract: each way out is a case of `block_refusal`.
use Rattle.std.proofs.Common.{sym, ap, ◌∙◌, arith}
use Rattle.std.proofs.Math.ListN.{length}
use Rattle.file_outline.specs.File.{block_refusal}
use Rattle.file_outline.specs.RefusalLaws.{block_refused_short, block_unrefused, block_refused_check}
use Rattle.file_outline.proofs.check_block.Goals as goal

pub returns-in_default-clause-refused : goal.returns-in_default-clause-refused
returns-in_default-clause-refused c = block_refused_short _ (omega (arith, c.in_default.ensures.cases, c.requires))

pub returns-then-check_of-from-clause-refused : goal.returns-then-check_of-from-clause-refused
returns-then-check_of-from-clause-refused c =
    let whole = c.in-Some.ensures.cases in
    block_refused_check _ (omega (arith, ap length whole.same, whole.long)) c.check_of.ensures c.number_at.ensures
    (λ same. c.if-check_of-from.true (same ∙ sym c.from.ensures))
    ∙ ap block_refusal whole.same

pub returns-clause-refused : goal.returns-clause-refused
returns-clause-refused c =
    let whole = c.in-Some.ensures.cases in
    block_unrefused _ (omega (arith, ap length whole.same, whole.long)) c.check_of.ensures c.number_at.ensures (c.if-check_of-from.false ∙ c.from.ensures)
    ∙ ap block_refusal whole.same
