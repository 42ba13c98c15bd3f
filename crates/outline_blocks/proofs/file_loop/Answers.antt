-- `file_loop` meets its contract: the loop's invariant is that the blocks before the next are filed.
use Rattle.std.specs.Prelude.{◌≡◌, ◌+◌}
use Rattle.std.proofs.Common.{sym, ◌∙◌, arith, ltb-true, ltb-false}
use Rattle.outline_blocks.proofs.BetweenLaws.{place_of}
use Rattle.outline_blocks.proofs.FilingLaws.{filed_none, filed_next, filed_over, filed_end}
use Rattle.outline_blocks.proofs.file_loop.Goals as goal
use Rattle.outline_blocks.proofs.file_loop.Goals.{then-is_listed, else-is_listed}

pub loop-c-init : goal.loop-c-init
loop-c-init c = let e : c.args.first + 0 ≡ c.args.first = omega arith in rw e (filed_none _ _ _)

pub file_block-requires : goal.file_block-requires
file_block-requires c = (omega arith, omega arith, ltb-true _ _ (sym c.is_listed.ensures ∙ c.if-is_listed.true))

pub loop-c-preserved : goal.loop-c-preserved
loop-c-preserved c =
    let inv = c.loop-c.invariant in
    let place = place_of c.loop-c.c (omega arith) in
    let e : c.args.first + (c.loop-c.c + 1) ≡ c.args.first + c.loop-c.c + 1 = omega arith in
    rw e
    (elim c.if-is_listed.branch [
      | then-is_listed w ↦ rw w.blocks-is (filed_next inv place w.file_block.ensures)
      | else-is_listed w ↦ rw w.blocks-is (filed_over inv place (ltb-false _ _ (sym c.is_listed.ensures ∙ w.if-is_listed.false)))
    ])

pub shape_of-blocks : goal.shape_of-blocks
shape_of-blocks c = c.loop-c.invariant.long

pub returns : goal.returns
returns c = filed_end c.loop-c.invariant (place_of c.loop-c.c (omega arith)) (omega arith)
