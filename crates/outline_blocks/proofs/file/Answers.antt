-- `file` meets its contract: the loop's invariant is that the loops passed are filed.
use Rattle.std.specs.Prelude.{◌+◌, refl, length}
use Rattle.std.proofs.Common.{◌∙◌, subst, arith}
use Rattle.std.proofs.lemmas.List.{length_push}
use Rattle.outline.specs.Outline.{outline_of}
use Rattle.outline.proofs.Accepted.{accepted}
use Rattle.outline_loops.proofs.LoopList.{loop_given, loops_given}
use Rattle.outline_blocks.proofs.Loops.{loop_asks, loop_most, loop_asked, loop_filed}
use Rattle.outline_blocks.proofs.FilingLaws.{LoopsFiled, loops_none, drawn}
use Rattle.outline_blocks.proofs.file.Goals as goal

pub loops_of-each-items-requires : goal.loops_of-each-items-requires
loops_of-each-items-requires c = (accepted _ c.requires).shape

pub loop-each-init : goal.loop-each-init
loop-each-init c = (loops_none _ _, refl)

pub first_block-first-requires : goal.first_block-first-requires
first_block-first-requires c =
    let each = loop_given (outline_of c.args.domain) _ _ c.next.new.self _ (cc) c.loop-each.yielded_by c.in-Some.each c.in-Some.is c.next.ensures.steps in
    rw each.index (loop_asks _ each c.requires)

pub file_loop-requires : goal.file_loop-requires
file_loop-requires c =
    let each = loop_given (outline_of c.args.domain) _ _ c.next.new.self _ (cc) c.loop-each.yielded_by c.in-Some.each c.in-Some.is c.next.ensures.steps in
    let first = rw each.index at c.first_block-first.ensures in
    (loop_asked each first c.requires, loop_most each first c.requires)

pub loop-each-preserved : goal.loop-each-preserved
loop-each-preserved c =
    let each = loop_given (outline_of c.args.domain) _ _ c.next.new.self _ (cc) c.loop-each.yielded_by c.in-Some.each c.in-Some.is c.next.ensures.steps in
    let filed = c.file_loop.ensures in
    rw (length_push c.loop-each.yielded c.in-Some.each)
    (loop_filed each (rw each.index at c.first_block-first.ensures) c.requires c.loop-each.invariant.0 filed, filed.long ∙ c.loop-each.invariant.1)

pub shape_of-blocks : goal.shape_of-blocks
shape_of-blocks c = c.loop-each.invariant.1

pub returns : goal.returns
returns c =
    let all = loops_given (outline_of c.args.domain) _ _ c.next.new.self _ (cc) c.loop-each.yielded_by c.in-None.is c.next.ensures.steps in
    let n = length c.args.domain.lens.now in
    drawn {k = n} c.requires
    (record { outer = λ i h. c.args.domain.doubles.outer i; holes = λ i h. c.args.domain.doubles.holes i })
    (subst (LoopsFiled _ _) {y = n + 1} (omega (arith, all)) c.loop-each.invariant.0) (omega arith)
