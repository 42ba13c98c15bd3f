-- `run_origins::number_samples` meets its contract: the loop's invariant is `LoopsNumbered`, and each answer is a law of it.
use Rattle.std.proofs.Common.{refl, arith}
use Rattle.std.proofs.lemmas.List.{length_push}
use Rattle.outline.specs.Outline.{outline_of}
use Rattle.outline_loops.proofs.LoopList.{loop_given, loops_given}
use Rattle.front_boundary.proofs.Progress.{outline_shaped}
use Rattle.run_origins.specs.Writing.{loops_few, numbered_none, numbered_few, numbered_fits, numbered_next, numbered_all}
use Rattle.run_origins.proofs.number_samples.Goals as goal

pub loops_of-each-items-requires : goal.loops_of-each-items-requires
loops_of-each-items-requires c = outline_shaped _ c.requires.outline

pub loop-each-init : goal.loop-each-init
loop-each-init c = numbered_none _ _ _

pub overflow_cast-each : goal.overflow_cast-each
overflow_cast-each c =
    let each = loop_given (outline_of c.args.domain) _ _ c.next.new.self _ (cc) c.loop-each.yielded_by c.in-Some.each c.in-Some.is c.next.ensures.steps in
    omega (arith, each.index, each.within, loops_few _ c.requires.outline)

pub number_loop-n-requires : goal.number_loop-n-requires
number_loop-n-requires c =
    let each = loop_given (outline_of c.args.domain) _ _ c.next.new.self _ (cc) c.loop-each.yielded_by c.in-Some.each c.in-Some.is c.next.ensures.steps in
    let W = c.loop-each.invariant in
    (numbered_fits _ _ _ W each.within each.points c.requires.room, numbered_few _ _ _ W each.within each.points c.requires.few)

pub loop-each-preserved : goal.loop-each-preserved
loop-each-preserved c =
    let each = loop_given (outline_of c.args.domain) _ _ c.next.new.self _ (cc) c.loop-each.yielded_by c.in-Some.each c.in-Some.is c.next.ensures.steps in
    let call = c.number_loop-n in
    rw (length_push c.loop-each.yielded c.in-Some.each, call.ensures.0)
    (numbered_next _ _ _ c.loop-each.invariant each.within each.points c.requires.room refl refl (rw each.index at call.ensures.1) call.auto.origins)

pub shape_of-origins : goal.shape_of-origins
shape_of-origins c = c.loop-each.invariant.long

pub returns : goal.returns
returns c =
    let all = loops_given (outline_of c.args.domain) _ _ c.next.new.self _ (cc) c.loop-each.yielded_by c.in-None.is c.next.ensures.steps in
    numbered_all _ _ _ c.loop-each.invariant (omega (arith, all))
