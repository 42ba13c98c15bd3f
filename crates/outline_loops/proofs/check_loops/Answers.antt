-- `check_loops` meets its contract.
use Rattle.std.proofs.Common.{rules, sym, arith}
use Rattle.std.proofs.lemmas.Grind.{common_steps}
use Rattle.std.proofs.lemmas.List.{length_push}
use Rattle.outline.specs.Outline.{outline_of}
use Rattle.outline.proofs.Refused.{refusal_some}
use Rattle.outline_loops.proofs.LoopList.{loop_given, loops_given}
use Rattle.outline_loops.proofs.LoopsChecked.{none_start, none_next, none_end, one_refused}
use Rattle.outline_loops.proofs.check_loops.Goals as goal

pub loop-each-init : goal.loop-each-init
loop-each-init c = none_start _

pub returns-in_err-check_loop : goal.returns-in_err-check_loop
returns-in_err-check_loop c =
    let each = loop_given (outline_of c.args.domain) _ _ c.next.new.self _ (cc) c.loop-each.yielded_by c.in-Some.each c.in-Some.is c.next.ensures.steps in
    one_refused _ _ c.loop-each.invariant (omega (arith, each.within)) (rw (← each.points) (search rules)) (grind (arith, common_steps, refusal_some))

pub loop-each-preserved : goal.loop-each-preserved
loop-each-preserved c =
    let each = loop_given (outline_of c.args.domain) _ _ c.next.new.self _ (cc) c.loop-each.yielded_by c.in-Some.each c.in-Some.is c.next.ensures.steps in
    rw (length_push c.loop-each.yielded c.in-Some.each) (none_next _ c.loop-each.invariant (omega (arith, each.within)) (rw (← each.points) (search rules)))

pub returns : goal.returns
returns c =
    none_end _ c.loop-each.invariant (sym (loops_given (outline_of c.args.domain) _ _ c.next.new.self _ (cc) c.loop-each.yielded_by c.in-None.is c.next.ensures.steps))
