-- `write_loop` meets its contract: the loop's invariant is `Walking`, and each answer is a law of it.
use Rattle.std.proofs.Common.{refl, arith}
use Rattle.front_loop_list.specs.Walked.{walking_start, walking_in, walking_marks, walking_loops, walking_room, walking_end, walking_next}
use Rattle.front_loop_list.proofs.LoopLists.write_loop.Goals as goal

pub loop-u-init : goal.loop-u-init
loop-u-init c = (walking_start c.requires, record { marks = refl; loops = refl; lengths = refl }, refl, refl)

pub bounds-self-node : goal.bounds-self-node
bounds-self-node c =
    let w = c.loop-u.invariant.0 in
    omega (arith, c.requires.marks_fit, walking_in w, walking_marks w)

pub bounds-self-i : goal.bounds-self-i
bounds-self-i c =
    let w = c.loop-u.invariant.0 in
    omega (arith, c.requires.room, walking_room w, walking_loops w)

pub bounds-next-node : goal.bounds-next-node
bounds-next-node c = walking_in c.loop-u.invariant.0

pub returns-then-u-start-clause-walked : goal.returns-then-u-start-clause-walked
returns-then-u-start-clause-walked c = walking_end c.loop-u.invariant.0 c.if-u-start.true

pub loop-u-preserved : goal.loop-u-preserved
loop-u-preserved c =
    let inv = c.loop-u.invariant in
    let same = inv.1 in
    (walking_next inv.0 c.if-u-start.false, record { marks = same.marks; loops = same.loops; lengths = same.lengths }, inv.2, inv.3)
