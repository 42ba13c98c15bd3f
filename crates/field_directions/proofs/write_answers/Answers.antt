-- `field_directions::write_answers` meets its contract: the invariant is `PointsAnswered`, i points answered. Assumes nothing.
use Rattle.field_directions.specs.Laws.{points_answered_start, points_answered_long, points_answered_room, points_answered_next, points_answered_end}
use native.Mathlib.Omega.{arith}
use Rattle.field_directions.proofs.write_answers.Goals as goal

pub loop-i-init : goal.loop-i-init
loop-i-init c = points_answered_start _ _ _ _ _

pub point_at-target-requires : goal.point_at-target-requires
point_at-target-requires c = omega (arith, c.requires.1.equal)

pub point_answer-answer-requires : goal.point_answer-answer-requires
point_answer-answer-requires c = c.requires.0

pub overflow_mul-i : goal.overflow_mul-i
overflow_mul-i c =
    omega (arith, points_answered_room _ _ _ _ _ c.loop-i.invariant c.requires.1 c.loop-i-test.true)

pub write_answer-requires : goal.write_answer-requires
write_answer-requires c =
    points_answered_room _ _ _ _ _ c.loop-i.invariant c.requires.1 c.loop-i-test.true

pub loop-i-preserved : goal.loop-i-preserved
loop-i-preserved c =
    points_answered_next _ _ _ _ _ c.loop-i.invariant c.requires.1 c.loop-i-test.true
    c.point_at-p.ensures c.point_at-target.ensures c.point_answer-answer.ensures c.write_answer.ensures

pub shape_of-answers : goal.shape_of-answers
shape_of-answers c = points_answered_long _ _ _ _ _ c.loop-i.invariant c.requires.1

pub returns : goal.returns
returns c = points_answered_end _ _ _ _ _ c.loop-i.invariant c.requires.1 c.loop-i-test.false
