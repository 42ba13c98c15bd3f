-- `field_directions::write_answers` meets its contract: the invariant is `PointsAnswered`, i points answered. Assumes nothing.
use Rattle.field_directions.specs.Laws.{PointsAnswered}
use Rattle.field_directions.proofs.write_answers.Given as goal

abbrev pub invariant-loop-i : goal.invariant-loop-i
invariant-loop-i l = PointsAnswered l.field.grid l.field.values.now l.queries.points.now l.queries.targets.now l.initial.answers l.i l.answers
