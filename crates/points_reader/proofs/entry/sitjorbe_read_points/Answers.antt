-- `points_reader::sitjorbe_read_points` meets its contract: refused it writes nothing, and otherwise there is room for all that is read.
use Rattle.std.proofs.Common.{ap, sym, ◌∙◌}
use Rattle.points_reader.specs.Laid.{laid}
use Rattle.points_reader.specs.Walking.{Walk}
use Rattle.points_reader.specs.declared.entry.PointsAnswer.{PointsAnswer}
use Rattle.points_reader.proofs.Written.{few_bytes, fits, walk_same, written_whole, unwritten}
use Rattle.points_reader.proofs.entry.sitjorbe_read_points.Goals as goal

pub returns-then-answer-ne0-clause-coordinates : goal.returns-then-answer-ne0-clause-coordinates
returns-then-answer-ne0-clause-coordinates c = unwritten _ _ _ c.if-answer-ne0.true

pub returns-then-answer-ne0-clause-lines : goal.returns-then-answer-ne0-clause-lines
returns-then-answer-ne0-clause-lines c = unwritten _ _ _ c.if-answer-ne0.true

pub returns-then-answer-ne0-clause-point_counts : goal.returns-then-answer-ne0-clause-point_counts
returns-then-answer-ne0-clause-point_counts c = unwritten _ _ _ c.if-answer-ne0.true

pub returns-then-answer-ne0-clause-loop_marks : goal.returns-then-answer-ne0-clause-loop_marks
returns-then-answer-ne0-clause-loop_marks c = unwritten _ _ _ c.if-answer-ne0.true

pub walk-requires-clause-fits : goal.walk-requires-clause-fits
walk-requires-clause-fits c =
    let none = sym (ap (λ (a : PointsAnswer). a.refusal) c.points_answer-answer.ensures) ∙ c.if-answer-ne0.false in
    rw c.unmarked-text.ensures (few_bytes _ _ _ _ _ _ none)

pub returns-clause-coordinates : goal.returns-clause-coordinates
returns-clause-coordinates c =
    let none = sym (ap (λ (a : PointsAnswer). a.refusal) c.points_answer-answer.ensures) ∙ c.if-answer-ne0.false in
    let same = walk_same c.args.text.now c.args.which c.separator_of.ensures c.unmarked-text.ensures c.new-reader.ensures.is in
    written_whole _ c.args.coordinates.now c.if-answer-ne0.false (fits _ _ _ _ _ _ none).points
    (c.walk.ensures.points ∙ ap (λ (w : Walk). laid w.out.points c.args.coordinates.now) same)

pub returns-clause-lines : goal.returns-clause-lines
returns-clause-lines c =
    let none = sym (ap (λ (a : PointsAnswer). a.refusal) c.points_answer-answer.ensures) ∙ c.if-answer-ne0.false in
    let same = walk_same c.args.text.now c.args.which c.separator_of.ensures c.unmarked-text.ensures c.new-reader.ensures.is in
    written_whole _ c.args.lines.now c.if-answer-ne0.false (fits _ _ _ _ _ _ none).lines
    (c.walk.ensures.lines ∙ ap (λ (w : Walk). laid w.out.lines c.args.lines.now) same)

pub returns-clause-point_counts : goal.returns-clause-point_counts
returns-clause-point_counts c =
    let none = sym (ap (λ (a : PointsAnswer). a.refusal) c.points_answer-answer.ensures) ∙ c.if-answer-ne0.false in
    let same = walk_same c.args.text.now c.args.which c.separator_of.ensures c.unmarked-text.ensures c.new-reader.ensures.is in
    written_whole _ c.args.point_counts.now c.if-answer-ne0.false (fits _ _ _ _ _ _ none).lengths
    (c.walk.ensures.lengths ∙ ap (λ (w : Walk). laid w.out.lengths c.args.point_counts.now) same)

pub returns-clause-loop_marks : goal.returns-clause-loop_marks
returns-clause-loop_marks c =
    let none = sym (ap (λ (a : PointsAnswer). a.refusal) c.points_answer-answer.ensures) ∙ c.if-answer-ne0.false in
    let same = walk_same c.args.text.now c.args.which c.separator_of.ensures c.unmarked-text.ensures c.new-reader.ensures.is in
    written_whole _ c.args.loop_marks.now c.if-answer-ne0.false (fits _ _ _ _ _ _ none).marks
    (c.walk.ensures.marks ∙ ap (λ (w : Walk). laid w.out.marks c.args.loop_marks.now) same)
