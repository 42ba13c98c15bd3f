-- What the entry goes by.
use Rattle.std.specs.Prelude.{false, ◌||◌, List, ◌≡◌, ℕ, eqb, refl, Result}
use Rattle.laws.specs.Tests.{neither}
use Rattle.exam_thresholds.specs.Figures.{Results}
use Rattle.exam.specs.declared.ExamRequest.{ExamRequest}
use Rattle.exam.specs.declared.ExamRequest.TheVariants.{Changes, ReadsMesh, ReadsResults, Unknown}
use Rattle.exam.specs.declared.ExamReply.{ExamReply}
use Rattle.exam.specs.declared.ExamAnswer.{ExamAnswer}
use Rattle.exam.specs.Exam.{ExamMesh, may_read_mesh, may, reader_role, acted, exam_acts, exam_numbers, exam_answer}
use Rattle.exam.specs.Statement.{ExamGiven}
use Rattle.exam.proofs.Given.{exam_given}

-- what isn't a role's number has no operation
pub no_role : (role : ℕ) (q : ExamRequest) → may_read_mesh role ≡ false → may role q ≡ false
no_role role (Changes c) e = (neither (eqb role 1) (eqb role 2 || eqb role 3) e).0
no_role role (ReadsMesh r) e = e
no_role role (ReadsResults r) e =
    let p = neither (eqb role 1) (eqb role 2 || eqb role 3) e in
    rw (p.0, (neither (eqb role 2) (eqb role 3) p.1).0)
no_role role Unknown e = refl

-- nor has the desk's, where a reader is asked for
pub no_reader : (q : ExamRequest) → may (reader_role 1) q ≡ false
unfolding reader_role
no_reader (Changes c) = refl
no_reader (ReadsMesh r) = refl
no_reader (ReadsResults r) = refl
no_reader Unknown = refl

-- what is done, by its numbers
pub exam_asked : (m : ExamMesh) (x : Results) (role : ℕ) (q : ExamRequest) (list : List ℕ) (reply : Result ExamReply ℕ) (after : List ℕ) (left : Results)
    → acted reply after left ≡ exam_acts m x role q list → (r : ExamAnswer) → r ≡ exam_numbers reply → ExamGiven m x role q list r after left
unfolding exam_answer
exam_asked m x role q list reply after left e r same = exam_given m x role q list r after left (rw (← e, ← same))
