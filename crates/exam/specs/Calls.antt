-- A whole exam: a list of calls by any roles, each on what the one before it left. Definitions only.
use Rattle.std.specs.Prelude.{List, [], ◌∷◌, ℕ}
use Rattle.exam_thresholds.specs.Figures.{Results}
use Rattle.exam_thresholds.specs.Kept.{Afresh}
use Rattle.exam.specs.declared.ResultChange.TheVariants.{Begin}
use Rattle.exam.specs.declared.ExamRequest.{ExamRequest}
use Rattle.exam.specs.declared.ExamRequest.TheVariants.{Changes}
use Rattle.exam.specs.Exam.{ExamMesh, mesh_in, exam_answer}

-- what some role asks, with its reply list
pub record Call : Type 0 where
  pub role : ℕ
  pub request : ExamRequest
  pub list : List ℕ

-- the results after a list of calls, each on what the one before it left
unfoldable pub after_calls : ExamMesh → Results → List Call → Results
after_calls m x [] = x
after_calls m x (c ∷ cs) = after_calls m (exam_answer m x c.role c.request c.list).left cs

-- whatever was lent to begin an exam, and whatever any roles asked since, refused or not: both figures are those worked out afresh
abbrev pub EveryExamKeeps : Type 0
EveryExamKeeps =
    (m : ExamMesh) (x : Results) (list : List ℕ) (cs : List Call) → Afresh (mesh_in m) (after_calls m (exam_answer m x 1 (Changes Begin) list).left cs)
