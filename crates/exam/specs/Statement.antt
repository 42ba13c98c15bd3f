-- What a host gets of an exam. Statements only.
use Rattle.std.specs.Prelude.{true, false, List, ◌≡◌, ℕ, ◌≤◌, set, Result, IfOk}
use Rattle.numbers.specs.Float.{zero_f}
use Rattle.front_lent_mesh.specs.Mesh.{Mesh, quad_of}
use Rattle.exam_thresholds.specs.Figures.{most_threshold, threshold_at, stands, names, Results}
use Rattle.exam_thresholds.specs.Kept.{Afresh}
use Rattle.exam_estimates.specs.Estimate.{least_threshold, greatest_threshold, estimate_answer, estimated}
use Rattle.exam_estimates.specs.OneOff.{tenths_apart, EqualWithin}
use Rattle.exam.specs.declared.ExamRequest.{ExamRequest}
use Rattle.exam.specs.declared.ExamRequest.TheVariants.{Changes, ReadsResults}
use Rattle.exam.specs.declared.ResultChange.TheVariants.{Begin}
use Rattle.exam.specs.declared.ResultRead.TheVariants.{ReadEstimate}
use Rattle.exam.specs.declared.ExamAnswer.{ExamAnswer}
use Rattle.exam.specs.Exam.{ExamMesh, mesh_in, may_read_results, flat, exam_exit, exam_answer, masked_exit, masked_answer}

-- Of the estimate in quad k of a mesh: it equals its definition; were one threshold that stands another, the answer would be refused as it is, or its
-- estimate be no farther from this one than the two thresholds are apart, and the same where the quad doesn't name that node; and an estimate lies
-- between the least and the greatest of its corners.
pub record EstimateGiven (m : Mesh) (t : List ℕ) (k u v : ℕ) (r : Result ℕ ℕ) : Type 0 where
  pub equal : r ≡ estimate_answer m t k u v
  pub one_off : (id x : ℕ) → stands m.nodes t id ≡ true → x ≤ most_threshold
      → EqualWithin (tenths_apart x (threshold_at t id)) (estimate_answer m (set t id x) k u v) r
  pub elsewhere : (id x : ℕ) → names (quad_of m k) id ≡ false → estimate_answer m (set t id x) k u v ≡ r
  pub between : IfOk r (λ e. (least_threshold t (quad_of m k) ≤ e) × (e ≤ greatest_threshold t (quad_of m k)))

-- WHAT A HOST GETS of the request q of a role to the exam of the mesh m and the results x, with a reply list: `r` is answered, `after` and `left` are the
-- reply list and the results then.
pub record ExamGiven (m : ExamMesh) (x : Results) (role : ℕ) (q : ExamRequest) (list : List ℕ) (r : ExamAnswer) (after : List ℕ) (left : Results) : Type 0 where
  -- all of it is the definition's
  pub equal : exam_exit r after left ≡ exam_answer m x role q list
  -- where it is refused, the other numbers are 0
  pub no_numbers : (r.refusal ≡ 0 → ⊥) → r ≡ flat r.refusal zero_f zero_f 0 0 0 0 0 0 0 0 0 0
  -- a masked reader gets what has no results among its arguments: exams with the same mesh give it the same, whatever their thresholds, counts and sums
  pub masked : role ≡ 3 → masked_exit r after ≡ masked_answer m q list
  -- the results are as they were, unless the desk asked and nothing is refused
  pub unmoved : ((role ≡ 1) × (r.refusal ≡ 0) → ⊥) → left ≡ x
  -- Thresholds: figures that are those worked out afresh from the list lent are so of the list left; and once an exam has begun they are
  pub kept : Afresh (mesh_in m) x → Afresh (mesh_in m) left
  pub begun : role ≡ 1 → q ≡ Changes Begin → Afresh (mesh_in m) left
  -- estimates, where the role may read it
  pub estimate : (k u v : ℕ) → may_read_results role ≡ true → q ≡ ReadsResults (ReadEstimate k u v)
      → EstimateGiven (mesh_in m) x.thresholds k u v (estimated r.refusal r.estimate)
