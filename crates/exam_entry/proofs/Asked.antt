-- What a host gets by what the role may and what the request does: each law takes what was called and what it ensures.
use Rattle.std.specs.Prelude.{Bool, true, false, List, ◌≡◌, ℕ, Result, Err}
use Rattle.std.proofs.Common.{sym, ◌∙◌, ap}
use Rattle.front_lent_mesh.specs.Mesh.{mesh, quad_count_of}
use Rattle.exam_thresholds.specs.Figures.{Results, outcome}
use Rattle.exam.specs.declared.ResultChange.{ResultChange}
use Rattle.exam.specs.declared.MeshRead.{MeshRead}
use Rattle.exam.specs.declared.ResultRead.{ResultRead}
use Rattle.exam.specs.declared.ExamRequest.{ExamRequest}
use Rattle.exam.specs.declared.ExamRequest.TheVariants.{Changes, ReadsMesh, ReadsResults, Unknown}
use Rattle.exam.specs.declared.ExamReply.{ExamReply}
use Rattle.exam.specs.declared.ExamReply.TheVariants.{Done}
use Rattle.exam.specs.declared.ExamAnswer.{ExamAnswer}
use Rattle.exam.specs.Exam.{ExamMesh, nodes_in, mesh_in, may, seen, mesh_seen, change_answer, reply_or, result_reply}
use Rattle.exam.specs.Exam.{Acted, acted, does, exam_acts, exam_numbers, exam_answer}
use Rattle.exam.specs.Statement.{ExamGiven}
use Rattle.exam.proofs.Given.{exam_given}

module _ (m : ExamMesh) (x : Results) (role : ℕ) (q : ExamRequest) (list : List ℕ) (p : ExamRequest) (asked : p ≡ q) where
  -- what is done where the role may
  allowed : (d : Acted) → may role p ≡ true → does m x p list ≡ d → (r : ExamAnswer) → r ≡ exam_numbers d.reply
      → ExamGiven m x role q list r d.list d.left
  unfolding exam_answer exam_acts
  allowed d t e r same =
      exam_given m x role q list r d.list d.left (rw (← asked, t, e, ← same))

  pub exam_unknown : p ≡ Unknown → (r : ExamAnswer) → r ≡ exam_numbers (Err 20) → ExamGiven m x role q list r list x
  unfolding exam_answer exam_acts
  exam_unknown is r same = exam_given m x role q list r list x (rw (← asked, is, ← same))

  module _ (b : Bool) (e : b ≡ may role p) where
    pub exam_not_allowed : b ≡ false → (r : ExamAnswer) → r ≡ exam_numbers (Err 20) → ExamGiven m x role q list r list x
    unfolding exam_answer exam_acts
    exam_not_allowed f r same = exam_given m x role q list r list x (rw (← asked, ← e, f, ← same))

    pub exam_changes : b ≡ true → (c : ResultChange) → p ≡ Changes c → (n : ℕ) → n ≡ nodes_in m → (refusal : ℕ) (left : Results)
        → outcome refusal left ≡ change_answer (mesh n (quad_count_of m.quad_count m.quads) m.quads) x c
        → (d : Result ExamReply ℕ) → d ≡ reply_or refusal Done → (r : ExamAnswer) → r ≡ exam_numbers d → ExamGiven m x role q list r list left
    exam_changes t c is n stops refusal left changed d done r same =
        let all : outcome refusal left ≡ change_answer (mesh_in m) x c =
        changed ∙ ap (λ (j : ℕ). change_answer (mesh j (quad_count_of m.quad_count m.quads) m.quads) x c) stops in
        allowed (acted d list left) (sym e ∙ t) (rw (is, ← all, ← done)) r same

    pub exam_reads_mesh : b ≡ true → (read : MeshRead) → p ≡ ReadsMesh read → (reply : Result ExamReply ℕ) (after : List ℕ) → seen reply after ≡ mesh_seen m read list
        → (r : ExamAnswer) → r ≡ exam_numbers reply → ExamGiven m x role q list r after x
    exam_reads_mesh t read is reply after sees r same = allowed (acted reply after x) (sym e ∙ t) (rw (is, ← sees)) r same

    pub exam_reads_results : b ≡ true → (read : ResultRead) → p ≡ ReadsResults read → (n : ℕ) → n ≡ nodes_in m → (reply : Result ExamReply ℕ)
        → reply ≡ result_reply (mesh n (quad_count_of m.quad_count m.quads) m.quads) x read
        → (r : ExamAnswer) → r ≡ exam_numbers reply → ExamGiven m x role q list r list x
    exam_reads_results t read is n stops reply reads r same =
        let all : reply ≡ result_reply (mesh_in m) x read =
        reads ∙ ap (λ (j : ℕ). result_reply (mesh j (quad_count_of m.quad_count m.quads) m.quads) x read) stops in
        allowed (acted reply list x) (sym e ∙ t) (rw (is, ← all)) r same
