-- What a host gets of an exam follows from the definition: `exam_given`. And what holds of any list of requests by any roles.
use Rattle.std.specs.Prelude.{Bool, cond, List, [], ◌∷◌, ◌≡◌, ℕ, Result, Err}
use Rattle.std.proofs.Math.Bool.{true, false}
use Rattle.std.proofs.Math.Path.{refl, subst}
use Rattle.std.proofs.Common.{sym}
use Rattle.std.proofs.Math.Dec.{eqb}
use Rattle.front_lent_mesh.specs.Mesh.{quads_few}
use Rattle.exam_thresholds.specs.Figures.{Results}
use Rattle.exam_thresholds.specs.Kept.{Afresh}
use Rattle.exam_thresholds.proofs.Kept.{enter_kept, withdraw_kept, begin_kept}
use Rattle.exam.specs.declared.ResultChange.{ResultChange}
use Rattle.exam.specs.declared.ResultChange.TheVariants.{Begin, Enter, Withdraw}
use Rattle.exam.specs.declared.ExamRequest.{ExamRequest}
use Rattle.exam.specs.declared.ExamRequest.TheVariants.{Changes, ReadsMesh, ReadsResults, Unknown}
use Rattle.exam.specs.declared.ExamReply.{ExamReply}
use Rattle.exam.specs.Exam.{ExamMesh, mesh_in, may_read_mesh, may_read_results, mesh_seen, change_answer, result_reply}
use Rattle.exam.specs.Exam.{acted, does, exam_acts, exam_answer, masked_exit, masked_answer}

-- ---- the masked reader

pub masked_sees : (m : ExamMesh) (x : Results) (q : ExamRequest) (list : List ℕ)
    → masked_exit (exam_answer m x 3 q list).numbers (exam_answer m x 3 q list).list ≡ masked_answer m q list
unfolding exam_answer exam_acts masked_answer
masked_sees m x (Changes c) list = refl
masked_sees m x (ReadsMesh r) list = refl
masked_sees m x (ReadsResults r) list = refl
masked_sees m x Unknown list = refl

-- ---- what is left of the results

module _ (m : ExamMesh) (x : Results) (role : ℕ) where
  -- a request that isn't a change, allowed or not, leaves them
  reads_leave : (b : Bool) (reply : Result ExamReply ℕ) (list after : List ℕ) → (cond b (acted reply after x) (acted (Err 20) list x)).left ≡ x
  reads_leave true reply list after = refl
  reads_leave false reply list after = refl

  change_kept : (c : ResultChange) → Afresh (mesh_in m) x → Afresh (mesh_in m) (change_answer (mesh_in m) x c).results
  unfolding change_answer
  change_kept Begin a = begin_kept (mesh_in m) x
  change_kept (Enter id v) a = enter_kept (mesh_in m) (quads_few m.quad_count m.quads) x id v a
  change_kept (Withdraw id) a = withdraw_kept (mesh_in m) (quads_few m.quad_count m.quads) x id a

  pub exam_kept : (q : ExamRequest) (list : List ℕ) → Afresh (mesh_in m) x → Afresh (mesh_in m) (exam_answer m x role q list).left
  unfolding exam_answer exam_acts
  exam_kept (Changes c) list a = by (eqb role 1)
    where
      by : (b : Bool) → Afresh (mesh_in m) (cond b (does m x (Changes c) list) (acted (Err 20) list x)).left
      by true = change_kept c a
      by false = a
  exam_kept (ReadsMesh r) list a =
      subst (Afresh (mesh_in m)) (sym (reads_leave (may_read_mesh role) (mesh_seen m r list).reply list (mesh_seen m r list).list)) a
  exam_kept (ReadsResults r) list a = subst (Afresh (mesh_in m)) (sym (reads_leave (may_read_results role) (result_reply (mesh_in m) x r) list list)) a
  exam_kept Unknown list a = a

-- whatever was lent, the figures are those of the list once an exam has begun
pub exam_begun : (m : ExamMesh) (x : Results) (list : List ℕ) → Afresh (mesh_in m) (exam_answer m x 1 (Changes Begin) list).left
unfolding exam_answer exam_acts change_answer
exam_begun m x list = begin_kept (mesh_in m) x
