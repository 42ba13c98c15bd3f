-- What holds of the definitions of proofs/Given.antt.
use Rattle.std.specs.Prelude.{Bool, cond, List, [], ◌∷◌, ◌≡◌, ℕ, zero, suc, ◌≤◌, set, Result, Ok, Err, IfOk}
use Rattle.std.proofs.Math.Bool.{true, false}
use Rattle.std.proofs.Math.Path.{refl, subst}
use Rattle.std.proofs.Common.{sym, ◌∙◌, eqb-true}
use Rattle.std.proofs.Math.Dec.{eqb}
use Rattle.numbers.specs.Float.{zero_f}
use Rattle.front_lent_mesh.specs.Mesh.{Mesh, quad_of}
use Rattle.exam_thresholds.specs.Figures.{threshold_at, Results}
use Rattle.exam_thresholds.specs.Kept.{Afresh, enter_unmoved, withdraw_unmoved}
use Rattle.exam_thresholds.specs.Figures.{begin_answer}
use Rattle.exam_estimates.specs.Estimate.{least_threshold, greatest_threshold, estimate_answer, estimate_refusal, estimate_of, estimated}
use Rattle.exam_estimates.specs.OneOff.{tenths_apart, EqualWithin, elsewhere}
use Rattle.exam_estimates.proofs.OneOff.{one_off, between_corners}
use Rattle.exam.specs.declared.ResultChange.{ResultChange}
use Rattle.exam.specs.declared.ResultChange.TheVariants.{Begin, Enter, Withdraw}
use Rattle.exam.specs.declared.ResultRead.TheVariants.{ReadEstimate}
use Rattle.exam.specs.declared.ExamRequest.{ExamRequest}
use Rattle.exam.specs.declared.ExamRequest.TheVariants.{Changes, ReadsMesh, ReadsResults, Unknown}
use Rattle.exam.specs.declared.ExamReply.{ExamReply}
use Rattle.exam.specs.declared.ExamReply.TheVariants.{Done, Node, Quad, Loop, Threshold, Figures, Estimate}
use Rattle.exam.specs.declared.ExamAnswer.{ExamAnswer}
use Rattle.exam.specs.Exam.{ExamMesh, mesh_in, may, may_read_mesh, may_read_results, mesh_seen, change_answer, reply_or, reply_with, result_reply, estimate_reply}
use Rattle.exam.specs.Exam.{acted, does, exam_acts, flat, exam_numbers, ExamExit, exam_exit, exam_answer, masked_exit, masked_answer}
use Rattle.exam.specs.Statement.{EstimateGiven, ExamGiven}
use Rattle.exam.specs.Calls.{Call, after_calls}
use Rattle.exam.proofs.GivenLaws.{masked_sees, exam_kept, exam_begun}

-- ---- the masked reader

-- two exams with the same mesh
pub masked_same : (m : ExamMesh) (x y : Results) (q : ExamRequest) (list : List ℕ)
    → masked_exit (exam_answer m x 3 q list).numbers (exam_answer m x 3 q list).list
    ≡ masked_exit (exam_answer m y 3 q list).numbers (exam_answer m y 3 q list).list
masked_same m x y q list = masked_sees m x q list ∙ sym (masked_sees m y q list)

-- ---- what is left of the results

done_number : (n : ℕ) → (exam_numbers (reply_or n Done)).refusal ≡ n
unfolding exam_numbers reply_or
done_number zero = refl
done_number (suc n) = refl

change_unmoved : (m : Mesh) (x : Results) (c : ResultChange) → ((change_answer m x c).refusal ≡ 0 → ⊥) → (change_answer m x c).results ≡ x
unfolding change_answer begin_answer
change_unmoved m x Begin h = absurd (h refl)
change_unmoved m x (Enter id v) h = enter_unmoved m x id v h
change_unmoved m x (Withdraw id) h = withdraw_unmoved m x id h

module _ (m : ExamMesh) (x : Results) (role : ℕ) where
  -- a request that isn't a change, allowed or not, leaves them
  reads_leave : (b : Bool) (reply : Result ExamReply ℕ) (list after : List ℕ) → (cond b (acted reply after x) (acted (Err 20) list x)).left ≡ x
  reads_leave true reply list after = refl
  reads_leave false reply list after = refl

  exam_unmoved : (q : ExamRequest) (list : List ℕ) → ((role ≡ 1) × ((exam_answer m x role q list).numbers.refusal ≡ 0) → ⊥)
      → (exam_answer m x role q list).left ≡ x
  unfolding exam_answer exam_acts
  exam_unmoved (Changes c) list h = by (eqb role 1) refl h
    where
      by : (b : Bool) → eqb role 1 ≡ b
          → ((role ≡ 1) × ((exam_numbers (cond b (does m x (Changes c) list) (acted (Err 20) list x)).reply).refusal ≡ 0) → ⊥)
          → (cond b (does m x (Changes c) list) (acted (Err 20) list x)).left ≡ x
      by true e h = change_unmoved (mesh_in m) x c (λ z. h (eqb-true role 1 e, done_number (change_answer (mesh_in m) x c).refusal ∙ z))
      by false e h = refl
  exam_unmoved (ReadsMesh r) list h = reads_leave (may_read_mesh role) (mesh_seen m r list).reply list (mesh_seen m r list).list
  exam_unmoved (ReadsResults r) list h = reads_leave (may_read_results role) (result_reply (mesh_in m) x r) list list
  exam_unmoved Unknown list h = refl

-- ---- an estimate

estimate_flat : (m : Mesh) (t : List ℕ) (k u v : ℕ)
    → estimated (exam_numbers (estimate_reply m t k u v)).refusal (exam_numbers (estimate_reply m t k u v)).estimate ≡ estimate_answer m t k u v
unfolding estimate_reply reply_or estimate_answer exam_numbers
estimate_flat m t k u v = by (estimate_refusal m t k u v) (estimate_of u v t (quad_of m k))
  where
    by : (n x : ℕ) → let e = exam_numbers (reply_with Estimate (estimated n x)) in estimated e.refusal e.estimate ≡ estimated n x
    by zero x = refl
    by (suc n) x = refl

-- the theorems on one threshold, of whatever equals the definition
estimate_given : (m : Mesh) (t : List ℕ) (k u v : ℕ) (r : Result ℕ ℕ) → r ≡ estimate_answer m t k u v → EstimateGiven m t k u v r
estimate_given m t k u v r same =
    record {
      equal = same;
      one_off = λ id x here low.
          subst (λ (a : Result ℕ ℕ). EqualWithin (tenths_apart x (threshold_at t id)) (estimate_answer m (set t id x) k u v) a) (sym same)
          (one_off m t id x k u v here low);
      elsewhere = λ id x apart. elsewhere m t id x k u v apart ∙ sym same;
      between = subst (λ (a : Result ℕ ℕ). IfOk a (λ e. (least_threshold t (quad_of m k) ≤ e) × (e ≤ greatest_threshold t (quad_of m k))))
          (sym same) (between_corners m t k u v);
    }

exam_estimate : (m : ExamMesh) (x : Results) (role : ℕ) (list : List ℕ) (k u v : ℕ) → may_read_results role ≡ true
    → EstimateGiven (mesh_in m) x.thresholds k u v
    (estimated (exam_answer m x role (ReadsResults (ReadEstimate k u v)) list).numbers.refusal
    (exam_answer m x role (ReadsResults (ReadEstimate k u v)) list).numbers.estimate)
unfolding exam_answer exam_acts result_reply
exam_estimate m x role list k u v may =
    rw may (estimate_given (mesh_in m) x.thresholds k u v _ (estimate_flat (mesh_in m) x.thresholds k u v))

-- ---- a refusal

refused_numbers : (a : Result ExamReply ℕ) → ((exam_numbers a).refusal ≡ 0 → ⊥) → exam_numbers a ≡ flat (exam_numbers a).refusal zero_f zero_f 0 0 0 0 0 0 0 0 0 0
unfolding exam_numbers
refused_numbers (Err number) h = refl
refused_numbers (Ok Done) h = absurd (h refl)
refused_numbers (Ok (Node p origin)) h = absurd (h refl)
refused_numbers (Ok (Quad q)) h = absurd (h refl)
refused_numbers (Ok (Loop length)) h = absurd (h refl)
refused_numbers (Ok (Threshold t)) h = absurd (h refl)
refused_numbers (Ok (Figures count sum)) h = absurd (h refl)
refused_numbers (Ok (Estimate e)) h = absurd (h refl)

-- ---- WHAT A HOST GETS

module _ (m : ExamMesh) (x : Results) (role : ℕ) (q : ExamRequest) (list : List ℕ) where
  defined : let e = exam_answer m x role q list in ExamGiven m x role q list e.numbers e.list e.left
  unfolding exam_answer
  defined =
      record {
        equal = refl;
        no_numbers = refused_numbers (exam_acts m x role q list).reply;
        masked = λ three. subst (λ (j : ℕ). masked_exit (exam_answer m x j q list).numbers (exam_answer m x j q list).list ≡ masked_answer m q list) (sym three)
            (masked_sees m x q list);
        unmoved = exam_unmoved m x role q list;
        kept = exam_kept m x role q list;
        begun = λ one begin.
            subst (λ (j : ℕ). Afresh (mesh_in m) (exam_answer m x j q list).left) (sym one)
            (subst (λ (p : ExamRequest). Afresh (mesh_in m) (exam_answer m x 1 p list).left) (sym begin) (exam_begun m x list));
        estimate = λ k u v may same.
            subst (λ (p : ExamRequest).
            EstimateGiven (mesh_in m) x.thresholds k u v (estimated (exam_answer m x role p list).numbers.refusal (exam_answer m x role p list).numbers.estimate))
            (sym same) (exam_estimate m x role list k u v may);
      }

  pub exam_given : (r : ExamAnswer) (after : List ℕ) (left : Results) → exam_exit r after left ≡ exam_answer m x role q list
      → ExamGiven m x role q list r after left
  exam_given r after left e = subst (λ (z : ExamExit). ExamGiven m x role q list z.numbers z.list z.left) (sym e) defined

-- ---- a whole exam

calls_kept : (m : ExamMesh) (cs : List Call) (x : Results) → Afresh (mesh_in m) x → Afresh (mesh_in m) (after_calls m x cs)
unfolding after_calls
calls_kept m [] x a = a
calls_kept m (c ∷ cs) x a = calls_kept m cs (exam_answer m x c.role c.request c.list).left (exam_kept m x c.role c.request c.list a)

-- ALWAYS KEPT: whatever was lent to begin an exam, after any calls by any roles both figures are those worked out afresh
pub exam_always_kept : (m : ExamMesh) (x : Results) (list : List ℕ) (cs : List Call)
    → Afresh (mesh_in m) (after_calls m (exam_answer m x 1 (Changes Begin) list).left cs)
exam_always_kept m x list cs = calls_kept m cs (exam_answer m x 1 (Changes Begin) list).left (exam_begun m x list)
