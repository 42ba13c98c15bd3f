-- Readings of an exam, each on the smallest input that shows it. The check computes them.
use Rattle.std.specs.Prelude.{[], ◌∷◌, ◌≡◌, refl, ℕ, Result, Ok, Err}
use Rattle.std.specs.Float.{nan}
use Rattle.front.specs.State.{node_in}
use Rattle.front_lent_mesh.specs.Mesh.{node_count_of, quad_count_of, quad_in}
use Rattle.exam_thresholds.specs.Figures.{no_threshold, Results, results, is_missing, refusal_at, begin_answer, enter_answer}
use Rattle.exam.specs.declared.ExamReply.{ExamReply}
use Rattle.exam.specs.declared.ExamReply.TheVariants.{Done, Node, Quad, Threshold, Figures}
use Rattle.exam.specs.Exam.{ExamMesh, exam_mesh, nodes_lent, request_numbered, node_reply, quad_reply, mesh_seen, change_answer, reply_or, threshold_reply, result_reply}
use Rattle.exam.specs.Exam.{exam_acts, exam_numbers, ExamExit, exam_exit, exam_answer}

-- one node, with the origin 7, and a quad that names no node last
abbrev one : ExamMesh
one = exam_mesh 1 (nan ∷ []) (nan ∷ []) 1 (0 ∷ 0 ∷ 0 ∷ 9 ∷ []) [] [] (7 ∷ [])

-- no threshold is lent, and figures that no call left
abbrev none : Results
none = results [] 3 4

-- a role's operation on one of these, with item 0 and value 501, and no reply list
abbrev asks : ExamMesh → Results → ℕ → ℕ → ExamExit
asks m x role operation = exam_answer m x role (request_numbered operation 0 501 0 0) []

-- the reply, with nothing changed
abbrev says : Results → Result ExamReply ℕ → ExamExit
says x reply = exam_exit (exam_numbers reply) [] x

-- a node past the threshold list has its coordinates and its origin: the list's length doesn't show
node_read : asks one none 3 4 ≡ says none (Ok (Node (node_in (nan ∷ []) (nan ∷ []) 0) 7))
unfolding exam_answer exam_acts request_numbered mesh_seen node_reply nodes_lent node_count_of
node_read = refl

-- a node whose origin isn't lent is no node
no_origin : asks (exam_mesh 1 (nan ∷ []) (nan ∷ []) 0 [] [] [] []) none 3 4 ≡ says none (Err 15)
unfolding exam_answer exam_acts request_numbered mesh_seen node_reply nodes_lent node_count_of
no_origin = refl

-- a quad has its four ids, whether they are nodes and have thresholds or not
quad_read : asks one none 3 5 ≡ says none (Ok (Quad (record { a = 0; b = 0; d = 0; c = 9 })))
unfolding exam_answer exam_acts request_numbered mesh_seen quad_reply quad_count_of quad_in
quad_read = refl

-- a threshold past the list is 15, as for an entry; where none stands 17
no_place : asks one none 2 7 ≡ says none (Err 15)
unfolding exam_answer exam_acts request_numbered result_reply threshold_reply reply_or refusal_at is_missing nodes_lent node_count_of
no_place = refl

none_stands : asks one (results (501 ∷ []) 3 4) 2 7 ≡ says (results (501 ∷ []) 3 4) (Err 17)
unfolding exam_answer exam_acts request_numbered result_reply threshold_reply reply_or refusal_at is_missing nodes_lent node_count_of
none_stands = refl

threshold_read : asks one (results (500 ∷ []) 3 4) 2 7 ≡ says (results (500 ∷ []) 3 4) (Ok (Threshold 500))
unfolding exam_answer exam_acts request_numbered result_reply threshold_reply reply_or refusal_at is_missing nodes_lent node_count_of
threshold_read = refl

-- the desk reads what a reader reads; a masked reader doesn't
figures_desk : asks one none 1 8 ≡ says none (Ok (Figures 3 4))
unfolding exam_answer exam_acts request_numbered result_reply
figures_desk = refl

figures_masked : asks one none 3 8 ≡ says none (Err 20)
unfolding exam_answer exam_acts request_numbered
figures_masked = refl

-- 20 before all other checks: where the desk is refused with 15 and the value is above 500, a reader is refused with 20
missing : asks one none 1 2 ≡ says none (Err 15)
unfolding exam_answer exam_acts request_numbered change_answer enter_answer reply_or refusal_at is_missing nodes_lent node_count_of
missing = refl

not_allowed : asks one none 2 2 ≡ says none (Err 20)
unfolding exam_answer exam_acts request_numbered
not_allowed = refl

-- an unknown role, and an unknown operation of the desk
no_role : asks one none 0 4 ≡ says none (Err 20)
unfolding exam_answer exam_acts request_numbered
no_role = refl

no_operation : asks one none 1 10 ≡ says none (Err 20)
unfolding exam_answer exam_acts request_numbered
no_operation = refl

-- the desk begins: none in every place
begins : asks one (results (7 ∷ []) 3 4) 1 1 ≡ says (results (no_threshold ∷ []) 0 0) (Ok Done)
unfolding exam_answer exam_acts request_numbered change_answer begin_answer reply_or
begins = refl
