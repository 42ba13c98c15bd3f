-- THE EXAM: its record, who may ask what, and what is answered. Definitions only.
use Rattle.std.specs.Prelude.{Bool, false, ◌||◌, cond, List, ℕ, min, eqb, leb, length, get_or, Float, Result, Ok, Err}
use Rattle.numbers.specs.Float.{zero_f}
use Rattle.outline.specs.Queries.{answer_by}
use Rattle.front.specs.State.{node_in}
use Rattle.front_lent_mesh.specs.Mesh.{Mesh, mesh, node_count_of, quad_count_of, quad_in}
use Rattle.exam_thresholds.specs.Figures.{threshold_at, Results, Outcome, refusal_at, begin_answer, enter_answer, withdraw_answer}
use Rattle.exam_estimates.specs.Estimate.{estimate_answer}
use Rattle.exam_loops.specs.Loops.{read_loop}
use Rattle.exam.specs.declared.Role.{Role}
use Rattle.exam.specs.declared.Role.TheVariants.{Desk, Reader, MaskedReader}
use Rattle.exam.specs.declared.ResultChange.{ResultChange}
use Rattle.exam.specs.declared.ResultChange.TheVariants.{Begin, Enter, Withdraw}
use Rattle.exam.specs.declared.MeshRead.{MeshRead}
use Rattle.exam.specs.declared.MeshRead.TheVariants.{ReadNode, ReadQuad, ReadLoop}
use Rattle.exam.specs.declared.ResultRead.{ResultRead}
use Rattle.exam.specs.declared.ResultRead.TheVariants.{ReadThreshold, ReadFigures, ReadEstimate}
use Rattle.exam.specs.declared.ExamRequest.{ExamRequest}
use Rattle.exam.specs.declared.ExamRequest.TheVariants.{Changes, ReadsMesh, ReadsResults, Unknown}
use Rattle.exam.specs.declared.ExamReply.{ExamReply}
use Rattle.exam.specs.declared.ExamReply.TheVariants.{Done, Node, Quad, Loop, Threshold, Figures, Estimate}
use Rattle.exam.specs.declared.ExamAnswer.{ExamAnswer}

-- ---- the exam record: the mesh, as it is lent, and the results (`Results`: the thresholds and the two figures)

pub record ExamMesh : Type 0 where
  pub nodes : ℕ
  pub xs : List Float
  pub ys : List Float
  pub quad_count : ℕ
  pub quads : List ℕ
  pub next : List ℕ
  pub prev : List ℕ
  pub origins : List ℕ

abbrev pub exam_mesh : ℕ → List Float → List Float → ℕ → List ℕ → List ℕ → List ℕ → List ℕ → ExamMesh
exam_mesh nodes xs ys count quads next prev origins =
    record { nodes = nodes; xs = xs; ys = ys; quad_count = count; quads = quads; next = next; prev = prev; origins = origins }

-- the count of nodes, which stops where a coordinate or the origin isn't lent
unfoldable pub nodes_lent : ℕ → List Float → List Float → List ℕ → ℕ
nodes_lent nodes xs ys origins = min (node_count_of nodes xs ys) (length origins)

abbrev pub nodes_in : ExamMesh → ℕ
nodes_in m = nodes_lent m.nodes m.xs m.ys m.origins

-- the mesh of which figures and estimates are made, its counts as they stop
abbrev pub mesh_in : ExamMesh → Mesh
mesh_in m = mesh (nodes_in m) (quad_count_of m.quad_count m.quads) m.quads

-- ---- roles: 1 the desk, 2 a reader, 3 a masked reader

abbrev pub role_number : Role → ℕ
role_number Desk = 1
role_number Reader = 2
role_number MaskedReader = 3

abbrev pub may_change : ℕ → Bool
may_change role = eqb role 1

abbrev pub may_read_results : ℕ → Bool
may_read_results role = eqb role 1 || eqb role 2

abbrev pub may_read_mesh : ℕ → Bool
may_read_mesh role = eqb role 1 || (eqb role 2 || eqb role 3)

-- the role has the operation
abbrev pub may : ℕ → ExamRequest → Bool
may role (Changes c) = may_change role
may role (ReadsMesh r) = may_read_mesh role
may role (ReadsResults r) = may_read_results role
may role Unknown = false

-- who reads, with nothing to change: the desk's number is no reader's
unfoldable pub reader_role : ℕ → ℕ
reader_role role = cond (eqb role 1) 0 role

-- ---- requests: an operation's number, and the numbers that it uses

unfoldable pub request_numbered : ℕ → ℕ → ℕ → ℕ → ℕ → ExamRequest
request_numbered operation item value u v =
    cond (eqb operation 1) (Changes Begin)
    (cond (eqb operation 2) (Changes (Enter item value))
    (cond (eqb operation 3) (Changes (Withdraw item))
    (cond (eqb operation 4) (ReadsMesh (ReadNode item))
    (cond (eqb operation 5) (ReadsMesh (ReadQuad item))
    (cond (eqb operation 6) (ReadsMesh (ReadLoop item))
    (cond (eqb operation 7) (ReadsResults (ReadThreshold item))
    (cond (eqb operation 8) (ReadsResults ReadFigures)
    (cond (eqb operation 9) (ReadsResults (ReadEstimate item u v)) Unknown))))))))

-- the reply, unless it is refused
unfoldable pub reply_or : ℕ → ExamReply → Result ExamReply ℕ
reply_or refusal reply = answer_by Err (Ok reply) refusal

-- the reply with what was found, unless that is refused
abbrev pub reply_with : (ℕ → ExamReply) → Result ℕ ℕ → Result ExamReply ℕ
reply_with reply (Ok found) = Ok (reply found)
reply_with reply (Err refusal) = Err refusal

-- ---- what is read of the mesh: no results are among the arguments

-- 15 only where the node isn't in the mesh
unfoldable pub node_reply : ℕ → List Float → List Float → List ℕ → ℕ → Result ExamReply ℕ
node_reply n xs ys origins id = cond (leb n id) (Err 15) (Ok (Node (node_in xs ys id) (get_or origins id 0)))

-- 18 only where the quad isn't in the mesh
unfoldable pub quad_reply : ℕ → List ℕ → ℕ → Result ExamReply ℕ
quad_reply count quads k = cond (leb (quad_count_of count quads) k) (Err 18) (Ok (Quad (quad_in quads k)))

-- a reply and the reply list as it is left
pub record Seen : Type 0 where
  pub reply : Result ExamReply ℕ
  pub list : List ℕ

abbrev pub seen : Result ExamReply ℕ → List ℕ → Seen
seen reply list = record { reply = reply; list = list }

unfoldable pub loop_seen : ℕ → List ℕ → List ℕ → ℕ → List ℕ → Seen
loop_seen n next prev k list =
    let r = read_loop n next prev k list in
    seen (reply_with Loop r.read) r.list

unfoldable pub mesh_seen : ExamMesh → MeshRead → List ℕ → Seen
mesh_seen m (ReadNode id) list = seen (node_reply (nodes_in m) m.xs m.ys m.origins id) list
mesh_seen m (ReadQuad k) list = seen (quad_reply m.quad_count m.quads k) list
mesh_seen m (ReadLoop k) list = loop_seen (nodes_in m) m.next m.prev k list

-- ---- what is changed and read of the results

unfoldable pub change_answer : Mesh → Results → ResultChange → Outcome
change_answer m x Begin = begin_answer x
change_answer m x (Enter id v) = enter_answer m x id v
change_answer m x (Withdraw id) = withdraw_answer m x id

-- 15 as for an entry, then 17 where none stands
unfoldable pub threshold_reply : ℕ → List ℕ → ℕ → Result ExamReply ℕ
threshold_reply n t id = reply_or (refusal_at n t id (threshold_at t id) 17) (Threshold (threshold_at t id))

unfoldable pub estimate_reply : Mesh → List ℕ → ℕ → ℕ → ℕ → Result ExamReply ℕ
estimate_reply m t k u v = reply_with Estimate (estimate_answer m t k u v)

unfoldable pub result_reply : Mesh → Results → ResultRead → Result ExamReply ℕ
result_reply m x (ReadThreshold id) = threshold_reply m.nodes x.thresholds id
result_reply m x ReadFigures = Ok (Figures x.count x.sum)
result_reply m x (ReadEstimate k u v) = estimate_reply m x.thresholds k u v

-- ---- the exam

-- a reply, the reply list and the results as they are left
pub record Acted : Type 0 where
  pub reply : Result ExamReply ℕ
  pub list : List ℕ
  pub left : Results

abbrev pub acted : Result ExamReply ℕ → List ℕ → Results → Acted
acted reply list left = record { reply = reply; list = list; left = left }

-- what a request does where the role may ask it
abbrev pub does : ExamMesh → Results → ExamRequest → List ℕ → Acted
does m x (Changes c) list = acted (reply_or (change_answer (mesh_in m) x c).refusal Done) list (change_answer (mesh_in m) x c).results
does m x (ReadsMesh r) list = acted (mesh_seen m r list).reply (mesh_seen m r list).list x
does m x (ReadsResults r) list = acted (result_reply (mesh_in m) x r) list x
does m x Unknown list = acted (Err 20) list x

-- 20 before all other checks
unfoldable pub exam_acts : ExamMesh → Results → ℕ → ExamRequest → List ℕ → Acted
exam_acts m x role q list = cond (may role q) (does m x q list) (acted (Err 20) list x)

-- ---- the answer as it crosses

abbrev pub flat : ℕ → Float → Float → ℕ → ℕ → ℕ → ℕ → ℕ → ℕ → ℕ → ℕ → ℕ → ℕ → ExamAnswer
flat refusal x y a b d c length threshold count sum estimate origin =
    record {
      refusal = refusal;
      x = x;
      y = y;
      a = a;
      b = b;
      d = d;
      c = c;
      length = length;
      threshold = threshold;
      count = count;
      sum = sum;
      estimate = estimate;
      origin = origin;
    }

unfoldable pub exam_numbers : Result ExamReply ℕ → ExamAnswer
exam_numbers (Err number) = flat number zero_f zero_f 0 0 0 0 0 0 0 0 0 0
exam_numbers (Ok Done) = flat 0 zero_f zero_f 0 0 0 0 0 0 0 0 0 0
exam_numbers (Ok (Node p origin)) = flat 0 p.x p.y 0 0 0 0 0 0 0 0 0 origin
exam_numbers (Ok (Quad q)) = flat 0 zero_f zero_f q.a q.b q.d q.c 0 0 0 0 0 0
exam_numbers (Ok (Loop length)) = flat 0 zero_f zero_f 0 0 0 0 length 0 0 0 0 0
exam_numbers (Ok (Threshold t)) = flat 0 zero_f zero_f 0 0 0 0 0 t 0 0 0 0
exam_numbers (Ok (Figures count sum)) = flat 0 zero_f zero_f 0 0 0 0 0 0 count sum 0 0
exam_numbers (Ok (Estimate e)) = flat 0 zero_f zero_f 0 0 0 0 0 0 0 0 e 0

-- the numbers answered, the reply list and the results as they are left
pub record ExamExit : Type 0 where
  pub numbers : ExamAnswer
  pub list : List ℕ
  pub left : Results

abbrev pub exam_exit : ExamAnswer → List ℕ → Results → ExamExit
exam_exit numbers list left = record { numbers = numbers; list = list; left = left }

-- THE DEFINITION of an exam's answer
unfoldable pub exam_answer : ExamMesh → Results → ℕ → ExamRequest → List ℕ → ExamExit
exam_answer m x role q list = let a = exam_acts m x role q list in exam_exit (exam_numbers a.reply) a.list a.left

-- ---- the masked reader

-- the numbers answered and the reply list as it is left
pub record MaskedExit : Type 0 where
  pub numbers : ExamAnswer
  pub list : List ℕ

abbrev pub masked_exit : ExamAnswer → List ℕ → MaskedExit
masked_exit numbers list = record { numbers = numbers; list = list }

-- what it gets, made of the mesh, its request and its reply list alone
unfoldable pub masked_answer : ExamMesh → ExamRequest → List ℕ → MaskedExit
masked_answer m (ReadsMesh r) list = masked_exit (exam_numbers (mesh_seen m r list).reply) (mesh_seen m r list).list
masked_answer m (Changes c) list = masked_exit (exam_numbers (Err 20)) list
masked_answer m (ReadsResults r) list = masked_exit (exam_numbers (Err 20)) list
masked_answer m Unknown list = masked_exit (exam_numbers (Err 20)) list
