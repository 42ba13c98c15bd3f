-- That a reply is the definition's: each law takes what was called and what it ensures.
use Rattle.std.specs.Prelude.{List, ◌≡◌, ℕ, ◌≤◌, ◌<◌, Result, Ok, Err}
use borrow.Author.Tests.{le-leb, lt-leb}
use Rattle.front_lent_mesh.specs.declared.QuadIds.{QuadIds}
use Rattle.front_lent_mesh.specs.Mesh.{Mesh, quad_count_of, quad_in}
use Rattle.exam_thresholds.specs.Figures.{threshold_at, refusal_at}
use Rattle.exam_estimates.specs.Estimate.{estimate_answer}
use Rattle.exam_loops.specs.Loops.{loop_reading, read_loop}
use Rattle.exam.specs.declared.MeshRead.{MeshRead}
use Rattle.exam.specs.declared.MeshRead.TheVariants.{ReadNode, ReadQuad, ReadLoop}
use Rattle.exam.specs.declared.ExamReply.{ExamReply}
use Rattle.exam.specs.declared.ExamReply.TheVariants.{Quad, Loop, Threshold, Estimate}
use Rattle.exam.specs.Exam.{ExamMesh, nodes_in, node_reply, quad_reply, seen, loop_seen, mesh_seen, reply_or, reply_with}
use Rattle.exam.specs.Exam.{threshold_reply, estimate_reply}

-- ---- replies

module _ (count : ℕ) (quads : List ℕ) (k m : ℕ) (e : m ≡ quad_count_of count quads) where
  pub quad_missing : m ≤ k → Err 18 ≡ quad_reply count quads k
  unfolding quad_reply
  quad_missing h = rw (← e, le-leb m k h)

  pub quad_there : k < m → (q : QuadIds) → q ≡ quad_in quads k → Ok (Quad q) ≡ quad_reply count quads k
  unfolding quad_reply
  quad_there h q same = rw (← e, lt-leb m k h, same)

pub loop_same : (n : ℕ) (next prev : List ℕ) (k : ℕ) (list : List ℕ) (r : Result ℕ ℕ) (after : List ℕ) → loop_reading r after ≡ read_loop n next prev k list
    → (reply : Result ExamReply ℕ) → reply ≡ reply_with Loop r → seen reply after ≡ loop_seen n next prev k list
unfolding loop_seen
loop_same n next prev k list r after e reply same = rw (← e, ← same)

pub threshold_same : (n : ℕ) (t : List ℕ) (id v r : ℕ) → v ≡ threshold_at t id → r ≡ refusal_at n t id v 17
    → (reply : Result ExamReply ℕ) → reply ≡ reply_or r (Threshold v) → reply ≡ threshold_reply n t id
unfolding threshold_reply
threshold_same n t id v r ev e reply same = rw (← ev, ← e) same

pub estimate_answer_same : (m : Mesh) (t : List ℕ) (k u v : ℕ) (r : Result ℕ ℕ) → r ≡ estimate_answer m t k u v
    → (reply : Result ExamReply ℕ) → reply ≡ reply_with Estimate r → reply ≡ estimate_reply m t k u v
unfolding estimate_reply
estimate_answer_same m t k u v r e reply same = rw (← e) same

-- ---- what is read of the mesh

module _ (m : ExamMesh) (list : List ℕ) (read : MeshRead) where
  module _ (k : ℕ) where
    pub node_seen : read ≡ ReadNode k → (n : ℕ) → n ≡ nodes_in m → (r : Result ExamReply ℕ) → r ≡ node_reply n m.xs m.ys m.origins k
        → seen r list ≡ mesh_seen m read list
    unfolding mesh_seen
    node_seen is n e r same = rw (is, ← e, ← same)

    pub quad_seen : read ≡ ReadQuad k → (r : Result ExamReply ℕ) → r ≡ quad_reply m.quad_count m.quads k → seen r list ≡ mesh_seen m read list
    unfolding mesh_seen
    quad_seen is r same = rw (is, ← same)

    pub loop_seen_lem : read ≡ ReadLoop k → (n : ℕ) → n ≡ nodes_in m → (r : Result ExamReply ℕ) (after : List ℕ)
        → seen r after ≡ loop_seen n m.next m.prev k list → seen r after ≡ mesh_seen m read list
    unfolding mesh_seen
    loop_seen_lem is n e r after same = rw (is, ← e) same
