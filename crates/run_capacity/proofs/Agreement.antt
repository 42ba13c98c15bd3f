-- What holds of the definitions of specs/Agreement.antt.
use Rattle.std.specs.Prelude.{ℕ, ◌≡◌, Float}
use Rattle.std.proofs.Common.{sym, ◌∙◌, arith, le-ltb}
use Rattle.outline.specs.declared.Settings.{Settings}
use Rattle.outline.specs.Outline.{Outline}
use Rattle.outline.specs.Accepted.{first_zero}
use Rattle.field_direction.specs.Record.{FieldLists, FieldRecord}
use Rattle.field_cross.specs.Field.{field_refusal, field_of}
use Rattle.topology.specs.Sums.{one}
use Rattle.front.specs.State.{State, node_places, edge_places}
use Rattle.front.specs.Sampling.{sampled_count, front_refusal, from_boundary}
use Rattle.front.proofs.FrameLaws.{frame_node}
use Rattle.paving.specs.Advance.{EndedPaving}
use Rattle.run_whole.specs.Run.{run_refusal, run_of}
use Rattle.books.proofs.BookBase.{frame_quad}
use Rattle.front_sampled.proofs.Outlines.{outline_three}
use Rattle.front_sampled.proofs.BegunBase.{refusal_places}
use Rattle.books_hold.proofs.StagesBase.{standing}
use Rattle.run_capacity.proofs.Alike.{next_alike}
use Rattle.run_capacity.specs.Twins.{NoFewer}
use Rattle.run_capacity.proofs.Twins.{Twins}
use Rattle.run_capacity.proofs.SideBySide.{Behind, RunsAgree}
use Rattle.run_capacity.proofs.Lockstep.{advances_agree}
use Rattle.run_capacity.proofs.SideBySide as lockstep
use Rattle.run_capacity.proofs.Starts.{starts_alike}
use Rattle.run_capacity.specs.Agreement.{BeginsWith, SameAnswer, Agreement, same, full}

-- ---- laws

same_answer : (n : ℕ) (s t : State) → Twins n s t → SameAnswer s t
same_answer n s t W =
    let A = W.alike in
    record {
      begins = record { nodes = omega (arith, A.nodes); quads = omega (arith, A.quads); points = A.points; answered = A.answered };
      nodes = A.nodes;
      quads = A.quads;
      edges = A.edges.number;
      front = W.second.edges ∙ (A.sums one ∙ sym W.first.edges);
      next = next_alike n s t W.ls W.ms W.first W.second A;
    }

begins_behind : (o : Outline) (size : Float) (field : FieldRecord) (n : ℕ) (s t : State) → Behind o size field n s t → BeginsWith s t
begins_behind o size field n s t B =
    let A = B.twins.alike in
    let F = (standing B.twins.second B.onward.by).frame in
    record {
      nodes = omega (arith, A.nodes, F.nodes);
      quads = omega (arith, A.quads, F.quads);
      points = λ id h. frame_node B.there t F id (omega (arith, A.nodes)) ∙ A.points id h;
      answered = λ k h. frame_quad B.there t F k (omega (arith, A.quads)) ∙ A.answered k h;
    }

agreement : (o : Outline) (size : Float) (field : FieldRecord) (n : ℕ) (r e : EndedPaving) → RunsAgree o size field n r e → Agreement r e
agreement o size field n r e (lockstep.same p W) = same p (same_answer n r.state e.state W)
agreement o size field n r e (lockstep.full p B) = full p (begins_behind o size field n r.state e.state B)

-- lists of no fewer places are refused no more
front_taken : (o : Outline) (size : Float) (lent more : State) → front_refusal o size lent ≡ 0 → NoFewer lent more → front_refusal o size more ≡ 0
unfolding front_refusal
front_taken o size lent more none N =
    let n = sampled_count o size in
    let P = refusal_places o size lent none in
    rw (
      le-ltb (node_places more) n (omega (arith, P.nodes, N.nodes)),
      le-ltb (edge_places more) n (omega (arith, P.edges, N.edges)),
    )

-- ---- the theorem

-- Take a run that is not refused, and a second of the same outline, settings and field in lists `more` of no fewer places. Then the second answers
-- the same nodes and quads in the same order, with the same front and the same end; or the first ended full, and the nodes and quads that it
-- answers are the first ones of the second.
pub runs_agree : (o : Outline) (set : Settings) (f : FieldLists) (lent more : State) → run_refusal o set f lent ≡ 0 → NoFewer lent more
    → Agreement (run_of o set f lent).paving (run_of o set f more).paving
unfolding run_of run_refusal field_refusal
runs_agree o set f lent more none N =
    let size = set.size in
    let both = first_zero _ _ none in
    let outline = (first_zero _ _ both.0).0 in
    let W = starts_alike o size lent more (outline_three o outline) both.1 (front_taken o size lent more both.1 N) N in
    let field = field_of o size set.sweeps f in
    agreement o size field (sampled_count o size) _ _
    (advances_agree o size field (sampled_count o size) set.passes (from_boundary o size lent) (from_boundary o size more) W)
