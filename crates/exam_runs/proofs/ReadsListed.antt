-- READS LISTED: of a mesh that a run answered, loop k of an exam is the k-th that `front_loops` lists; past those, it is empty.
use mathlib.Core.List.{List, []}
use Rattle.std.specs.Prelude.{◌≡◌, refl, ℕ, zero, suc, ◌≤◌, Ok, Err, IsOk, IfOk}
use Rattle.std.proofs.Common.{sym, ◌∙◌, true≢false, arith}
use Rattle.std.proofs.Math.Path.{ap, subst}
use Rattle.std.proofs.Math.ListN.{length}
use Rattle.outline.specs.declared.Settings.{Settings}
use Rattle.outline.specs.Outline.{Outline}
use Rattle.outline.specs.Queries.{answer_by}
use Rattle.outline.specs.Accepted.{first_zero}
use Rattle.field_direction.specs.Record.{FieldLists}
use Rattle.field_cross.specs.Field.{field_refusal, field_of}
use Rattle.front.specs.State.{State, node_places}
use Rattle.front.specs.Sampling.{sampled_count, from_boundary, boundary_loops}
use Rattle.paving.specs.Loops.{front_loops}
use Rattle.paving.specs.ReachLaws.{advance_reaches}
use Rattle.run_whole.specs.Run.{run_refusal, run_of}
use Rattle.front_sampled.proofs.Outlines.{outline_three}
use Rattle.front_sampled.proofs.Begun.{begun}
use Rattle.books_hold.proofs.StagesBase.{Standing, standing}
use Rattle.run.specs.declared.Paved.{Paved}
use Rattle.run.specs.Run.{Lent, narrowed, field_part, state_part, Ran, ran, answered_state, refusal_of, accepted_in, accepted_run, run_answer}
use Rattle.front_lent_mesh.specs.Mesh.{node_count_of}
use Rattle.exam.specs.Exam.{nodes_lent}
use Rattle.exam_loops.specs.Loops.{linked_loops, loop_numbered, read_into, read_loop}
use Rattle.exam_loops.proofs.WalksBase.{numbered_past}
use Rattle.exam_loops.proofs.Listed.{sound_listed}

module _ (o : Outline) (set : Settings) (f : FieldLists) (lent : State) (none : run_refusal o set f lent ≡ 0) where
  -- the state that a run leaves where no refusal stops it
  abbrev state : State
  state = (run_of o set f lent).paving.state

  run_standing : Standing (sampled_count o set.size) (from_boundary o set.size lent) (boundary_loops o set.size lent) (run_of o set f lent).paving.state
  unfolding run_of run_refusal field_refusal
  run_standing =
      let both = first_zero _ _ none in
      let begins = begun o set.size lent (outline_three o (first_zero _ _ both.0).0) both.1 in
      standing begins.sound (advance_reaches o set.size (from_boundary o set.size lent) (field_of o set.size set.sweeps f) set.passes).by

  run_listed : linked_loops state.counts.nodes state.next state.prev ≡ front_loops state
  run_listed = sound_listed (sampled_count o set.size) state run_standing.loops run_standing.sound

  run_nodes : (state.counts.nodes ≤ length state.xs) × (state.counts.nodes ≤ length state.ys)
  unfolding node_places
  run_nodes = let fits = run_standing.sound.nodes_fit in (omega (arith, fits), omega (arith, fits))

-- a run that is answered is refused by none
none_refused : (o : Outline) (set : Settings) (l : Lent) → IsOk (run_answer o set l).answer → refusal_of o set l ≡ 0
unfolding run_answer
none_refused o set l = by (refusal_of o set l)
  where
    by : (n : ℕ) → IsOk (answer_by (λ number. ran (Err number) l) (accepted_run o set l) n).answer → n ≡ 0
    by zero z = refl
    by (suc n) z = absurd (true≢false (sym z))

-- ---- `r` is answered and `after` left in the lists, as the contract of the run has them

module _ (o : Outline) (set : Settings) (l : Lent) (r : Paved) (after : Lent) (e : ran (Ok r) after ≡ run_answer o set l) where
  none : refusal_of o set l ≡ 0
  none = none_refused o set l (subst (λ (w : Ran). IsOk w.answer) e refl)

  same : ran (Ok r) after ≡ accepted_run o set l
  unfolding run_answer
  same = rw none at e

  unstopped : run_refusal o set (field_part l) (state_part (narrowed l)) ≡ 0
  unfolding refusal_of
  unstopped = (first_zero _ _ none).0

  -- what is read are the loops listed
  loops_read : linked_loops r.counts.nodes after.next after.prev ≡ front_loops (answered_state r after)
  unfolding accepted_run accepted_in front_loops
  loops_read =
      subst (λ (w : Ran). IfOk w.answer (λ p. linked_loops p.counts.nodes w.lists.next w.lists.prev ≡ front_loops (answered_state p w.lists))) (sym same)
      (run_listed o set (field_part l) (state_part (narrowed l)) unstopped)

  nodes_fit : (r.counts.nodes ≤ length after.xs) × (r.counts.nodes ≤ length after.ys)
  unfolding accepted_run accepted_in
  nodes_fit =
      subst (λ (w : Ran). IfOk w.answer (λ p. (p.counts.nodes ≤ length w.lists.xs) × (p.counts.nodes ≤ length w.lists.ys))) (sym same)
      (run_nodes o set (field_part l) (state_part (narrowed l)) unstopped)

  -- every node is read, where each has its origin lent
  nodes_read : (origins : List ℕ) → r.counts.nodes ≤ length origins → nodes_lent r.counts.nodes after.xs after.ys origins ≡ r.counts.nodes
  unfolding nodes_lent node_count_of
  nodes_read origins long = omega (arith, long, nodes_fit.0, nodes_fit.1)

  -- READS LISTED: loop k of the exam is the k-th that `front_loops` lists
  pub reads_listed : (origins : List ℕ) → r.counts.nodes ≤ length origins → (k : ℕ) (list : List ℕ)
      → read_loop (nodes_lent r.counts.nodes after.xs after.ys origins) after.next after.prev k list
      ≡ read_into (loop_numbered (front_loops (answered_state r after)) k) list
  unfolding read_loop
  reads_listed origins long k list =
      ap (λ (n : ℕ). read_into (loop_numbered (linked_loops n after.next after.prev) k) list) (nodes_read origins long)
      ∙ ap (λ (ls : List (List ℕ)). read_into (loop_numbered ls k) list) loops_read

  -- and past those it is empty
  pub reads_past : (k : ℕ) → length (front_loops (answered_state r after)) ≤ k → loop_numbered (front_loops (answered_state r after)) k ≡ []
  reads_past k h = numbered_past (front_loops (answered_state r after)) k h
