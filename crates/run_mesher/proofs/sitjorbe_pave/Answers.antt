-- `sitjorbe_pave` meets its contract: what the run promises of its answer holds of the answer's numbers. Assumes nothing.
use mathlib.Core.Path.{refl, ap, subst⁻¹}
use Rattle.std.specs.Prelude.{Result, Ok, Err}
use Rattle.std.proofs.Common.{arith}
use Rattle.outline.specs.Outline.{Outline, outline}
use Rattle.outline.specs.declared.Refusal.{Refusal}
use Rattle.outline.specs.declared.Settings.{Settings}
use Rattle.outline.specs.Refusals.{refused, numbered}
use Rattle.outline.proofs.Refused.{refusal_some}
use Rattle.run.specs.declared.Paved.{Paved}
use Rattle.run.specs.Run.{settings, Lent, lent, Scratch, scratch, Paves, Spares}
use Rattle.run.specs.Lent.{lent_in, scratch_in}
use Rattle.run_pave_answer.specs.declared.PaveAnswer.{PaveAnswer}
use Rattle.run_pave_answer.specs.Numbers.{pave_numbers}
use Rattle.run_mesher.specs.Answers.{ran_numbers, HostPaves}
use Rattle.run_mesher.proofs.sitjorbe_pave.Goals as goal

host_paves : {o : Outline} {set : Settings} {before after : Lent} (r : Result Paved Refusal) → Paves o set before (numbered r) after
    → HostPaves o set before (pave_numbers (numbered r)) after
unfolding pave_numbers
host_paves (Ok p) P =
    record { equal = ap ran_numbers P.equal; refused = λ some. absurd (some refl); books = λ _. P.books; origins = λ _. P.origins }
host_paves (Err e) P =
    record {
      equal = ap ran_numbers P.equal;
      refused = λ _. P.refused;
      books = λ none. absurd (refusal_some e none);
      origins = λ none. absurd (refusal_some e none);
    }

host_spares : {before after : Scratch} (r : Result Paved Refusal) → Spares (refused r) before after
    → Spares (pave_numbers (numbered r)).refusal before after
unfolding pave_numbers
host_spares (Ok p) k = k
host_spares (Err e) k = k

pub returns : goal.returns
returns c =
    let a = c.args in
    let run = c.pave.ensures in
    let host = subst⁻¹ (λ (v : PaveAnswer). HostPaves (outline a.outer.now a.holes.now a.hole_lengths.now) (settings a.size a.sweeps a.passes)
    (lent a.values.now a.marks.now a.xs.now a.ys.now a.next.now a.prev.now a.snapshot.now a.origins.now a.quads.now a.edges.now a.loops.now
    a.loop_lengths.now) v (lent_in c.pave.new.lists)) c.from.ensures (host_paves c.pave.result run.paves) in
    let spares = subst⁻¹ (λ (v : PaveAnswer). Spares v.refusal (scratch a.node_pool.now a.edge_pool.now a.blocks.now a.tried.now)
    (scratch_in c.pave.new.scratch c.pave.new.blocks)) c.from.ensures (host_spares c.pave.result run.spares) in
    let values = run.same_lists.values in
    let marks = run.same_lists.marks in
    let xs = run.same_lists.xs in
    let ys = run.same_lists.ys in
    let next = run.same_lists.next in
    let prev = run.same_lists.prev in
    let snapshot = run.same_lists.snapshot in
    let origins = run.same_lists.origins in
    let quads = run.same_lists.quads in
    let edges = run.same_lists.edges in
    let loops = run.same_lists.loops in
    let lengths = run.same_lists.lengths in
    let node_pool = run.same_scratch.node_pool in
    let edge_pool = run.same_scratch.edge_pool in
    let tried = run.same_scratch.tried in
    (grind arith, grind arith)
