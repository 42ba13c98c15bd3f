-- `paving_passes::pass` meets its contract: the snapshot is taken, and the loop is the run over the turns of a pass.
use Rattle.std.proofs.Common.{◌∙◌, refl, arith}
use Rattle.laws.specs.Loop.{run_start, run_out}
use Rattle.outline.specs.Outline.{Outline}
use Rattle.field_direction.specs.Record.{FieldRecord}
use Rattle.front.specs.State.{State}
use Rattle.front.specs.Lent.{paving_state}
use Rattle.front.proofs.Lent.{lists_same, lists_trans}
use Rattle.paving.specs.Advance.{after_pass}
use Rattle.paving.specs.Lent.{outline_in, field_in}
use Rattle.paving.proofs.Lent.{scratch_trans}
use Rattle.paving_snapshots.proofs.StretchLaws.{after_more}
use Rattle.paving_settling.specs.Searchable.{helped_taken}
use Rattle.paving_settling.specs.Paveable.{held}
use Rattle.paving_passes.proofs.Laws.{in_begun, went_on, went_over, gone_over, pass_goes, pass_ends, pass_whole}
use Rattle.paving_passes.proofs.pass.Goals as goal
use Rattle.paving_passes.proofs.pass.Goals.{Start}

-- the outline, the field and the state as they are lent
abbrev around : Start → Outline
around s = outline_in s.args.around.now

abbrev field : Start → FieldRecord
field s = field_in s.args.around.now

abbrev lent : Start → State
lent s = paving_state s.args.paving.now s.args.snapshot.now

pub copy_links-requires : goal.copy_links-requires
copy_links-requires c =
    let P = held _ _ _ c.requires.paveable in
    rw c.next.ensures (P.next, P.snapshot, c.requires.helped.stretches)

pub loop-a-init : goal.loop-a-init
loop-a-init c =
    let s = (goal.at.loop-a-init c).Start in (
      lists_same _,
      record { node_pool = refl; edge_pool = refl; tried = refl },
      run_start _ after_pass _ _,
      helped_taken (around s) c.args.around.now.size (field s) _ _ _ _ _ _ _ _ _ c.requires.helped (rw (← c.next.ensures) c.copy_links.ensures.1)
          c.copy_links.ensures.2,
    )

pub settle_edge-requires-clause-paveable : goal.settle_edge-requires-clause-paveable
settle_edge-requires-clause-paveable c =
    let s = (goal.at.settle_edge-requires-clause-paveable c).Start in
    (in_begun (around s) c.args.around.now.size _ _ (field s) (lent s) c.requires.paveable (rw (← c.next.ensures) c.copy_links.ensures.0)
    c.loop-a.invariant.2).paveable

pub settle_edge-requires-clause-node : goal.settle_edge-requires-clause-node
settle_edge-requires-clause-node c =
    let s = (goal.at.settle_edge-requires-clause-node c).Start in
    let L = in_begun (around s) c.args.around.now.size _ _ (field s) (lent s) c.requires.paveable (rw (← c.next.ensures) c.copy_links.ensures.0)
    c.loop-a.invariant.2 in
    omega (arith, L.frame.nodes, c.loop-a-test.true)

pub settle_edge-requires-clause-helped : goal.settle_edge-requires-clause-helped
settle_edge-requires-clause-helped c = c.loop-a.invariant.3

pub returns-in_err-placed-clause-same_lists : goal.returns-in_err-placed-clause-same_lists
returns-in_err-placed-clause-same_lists c = lists_trans c.loop-a.invariant.0 c.settle_edge.ensures.same_lists

pub returns-in_err-placed-clause-same_scratch : goal.returns-in_err-placed-clause-same_scratch
returns-in_err-placed-clause-same_scratch c =
    let i = c.loop-a.invariant.1 in
    let t = c.settle_edge.ensures.same_scratch in
    record { node_pool = t.node_pool ∙ i.node_pool; edge_pool = t.edge_pool ∙ i.edge_pool; tried = t.tried ∙ i.tried }

pub returns-in_err-placed-clause-passes : goal.returns-in_err-placed-clause-passes
returns-in_err-placed-clause-passes c =
    let s = (goal.at.returns-in_err-placed-clause-passes c).Start in
    rw c.from_residual.ensures
    (pass_whole (around s) c.args.around.now.size (field s) (lent s) c.copy_links.new.snapshot _ (rw (← c.next.ensures) c.copy_links.ensures.0)
    (run_out _ after_pass _ _ c.loop-a.invariant.2 c.loop-a-test.true
    (went_over c.loop-a.some c.settle_edge.result (c.settle_edge.ensures.settles c.loop-a.some) c.in_err-placed.was)))

pub loop-a-smaller : goal.loop-a-smaller
loop-a-smaller c =
    let more = after_more c.loop-a.scratch.tried.now c.loop-a.a c.args.paving.now.counts.nodes in
    omega (arith, c.loop-a-test.true, (rw c.tried.ensures at c.node_after-a.ensures), more)

pub loop-a-preserved : goal.loop-a-preserved
loop-a-preserved c =
    let s = (goal.at.loop-a-preserved c).Start in
    let L = in_begun (around s) c.args.around.now.size _ _ (field s) (lent s) c.requires.paveable (rw (← c.next.ensures) c.copy_links.ensures.0)
    c.loop-a.invariant.2 in
    let G = gone_over c.loop-a.scratch.tried.now c.loop-a.paving.next.now _ (rw c.tried.ensures at c.node_after-a.ensures) c.loop-a-test.true L.frame.nodes
    c.loop-a.invariant.3.stretches in (
      lists_trans c.loop-a.invariant.0 c.settle_edge.ensures.same_lists,
      scratch_trans c.loop-a.invariant.1 c.settle_edge.ensures.same_scratch,
      pass_goes (around s) c.args.around.now.size (field s) _ _ c.loop-a.invariant.2 c.loop-a-test.true
          (went_on c.loop-a.some c.settle_edge.result (c.settle_edge.ensures.settles c.loop-a.some) _ c.in_ok-placed.was) G,
      c.settle_edge.ensures.helped,
    )

pub returns-clause-same_lists : goal.returns-clause-same_lists
returns-clause-same_lists c = c.loop-a.invariant.0

pub returns-clause-same_scratch : goal.returns-clause-same_scratch
returns-clause-same_scratch c =
    record { node_pool = c.loop-a.invariant.1.node_pool; edge_pool = c.loop-a.invariant.1.edge_pool; tried = c.loop-a.invariant.1.tried }

pub returns-clause-passes : goal.returns-clause-passes
returns-clause-passes c =
    let s = (goal.at.returns-clause-passes c).Start in
    pass_whole (around s) c.args.around.now.size (field s) (lent s) _ _ (rw (← c.next.ensures) c.copy_links.ensures.0)
    (pass_ends _ c.loop-a.invariant.2 c.loop-a-test.false c.pass_answer.ensures)

pub returns-clause-helped : goal.returns-clause-helped
returns-clause-helped c = c.loop-a.invariant.3
