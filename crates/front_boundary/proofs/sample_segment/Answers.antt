-- `front_boundary::sample_segment` meets its contract: after k turns the nodes of `cut_turn` are written.
use Rattle.std.specs.Prelude.{◌≡◌, ◌+◌}
use Rattle.std.proofs.Common.{ap, le_antisymm, arith}
use Rattle.front.specs.declared.Counts.{Counts}
use Rattle.front.specs.Sampling.{sample_segment, cut_turn}
use Rattle.front_boundary.proofs.Written.{node_written, room_left, nodes_start, nodes_turn}
use Rattle.front_boundary.proofs.sample_segment.Goals as goal

pub loop-k-init : goal.loop-k-init
loop-k-init c = (omega arith, nodes_start _ _)

pub push_node-requires-clause-few : goal.push_node-requires-clause-few
push_node-requires-clause-few c =
    omega (arith, c.requires.few, c.loop-k-test.true, ap (λ (k : Counts). k.nodes) c.loop-k.invariant.1.more.counts)

pub push_node-requires-clause-places : goal.push_node-requires-clause-places
push_node-requires-clause-places c =
    let more = c.loop-k.invariant.1.more in
    let room = room_left (c.loop-k.paving.counts.nodes + 1) c.requires (omega (arith, c.loop-k-test.true, ap (λ (k : Counts). k.nodes) more.counts)) more.places in
    (omega (arith, room.in_xs), omega (arith, room.in_ys), omega (arith, room.in_next), omega (arith, room.in_prev))

pub loop-k-preserved : goal.loop-k-preserved
loop-k-preserved c =
    (omega (arith, c.loop-k-test.true), nodes_turn (cut_turn _ _ _) c.loop-k.invariant.1 (rw c.cut.ensures at (node_written _ c.push_node.ensures.same c.push_node.ensures.pushed)))

pub returns : goal.returns
unfolding sample_segment
returns c =
    let all : c.loop-k.k ≡ c.args.parts = le_antisymm c.loop-k.invariant.0 c.loop-k-test.false in
    rw all at c.loop-k.invariant.1
