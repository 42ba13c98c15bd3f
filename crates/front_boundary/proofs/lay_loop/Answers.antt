-- `front_boundary::lay_loop` meets its contract: each call equals its part of `lay_loop`.
use Rattle.std.proofs.Common.{◌∙◌, ap}
use Rattle.front.specs.Sampling.{ring_in}
use Rattle.front.specs.State.{State}
use Rattle.front_boundary.proofs.LoopWritten.{sampled_from, ring_sampled, midpoint_room, can_link, loop_written}
use Rattle.front_boundary.proofs.lay_loop.Goals as goal

pub ring_of-ring-requires : goal.ring_of-ring-requires
ring_of-ring-requires c =
    rw (ap (λ (s : State). s.counts.nodes) c.mesh.ensures) (sampled_from c.requires c.sample_loop.ensures)

pub split_longest-requires-clause-nodes_from : goal.split_longest-requires-clause-nodes_from
split_longest-requires-clause-nodes_from c =
    ring_sampled c.requires c.sample_loop.ensures c.args.k (c.ring_of-ring.ensures ∙ ap (ring_in _ _) c.mesh.ensures)

pub split_longest-requires-clause-node_room : goal.split_longest-requires-clause-node_room
split_longest-requires-clause-node_room c =
    midpoint_room c.requires c.sample_loop.ensures c.args.k (c.ring_of-ring.ensures ∙ ap (ring_in _ _) c.mesh.ensures)

pub link_ring-requires : goal.link_ring-requires
link_ring-requires c =
    can_link c.requires c.sample_loop.ensures c.args.k (c.ring_of-ring.ensures ∙ ap (ring_in _ _) c.mesh.ensures) c.split_longest.ensures

pub returns : goal.returns
returns c =
    loop_written c.requires c.sample_loop.ensures c.args.k (c.ring_of-ring.ensures ∙ ap (ring_in _ _) c.mesh.ensures) c.split_longest.ensures c.link_ring.ensures
