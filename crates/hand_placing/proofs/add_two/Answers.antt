-- `hand_placing::add_two` meets its contract.
use Rattle.hand_placing.proofs.PlaceLaws.{first_edge_fits}
use Rattle.hand_placing.proofs.Next.{second_edge}
use Rattle.hand_placing.proofs.add_two.Goals as goal

pub add_edge-requires : goal.add_edge-requires
add_edge-requires c =
    let v = c.args in
    first_edge_fits v.paving.now.edges.now v.paving.now.counts.edges v.u v.v v.w c.requires

pub add_edge-requires-2 : goal.add_edge-requires-2
add_edge-requires-2 c =
    let v = c.args in
    second_edge v.paving.now c.add_edge.new.paving v.u v.v v.w c.add_edge.ensures.added c.requires
