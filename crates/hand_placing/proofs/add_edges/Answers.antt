-- `hand_placing::add_edges` meets its contract.
use Rattle.hand_placing.proofs.PlaceLaws.{first_pair}
use Rattle.hand_placing.proofs.Next.{second_two}
use Rattle.hand_placing.proofs.add_edges.Goals as goal

pub add_two-requires : goal.add_two-requires
add_two-requires c =
    let v = c.args in
    first_pair v.paving.now.edges.now v.paving.now.counts.edges v.q.a v.q.b v.q.id_d v.q.id_c c.requires

pub add_two-requires-2 : goal.add_two-requires-2
add_two-requires-2 c =
    let v = c.args in
    second_two v.paving.now c.add_two.new.paving v.q.a v.q.b v.q.id_d v.q.id_c c.add_two.ensures.added c.requires
