-- `hand_placing::place_quad` meets its contract: the changes make the placing.
use Rattle.hand_placing.proofs.Next.{second_corner, edges_room, quad_place, sides_room, all_placed}
use Rattle.hand_placing.proofs.place_quad.Goals as goal

pub push_corner-requires-2 : goal.push_corner-requires-2
push_corner-requires-2 c =
    let v = c.args in
    second_corner v.paving.now c.push_corner.new.paving v.a v.b v.far.c v.far.d c.requires c.push_corner.ensures.pushed

pub add_edges-requires : goal.add_edges-requires
add_edges-requires c =
    let v = c.args in
    edges_room v.paving.now c.push_corner.new.paving v.a v.b v.far.c v.far.d c.requires c.push_corner.ensures.pushed c.push_corner-2.new.paving
    c.new-q.result c.new-q.ensures c.push_corner-2.ensures.pushed

pub push_quad-requires : goal.push_quad-requires
push_quad-requires c =
    let v = c.args in
    quad_place v.paving.now c.push_corner.new.paving v.a v.b v.far.c v.far.d c.requires c.push_corner.ensures.pushed c.push_corner-2.new.paving
    c.new-q.result c.new-q.ensures c.push_corner-2.ensures.pushed c.add_edges.new.paving c.add_edges.ensures.added

pub move_front-requires : goal.move_front-requires
move_front-requires c =
    let v = c.args in
    sides_room v.paving.now c.push_corner.new.paving v.a v.b v.far.c v.far.d c.requires c.push_corner.ensures.pushed c.push_corner-2.new.paving
    c.new-q.result c.new-q.ensures c.push_corner-2.ensures.pushed c.add_edges.new.paving c.add_edges.ensures.added c.push_quad.new.paving c.push_quad.ensures.pushed

pub returns-clause-placed : goal.returns-clause-placed
returns-clause-placed c =
    let v = c.args in
    all_placed v.paving.now c.push_corner.new.paving v.a v.b v.far.c v.far.d c.requires c.push_corner.ensures.pushed c.push_corner-2.new.paving
    c.new-q.result c.new-q.ensures c.push_corner-2.ensures.pushed c.add_edges.new.paving c.add_edges.ensures.added c.push_quad.new.paving c.push_quad.ensures.pushed
    c.move_front.new.paving c.move_front.ensures.moved
