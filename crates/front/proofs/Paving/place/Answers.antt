-- `place` meets its contract. There is no room, and nothing was written; or there is (`Fitting`), and what was stored is the state that `place` leaves.
use Rattle.std.proofs.Common.{sym, ◌∙◌, arith}
use Rattle.front.specs.State.{node_places, quad_places, edge_places}
use Rattle.front.proofs.Quads.{quad_full, quad_fits, quad_stored}
use Rattle.front.proofs.Paving.place.Goals as goal

pub new-q-requires : goal.new-q-requires
unfolding node_places
new-q-requires c = omega (arith, c.requires.0.sound.nodes_fit)

pub lacks_places-requires : goal.lacks_places-requires
unfolding quad_places edge_places
lacks_places-requires c =
    let S = c.requires.0.sound in
    (omega (arith, S.quads_fit), omega (arith, S.edges_fit, c.new_edges-w.ensures))

pub returns-then-lacks_places-clause-placed : goal.returns-then-lacks_places-clause-placed
returns-then-lacks_places-clause-placed c =
    quad_full _ _ _ _ _ c.requires.0 _ _ _ c.added-more.ensures.0 c.requires.1 c.new_edges-w.ensures.0
    (sym c.lacks_places.ensures ∙ c.if-lacks_places.true)

pub put_corners-requires : goal.put_corners-requires
put_corners-requires c =
    let F = quad_fits _ _ _ _ _ c.requires.0 _ _ _ c.added-more.ensures.0 c.requires.1 c.new_edges-w.ensures.0
    (sym c.lacks_places.ensures ∙ c.if-lacks_places.false) in
    F.corners

pub put_edges-requires : goal.put_edges-requires
put_edges-requires c =
    let F = quad_fits _ _ _ _ _ c.requires.0 _ _ _ c.added-more.ensures.0 c.requires.1 c.new_edges-w.ensures.0
    (sym c.lacks_places.ensures ∙ c.if-lacks_places.false) in
    rw c.new-q.ensures F.edges

pub put_quad-requires : goal.put_quad-requires
put_quad-requires c =
    let F = quad_fits _ _ _ _ _ c.requires.0 _ _ _ c.added-more.ensures.0 c.requires.1 c.new_edges-w.ensures.0
    (sym c.lacks_places.ensures ∙ c.if-lacks_places.false) in
    F.quads

pub move_front-requires : goal.move_front-requires
move_front-requires c =
    let F = quad_fits _ _ _ _ _ c.requires.0 _ _ _ c.added-more.ensures.0 c.requires.1 c.new_edges-w.ensures.0
    (sym c.lacks_places.ensures ∙ c.if-lacks_places.false) in
    rw c.new-q.ensures F.ids

pub with_quad-self-requires : goal.with_quad-self-requires
unfolding quad_places edge_places node_places
with_quad-self-requires c =
    let F = quad_fits _ _ _ _ _ c.requires.0 _ _ _ c.added-more.ensures.0 c.requires.1 c.new_edges-w.ensures.0
    (sym c.lacks_places.ensures ∙ c.if-lacks_places.false) in
    let S = c.requires.0.sound in
    record {
      nodes = F.corners.0;
      quads = omega (arith, S.quads_fit);
      edges = omega (arith, S.edges_fit, c.new_edges-w.ensures);
      front = F.counts;
      fronts = omega (arith, S.counts, F.corners);
    }

pub returns-clause-placed : goal.returns-clause-placed
returns-clause-placed c =
    quad_stored _ _ _ _ _ c.requires.0 _ _ _ c.added-more.ensures.0 c.requires.1 c.new_edges-w.ensures.0
    (sym c.lacks_places.ensures ∙ c.if-lacks_places.false) _ c.new-q.ensures c.put_corners.ensures c.put_edges.ensures c.put_quad.ensures c.move_front.ensures
    c.with_quad-self.ensures
