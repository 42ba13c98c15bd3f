-- `hand_mesh_check::NumberedMesh::check` meets its contract: once the counts are within the places lent, every list that is read is long enough.
use Rattle.std.proofs.Common.{sym, ◌∙◌}
use Rattle.hand_mesh_check.specs.Passed.{room}
use Rattle.hand_mesh_check.proofs.NumberedMesh.check.Goals as goal

pub ids_beyond-requires : goal.ids_beyond-requires
ids_beyond-requires c =
    let R = room _ _ _ _ _ _ _ c.args.self.now.mesh.counts _ _ _ (sym c.lacks_places.ensures ∙ c.if-lacks_places.false) in
    (R.quads_fit, R.edges_fit)

pub front_unsound-requires : goal.front_unsound-requires
front_unsound-requires c =
    let R = room _ _ _ _ _ _ _ c.args.self.now.mesh.counts _ _ _ (sym c.lacks_places.ensures ∙ c.if-lacks_places.false) in
    (R.nodes.next_fit, R.nodes.prev_fit)

pub any_node_unsound-requires : goal.any_node_unsound-requires
any_node_unsound-requires c =
    let R = room _ _ _ _ _ _ _ c.args.self.now.mesh.counts _ _ _ (sym c.lacks_places.ensures ∙ c.if-lacks_places.false) in
    (R.nodes.xs_fit, R.nodes.ys_fit)
