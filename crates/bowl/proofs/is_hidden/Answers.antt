-- `bowl::is_hidden` meets its contract.
use Rattle.std.proofs.Common.{◌+◌, ◌*◌, arith}
use Rattle.front_lent_mesh.specs.Mesh.{quad_in}
use Rattle.bowl.proofs.is_hidden.Goals as goal

pub is_shown-requires : goal.is_shown-requires
unfolding quad_in
is_shown-requires c =
    let k = c.args.k in
    let nodes = c.requires.0.nodes in
    rw c.quad_at.ensures
    (record { a = nodes (4 * k) (omega arith); b = nodes (4 * k + 1) (omega arith); d = nodes (4 * k + 2) (omega arith); c = nodes (4 * k + 3) (omega arith) })
