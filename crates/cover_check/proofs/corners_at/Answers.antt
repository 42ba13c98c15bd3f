-- `cover_check::corners_at` meets its contract.
use Rattle.std.proofs.Common.{refl}
use Rattle.front.specs.State.{quad_at}
use Rattle.front_lent_mesh.specs.Mesh.{quad_in}
use Rattle.cover_check.proofs.corners_at.Goals as goal

pub returns : goal.returns
unfolding quad_at quad_in
returns c = rw (c.node.ensures, c.node-2.ensures, c.node-3.ensures, c.node-4.ensures, c.quad_at-q.ensures) refl
