-- `Thresholds::estimate_at` meets its contract: what isn't refused can be estimated.
use Rattle.std.proofs.Common.{arith}
use Rattle.front_lent_mesh.specs.Mesh.{mesh_lent, quads_few}
use Rattle.exam_results.specs.EstimateLaws.{answerable}
use Rattle.exam_results.proofs.Thresholds.estimate_at.Goals as goal

pub quad-requires : goal.quad-requires
quad-requires c =
    let m = mesh_lent c.args.self.now.mesh in
    omega (arith, (answerable m _ _ _ _ c.in_ok-check_estimate.ensures).here, quads_few c.args.self.now.mesh.quad_count c.args.self.now.mesh.quads.now)

pub estimate_in-requires : goal.estimate_in-requires
estimate_in-requires c =
    let m = mesh_lent c.args.self.now.mesh in
    rw c.quad.ensures
    (answerable m _ _ _ _ c.in_ok-check_estimate.ensures).can
