-- `front_boundary::MeshRing::area_term` meets its contract: the ids are nodes.
use Rattle.std.proofs.Common.{arith}
use Rattle.front_boundary.proofs.MeshRing.area_term.Goals as goal

pub overflow_add-base : goal.overflow_add-base
overflow_add-base c = omega (arith, c.args.self.now.sampled.few, c.requires)

pub overflow_add-base-2 : goal.overflow_add-base-2
overflow_add-base-2 c = omega (arith, c.args.self.now.sampled.few, c.after-after.ensures.1)
