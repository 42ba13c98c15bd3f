-- `loops_of` meets its contract.
use Rattle.std.proofs.Common.{arith, refl}
use Rattle.outline_loops.proofs.loops_of.Goals as goal

pub invariant_of-result : goal.invariant_of-result
invariant_of-result c = record { ahead = record { shape = c.requires; within = omega arith; at = refl; few = omega (arith, c.ranges.domain.1) } }
