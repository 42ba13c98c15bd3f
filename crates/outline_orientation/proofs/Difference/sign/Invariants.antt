-- `outline_orientation::Difference::sign` meets its contract: the loop's invariant is `LimbsCompared`. Assumes nothing.
use Rattle.std.proofs.Common.{length}
use Rattle.outline_orientation.specs.Limbs.{LimbsCompared, order_number}
use Rattle.outline_orientation.proofs.Difference.sign.Given as goal

abbrev pub invariant-loop-p : goal.invariant-loop-p
invariant-loop-p l = LimbsCompared l.self.plus l.self.minus (length l.yielded) (order_number l.below) l.carried_p l.carried_n
