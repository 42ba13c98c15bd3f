-- `outline_nearest::side` meets its contract: the block's number for the side is that of a segment.
use native.Mathlib.Omega.{arith}
use Rattle.outline_nearest.proofs.side.Goals as goal

pub overflow_cast-blocks : goal.overflow_cast-blocks
overflow_cast-blocks c = let pre = c.requires in omega (arith, pre.0.sides _ pre.1, pre.0.listed)

pub reach-requires : goal.reach-requires
reach-requires c = let pre = c.requires in omega (arith, pre.0.sides _ pre.1)
