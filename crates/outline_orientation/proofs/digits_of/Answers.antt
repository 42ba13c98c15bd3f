-- `outline_orientation::digits_of` meets its contract: `Split`. Assumes nothing.
use native.Mathlib.Omega.{arith}
use Rattle.exact.specs.Units.{finite_val}
use Rattle.outline_orientation.proofs.Split.{sum_fits, digits_are}
use Rattle.outline_orientation.proofs.digits_of.Goals as goal

pub parts_of-p-requires : goal.parts_of-p-requires
parts_of-p-requires c = finite_val _ _ _ c.requires.val

pub overflow_add-t : goal.overflow_add-t
overflow_add-t c = omega (arith, sum_fits c.parts_of-p.result c.parts_of-p.ensures.short)

pub returns : goal.returns
returns c = digits_are c.args.x c.parts_of-p.result c.parts_of-p.ensures c.requires
