-- `outline_orientation::Difference::add_cross` meets its contract: `added_cross`. Assumes nothing.
use native.Mathlib.Omega.{arith}
use Rattle.outline_orientation.specs.Sums.{added_cross}
use Rattle.outline_orientation.proofs.Difference.add_cross.Goals as goal

pub add_signed-requires : goal.add_signed-requires
add_signed-requires c = let p = c.requires in (p.0, p.3, λ i. omega (arith, p.4 i), λ i. omega (arith, p.5 i))

pub add_signed-requires-2 : goal.add_signed-requires-2
add_signed-requires-2 c = let p = c.requires in
    let s = c.add_signed.ensures.small _ p.4 p.5 in
    (p.1, p.2, λ i. omega (arith, s.0 i), λ i. omega (arith, s.1 i))

pub returns : goal.returns
returns c = added_cross c.args.p c.args.q c.add_signed.ensures c.add_signed-2.ensures
