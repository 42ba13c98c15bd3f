-- `outline_orientation::add_product` meets its contract: `grown_product`. Assumes nothing.
use native.Mathlib.Omega.{arith}
use Rattle.outline_orientation.specs.Sums.{grown_product}
use Rattle.outline_orientation.proofs.add_product.Goals as goal

pub add_row-requires : goal.add_row-requires
add_row-requires c = let p = c.requires in (omega (arith, p.0, p.1.near, p.2.near), p.1.low, p.2, λ i. omega (arith, p.3 i))

pub add_row-requires-2 : goal.add_row-requires-2
add_row-requires-2 c = let p = c.requires in
    let g = c.add_row.ensures in
    (omega (arith, p.0, p.1.near, p.2.near, g.long), p.1.mid, p.2, λ i. omega (arith, g.small _ p.3 i))

pub add_row-requires-3 : goal.add_row-requires-3
add_row-requires-3 c = let p = c.requires in
    let g = c.add_row.ensures in
    let h = c.add_row-2.ensures in
    (omega (arith, p.0, p.1.near, p.2.near, g.long, h.long), p.1.high, p.2, λ i. omega (arith, h.small _ (g.small _ p.3) i))

pub returns : goal.returns
returns c = grown_product c.args.x c.args.y c.add_row.ensures c.add_row-2.ensures c.add_row-3.ensures
