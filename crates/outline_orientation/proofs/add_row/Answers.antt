-- `outline_orientation::add_row` meets its contract: `grown_row`. Assumes nothing.
use Prim.Native.Nat.{◌+◌}
use native.Mathlib.Omega.{arith}
use Rattle.outline_orientation.specs.Sums.{products, grown_row}
use Rattle.outline_orientation.proofs.add_row.Goals as goal

pub overflow_mul-d : goal.overflow_mul-d
overflow_mul-d c = omega (arith, products c.args.d c.args.y c.requires.1 c.requires.2)

pub add_at-requires : goal.add_at-requires
add_at-requires c =
    (omega (arith, c.requires.0), omega (arith, c.requires.3 c.args.at, products c.args.d c.args.y c.requires.1 c.requires.2))

pub overflow_mul-d-2 : goal.overflow_mul-d-2
overflow_mul-d-2 c = omega (arith, products c.args.d c.args.y c.requires.1 c.requires.2)

pub add_at-requires-2 : goal.add_at-requires-2
add_at-requires-2 c =
    let g = c.add_at.ensures in (
      omega (arith, c.requires.0, g.long),
      omega (arith, g.small _ c.requires.3 (c.args.at + 1), products c.args.d c.args.y c.requires.1 c.requires.2),
    )

pub overflow_mul-d-3 : goal.overflow_mul-d-3
overflow_mul-d-3 c = omega (arith, products c.args.d c.args.y c.requires.1 c.requires.2)

pub add_at-requires-3 : goal.add_at-requires-3
add_at-requires-3 c =
    let g = c.add_at.ensures in
    let h = c.add_at-2.ensures in (
      omega (arith, c.requires.0, g.long, h.long),
      omega (arith, h.small _ (g.small _ c.requires.3) (c.args.at + 2), products c.args.d c.args.y c.requires.1 c.requires.2),
    )

pub returns : goal.returns
returns c =
    grown_row c.args.at c.args.d c.args.y c.requires.1 c.requires.2 c.add_at.ensures c.add_at-2.ensures c.add_at-3.ensures
