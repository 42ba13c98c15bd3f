-- `numbers::root_bits` meets its contract: `Sqrt` and `RootUnits` say which bits these are. Assumes nothing.
use Rattle.std.proofs.Common.{◌+◌, ◌*◌, ◌/◌, ◌^◌, arith}
use Rattle.numbers.specs.Root.{RootBits}
use Rattle.numbers.specs.RootUnits.{Split, split_even, split_odd}
use Rattle.numbers.proofs.Sqrt.{root_bits_lem}
use Rattle.numbers.proofs.root_bits.Goals as goal
use Rattle.numbers.proofs.root_bits.Goals.{After-nearest_root-r, Joined-p-eq0, then-p-eq0, else-p-eq0}

parts : (c : Joined-p-eq0) → Split c.args.sig c.args.p c.if-p-eq0.s
parts c =
    let a = c.args in
    let h = c.requires in
    elim c.if-p-eq0.branch [
      | then-p-eq0 w ↦ rw w.s-is (split_even a.sig a.p h.0 h.1 w.if-p-eq0.true)
      | else-p-eq0 w ↦ rw w.s-is (split_odd a.sig a.p h.0 h.1 w.if-p-eq0.false)
    ]

pub nearest_root-r-requires : goal.nearest_root-r-requires
nearest_root-r-requires c = omega (arith, (parts (goal.at.nearest_root-r-requires c).Joined-p-eq0).least, (parts (goal.at.nearest_root-r-requires c).Joined-p-eq0).most)

bits : (c : After-nearest_root-r)
    → RootBits (c.args.sig * 2 ^ 52 * 2 ^ c.args.p) (c.args.p / 2 * 2 ^ 52 + c.nearest_root-r.result)
bits c =
    root_bits_lem c.args.sig c.args.p c.if-p-eq0.s c.nearest_root-r.result c.requires.2 (parts c.before) c.nearest_root-r.ensures

pub overflow_add-result : goal.overflow_add-result
overflow_add-result c = omega (arith, (bits (goal.at.overflow_add-result c).After-nearest_root-r).finite)

pub returns : goal.returns
returns c = bits (goal.at.returns c).After-nearest_root-r
