-- `numbers::floor_of_small` meets its contract. Assumes nothing.
use Rattle.std.proofs.Common.{◌≡◌, ℤ, pos, ◌-ℤ◌, T, sym, subst, ap, ◌∙◌, w64}
use mir.Val.{to_z}
use mir.ValLaws.{to_z_pos, to_z-of_z}
use Rattle.numbers.specs.Whole.{floor_int}
use Rattle.numbers.proofs.SmallFloor.{LowBits, small_floor, floor_fits}
use Rattle.numbers.proofs.floor_of_small.Goals as goal
use Rattle.numbers.proofs.floor_of_small.Goals.{Joined-q-sum, then-q-sum, else-q-sum}

low : (c : Joined-q-sum) → LowBits c.args.q c.if-q-sum.bits
low c =
    let h = small_floor c.args.q c.requires.0 c.requires.1 in
    elim c.if-q-sum.branch [
      | then-q-sum w ↦ subst (LowBits c.args.q) (sym w.bits-is) (h.over w.if-q-sum.true)
      | else-q-sum w ↦ subst (LowBits c.args.q) (sym w.bits-is) (h.not_over w.if-q-sum.false)
    ]

signed : (c : Joined-q-sum) → to_z w64 c.if-q-sum.bits -ℤ pos 0x4338_0000_0000_0000 ≡ floor_int c.args.q
signed c = ap (λ (z : ℤ). z -ℤ pos 0x4338_0000_0000_0000) (to_z_pos w64 c.if-q-sum.bits (low c).room) ∙ (low c).is

pub float_to_bits-near : goal.float_to_bits-near
float_to_bits-near c = (small_floor c.args.q c.requires.0 c.requires.1).no_nan

pub overflow_sub-bits : goal.overflow_sub-bits
overflow_sub-bits c = (small_floor c.args.q c.requires.0 c.requires.1).some

pub overflow_cast-result : goal.overflow_cast-result
overflow_cast-result c = record { sfits = (low (goal.at.overflow_cast-result c).Joined-q-sum).room }

pub overflow_sub-result : goal.overflow_sub-result
overflow_sub-result c = rw (signed (goal.at.overflow_sub-result c).Joined-q-sum) (floor_fits c.args.q (subst T (sym c.well_formed.0.1) tt))

pub returns : goal.returns
returns c =
    let s = (goal.at.returns c).Joined-q-sum in
    to_z-of_z w64 (to_z w64 c.if-q-sum.bits -ℤ pos 0x4338_0000_0000_0000) (rw (signed s) (floor_fits c.args.q (subst T (sym c.well_formed.0.1) tt))) ∙ signed s
