-- `numbers::ceil_count` meets its contract. Assumes nothing.
use Rattle.std.proofs.Common.{◌≡◌, ℕ, zero, suc, T, ℤ, pos, neg_ℤ, ◌-ℤ◌, refl, sym, subst, ap, ◌∙◌, arith, w64}
use lib.IntN.{nat_abs}
use mir.Val.{to_z, of_z}
use mir.ValLaws.{to_z-of_z}
use lib.Ieee.{binary64, fits}
use Rattle.std.specs.Float.{float_to_unsigned}
use Rattle.numbers.specs.Whole.{ceil_count}
use Rattle.numbers.proofs.LibraryWhole.{ceil_library, ceil_far_above, ceil_up_to_zero}
use Rattle.numbers.proofs.SmallFloor.{small_ceil}
use Rattle.numbers.proofs.ceil_count.Goals as goal
use Rattle.numbers.proofs.ceil_count.Goals.{After-floor_of_small, Start}

-- what owning an `f64` tells: the format holds it
held : (c : Start) → T (fits binary64 c.args.x)
held c = subst T (sym c.well_formed.0.1) tt

back : (n : ℕ) → pos 0 -ℤ neg_ℤ (pos n) ≡ pos n
back zero = refl
back (suc n) = ap pos (omega arith)

-- minus the floor of -x
negated : (c : After-floor_of_small) → pos 0 -ℤ to_z w64 (of_z w64 c.floor_of_small.result) ≡ pos (ceil_count c.args.x)
negated c =
    ap (λ (z : ℤ). pos 0 -ℤ z)
    (to_z-of_z w64 c.floor_of_small.result (record { sfits = c.floor_of_small.type_inv }) ∙ c.floor_of_small.ensures ∙ (small_ceil c.args.x c.if-x.true c.if-x-2.true).is)
    ∙ back (ceil_count c.args.x)

written : (c : After-floor_of_small) → to_z w64 (of_z w64 (pos 0 -ℤ to_z w64 (of_z w64 c.floor_of_small.result))) ≡ pos (ceil_count c.args.x)
written c =
    ap (λ (z : ℤ). to_z w64 (of_z w64 z)) (negated c)
    ∙ to_z-of_z w64 (pos (ceil_count c.args.x)) (record { sfits = (small_ceil c.args.x c.if-x.true c.if-x-2.true).room })

pub floor_of_small-requires : goal.floor_of_small-requires
floor_of_small-requires c = let s = small_ceil c.args.x c.if-x.true c.if-x-2.true in (s.above, s.below)

pub overflow_sub-result : goal.overflow_sub-result
overflow_sub-result c =
    rw (negated (goal.at.overflow_sub-result c).After-floor_of_small) (record { sfits = (small_ceil c.args.x c.if-x.true c.if-x-2.true).room })

pub overflow_cast-result : goal.overflow_cast-result
overflow_cast-result c =
    rw (written (goal.at.overflow_cast-result c).After-floor_of_small) (tt, omega (arith, (small_ceil c.args.x c.if-x.true c.if-x-2.true).room))

pub returns-then-x-2 : goal.returns-then-x-2
returns-then-x-2 c = ap nat_abs (written (goal.at.returns-then-x-2 c).After-floor_of_small)

pub returns-then-x-3 : goal.returns-then-x-3
returns-then-x-3 c =
    c.saturating_f64_to_u64.ensures ∙ ceil_far_above c.args.x (held (goal.at.returns-then-x-3 c).Start) c.if-x-3.true

pub returns-then-x : goal.returns-then-x
returns-then-x c =
    c.saturating_f64_to_u64-then-x.ensures ∙ ap (float_to_unsigned w64) c.ceil.ensures
    ∙ ceil_library c.args.x (held (goal.at.returns-then-x c).Start)

pub returns : goal.returns
returns c = ceil_up_to_zero c.args.x c.if-x.false
