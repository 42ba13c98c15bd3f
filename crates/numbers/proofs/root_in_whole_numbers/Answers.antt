-- `numbers::root_in_whole_numbers` meets its contract: each way out is a case of `Sqrt`. Assumes nothing.
use Rattle.std.proofs.Common.{ℕ, ◌-◌, ◌≤◌, T, sym, ◌∙◌, subst, arith}
use lib.Count.{count_leading_zeros, leading_le}
use lib.Ieee.{binary64, fits, to_bits}
use Rattle.numbers.proofs.Patterns.{no_nan, no_nan_bits, plus}
use Rattle.numbers.proofs.Sqrt.{of_nan, of_zero, of_minus_zero, of_inf, of_normal, Moved, leading, of_subnormal, of_rest, quotient}
use Rattle.numbers.proofs.root_in_whole_numbers.Goals as goal
use Rattle.numbers.proofs.root_in_whole_numbers.Goals.{Else-b-eq0, Start}

-- what owning an `f64` tells: the format holds it
held : (c : Start) → T (fits binary64 c.args.x)
held c = subst T (sym c.well_formed.0.1) tt

abbrev bits : Start → ℕ
bits c = to_bits binary64 c.args.x

moved : (c : Else-b-eq0) → (11 ≤ count_leading_zeros 64 (bits c.before.before.before))
    × Moved (bits c.before.before.before) (count_leading_zeros 64 (bits c.before.before.before) - 11)
moved c = leading (bits c.before.before.before) (omega (arith, c.if-b-eq0.false)) c.if-b-lt4503599627370496.true

pub returns-then-x : goal.returns-then-x
returns-then-x c = of_nan c.args.x c.if-x.true

pub float_to_bits-b : goal.float_to_bits-b
float_to_bits-b c = no_nan c.args.x c.if-x.false

pub returns-then-b-eq0 : goal.returns-then-b-eq0
returns-then-b-eq0 c = of_zero c.args.x (held (goal.at.returns-then-b-eq0 c).Start) c.if-b-eq0.true

pub overflow_cast-sh : goal.overflow_cast-sh
overflow_cast-sh c = omega (arith, leading_le 64 (bits (goal.at.overflow_cast-sh c).Start))

pub overflow_sub-sh : goal.overflow_sub-sh
overflow_sub-sh c = (moved (goal.at.overflow_sub-sh c).Else-b-eq0).0

pub overflow_shl-b : goal.overflow_shl-b
overflow_shl-b c = omega (arith, (moved (goal.at.overflow_shl-b c).Else-b-eq0).1.few)

pub overflow_sub-sh-then-b-lt4503599627370496 : goal.overflow_sub-sh-then-b-lt4503599627370496
overflow_sub-sh-then-b-lt4503599627370496 c = omega (arith, (moved (goal.at.overflow_sub-sh-then-b-lt4503599627370496 c).Else-b-eq0).1.few)

pub root_bits-requires : goal.root_bits-requires
root_bits-requires c = rw (moved (goal.at.root_bits-requires c).Else-b-eq0).1.exact (omega (arith, (moved (goal.at.root_bits-requires c).Else-b-eq0).1.few, (moved (goal.at.root_bits-requires c).Else-b-eq0).1.reach, (moved (goal.at.root_bits-requires c).Else-b-eq0).1.under))

pub float_from_bits-result : goal.float_from_bits-result
float_from_bits-result c = no_nan_bits _ c.root_bits.ensures.finite

pub returns-then-b-lt4503599627370496 : goal.returns-then-b-lt4503599627370496
returns-then-b-lt4503599627370496 c =
    c.root_bits.ensures.is
    ∙ sym (of_subnormal c.args.x _ _ (plus c.args.x (held (goal.at.returns-then-b-lt4503599627370496 c).Start) (omega arith)) (omega (arith, c.if-b-eq0.false)) c.if-b-lt4503599627370496.true (moved (goal.at.returns-then-b-lt4503599627370496 c).Else-b-eq0).1)

pub returns-then-b-lt9218868437227405312 : goal.returns-then-b-lt9218868437227405312
returns-then-b-lt9218868437227405312 c =
    c.root_of_normal.ensures ∙ sym (of_normal c.args.x _ (plus c.args.x (held (goal.at.returns-then-b-lt9218868437227405312 c).Start) (omega arith)) c.if-b-lt4503599627370496.false c.if-b-lt9218868437227405312.true)

pub returns-then-b-eq9218868437227405312 : goal.returns-then-b-eq9218868437227405312
returns-then-b-eq9218868437227405312 c = of_inf c.args.x (held (goal.at.returns-then-b-eq9218868437227405312 c).Start) c.if-b-eq9218868437227405312.true

pub returns-then-b : goal.returns-then-b
returns-then-b c = of_minus_zero c.args.x (held (goal.at.returns-then-b c).Start) c.if-b.true

pub returns : goal.returns
returns c =
    quotient c.args.x
    (of_rest c.args.x (held (goal.at.returns c).Start) c.if-x.false c.if-b-lt9218868437227405312.false c.if-b-eq9218868437227405312.false c.if-b.false)
