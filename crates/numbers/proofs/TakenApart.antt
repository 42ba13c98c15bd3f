-- A finite double by its bits: what `parts_of` cites. Assumes nothing.
use Rattle.std.proofs.Common.{◌≡◌, ℕ, ◌+◌, ◌-◌, ◌/◌, ◌%◌, ◌^◌, ◌<◌, ◌≤◌, Bool, true, false, not, T, leb, sym, refl, ◌∙◌, subst, inl, inr, mul-one, arith, leb-false, leb-true}
use lib.Ieee.{Float, nan, inf, fin, binary64, fits, is_nan, to_bits}
use lib.Ieee.Bits.{to_bits-lt}
use lib.Ieee.Exact.{HasValue}
use Rattle.numbers.specs.Float.{is_finite}
use Rattle.numbers.specs.Whole.{size_of_bits}
use Rattle.numbers.specs.TakenApart.{IsParts}
use Rattle.numbers.proofs.Patterns.{size_low, size_high, Pattern, plus, minus_sign, finite_or_not}

finite_no_nan : (x : Float) → T (is_finite x) → is_nan x ≡ false
unfolding is_finite is_nan
finite_no_nan nan f = absurd f
finite_no_nan (inf s) f = refl
finite_no_nan (fin s m e) f = refl

-- as a need of `f64::to_bits` has it
pub finite_bits : (x : Float) → T (is_finite x) → T (not (is_nan x))
finite_bits x f = rw (finite_no_nan x f) tt

no_inf : (x : Float) (s : Bool) → T (is_finite x) → x ≡ inf s → ⊥
no_inf x s f e = at_inf (subst (λ (y : Float). T (is_finite y)) e f)
  where
    at_inf : T (is_finite (inf s)) → ⊥
    at_inf = unfold is_finite in λ t. t

-- the sign's bit and the rest
pub pattern_of : (x : Float) → T (fits binary64 x) → Pattern x (leb (2 ^ 63) (to_bits binary64 x)) (to_bits binary64 x % 2 ^ 63)
pattern_of x f = go (leb (2 ^ 63) (to_bits binary64 x)) refl
  where
    below : (b : ℕ) → b < 2 ^ 63 → b ≡ b % 2 ^ 63
    below b h = omega arith

    above : (b : ℕ) → 2 ^ 63 ≤ b → b < 2 ^ 64 → b - 2 ^ 63 ≡ b % 2 ^ 63
    above b h k = omega arith

    go : (t : Bool) → leb (2 ^ 63) (to_bits binary64 x) ≡ t → Pattern x t (to_bits binary64 x % 2 ^ 63)
    go true e =
        let h = leb-true (2 ^ 63) (to_bits binary64 x) e in
        subst (Pattern x true) (above (to_bits binary64 x) h (to_bits-lt binary64 x f)) (minus_sign x f h)
    go false e = let h = leb-false (2 ^ 63) (to_bits binary64 x) e in subst (Pattern x false) (below (to_bits binary64 x) h) (plus x f h)

pub finite_value : (x : Float) → T (fits binary64 x) → T (is_finite x)
    → HasValue x (leb (2 ^ 63) (to_bits binary64 x)) (size_of_bits (to_bits binary64 x % 2 ^ 63)) (2 ^ 1074)
finite_value x f n =
    let s = leb (2 ^ 63) (to_bits binary64 x) in
    elim (finite_or_not x s (to_bits binary64 x % 2 ^ 63) (pattern_of x f) (finite_no_nan x n)) [ inl v ↦ v | inr e ↦ absurd (no_inf x s n e) ]

pub parts_low : (x : Float) → T (fits binary64 x) → T (is_finite x) → to_bits binary64 x % 2 ^ 63 < 2 ^ 52
    → IsParts x (record { negative = leb (2 ^ 63) (to_bits binary64 x); significand = to_bits binary64 x % 2 ^ 63; exponent = 0 })
parts_low x f n h = record {
  value = subst (λ (y : ℕ). HasValue x (leb (2 ^ 63) (to_bits binary64 x)) y (2 ^ 1074)) (size_low m h ∙ sym (mul-one m)) (finite_value x f n);
  short = omega arith;
  leading = λ k. absurd (none k);
}
  where
    m : ℕ
    m = to_bits binary64 x % 2 ^ 63

    none : 0 < 0 → ⊥
    none k = omega arith

pub parts_high : (x : Float) → T (fits binary64 x) → T (is_finite x) → 2 ^ 52 ≤ to_bits binary64 x % 2 ^ 63
    → IsParts x (record {
      negative = leb (2 ^ 63) (to_bits binary64 x);
      significand = to_bits binary64 x % 2 ^ 63 % 2 ^ 52 + 2 ^ 52;
      exponent = to_bits binary64 x % 2 ^ 63 / 2 ^ 52 - 1;
    })
parts_high x f n h = record {
  value = subst (λ (y : ℕ). HasValue x (leb (2 ^ 63) (to_bits binary64 x)) y (2 ^ 1074)) (size_high (to_bits binary64 x % 2 ^ 63) h) (finite_value x f n);
  short = omega arith;
  leading = λ k. omega arith;
}
