-- A significand and a power of two as three digits and a place: what `digits_of` cites. Assumes nothing.
use mathlib.Core.Path.{◌≡◌, refl, sym, ap, ap₂, ◌∙◌}
use mathlib.Core.Bool.{Bool}
use Prim.Native.Nat.{ℕ, zero, suc, ◌+◌, ◌*◌, ◌/◌, ◌%◌, ◌^◌, ◌≤◌, ◌<◌}
use native.Mathlib.Nat.{le_trans, le_of_eq, lt_of_lt_of_le, lt_of_not-le, not-le_of_lt, mul_assoc, mul-le-mul}
use native.Mathlib.Omega.{arith}
use lib.Dec.{lit<}
use lib.Pow.{pow-add, pow_mono, shl_lt, shl_exact}
use lib.Ieee.{Float}
use lib.Ieee.Exact.{HasValue}
use Rattle.numbers.specs.declared.Parts.{Parts}
use Rattle.numbers.specs.TakenApart.{IsParts}
use Rattle.exact.specs.Units.{W, Val, size_val, sign_val, size_of, Within, within_size}
use Rattle.outline_orientation.specs.Limbs.{B}
use Rattle.outline_orientation.specs.Sums.{IsDigits}

-- ---- powers of two in limbs

base : (q : ℕ) → B ^ q ≡ 2 ^ (q * 28)
base zero = refl
base (suc q) = pow_step q ∙ ap (λ (z : ℕ). z * B) (base q) ∙ sym (pow-add 2 (q * 28) 28) ∙ ap (λ (z : ℕ). 2 ^ z) (one_more q)
  where
    pow_step : (q : ℕ) → B ^ suc q ≡ B ^ q * B
    pow_step q = native.Mathlib.Nat.pow-suc B q

    one_more : (q : ℕ) → q * 28 + 28 ≡ suc q * 28
    one_more q = omega arith

power : (k : ℕ) → 2 ^ k ≡ 2 ^ (k % 28) * B ^ (k / 28)
power k = ap (λ (z : ℕ). 2 ^ z) (split k) ∙ pow-add 2 (k % 28) (k / 28 * 28) ∙ ap (λ (z : ℕ). 2 ^ (k % 28) * z) (sym (base (k / 28)))
  where
    split : (k : ℕ) → k ≡ k % 28 + k / 28 * 28
    split k = omega arith

-- ---- the two halves of the significand, moved up

abbrev pub lower : Parts → ℕ
lower p = p.significand % B * 2 ^ (p.exponent % 28) % 2 ^ 64

abbrev pub upper : Parts → ℕ
upper p = p.significand / B * 2 ^ (p.exponent % 28) % 2 ^ 64

module _ (s k : ℕ) (h : s < 2 ^ 53) where
  low_exact : s % B * 2 ^ (k % 28) % 2 ^ 64 ≡ s % B * 2 ^ (k % 28)
  low_exact = shl_exact 28 (k % 28) 64 (omega arith) (omega arith)

  high_exact : s / B * 2 ^ (k % 28) % 2 ^ 64 ≡ s / B * 2 ^ (k % 28)
  high_exact = shl_exact 25 (k % 28) 64 (omega arith) (omega arith)

  low_small : s % B * 2 ^ (k % 28) % 2 ^ 64 < 2 ^ 55
  low_small = rw low_exact (lt_of_lt_of_le (shl_lt 28 (k % 28) (omega arith)) (pow_mono {j = 55} (omega arith)))

  high_small : s / B * 2 ^ (k % 28) % 2 ^ 64 < 2 ^ 52
  high_small = rw high_exact (lt_of_lt_of_le (shl_lt 25 (k % 28) (omega arith)) (pow_mono {j = 52} (omega arith)))

  -- together they are the significand, moved up
  joined : s % B * 2 ^ (k % 28) % 2 ^ 64 + s / B * 2 ^ (k % 28) % 2 ^ 64 * B ≡ s * 2 ^ (k % 28)
  joined = ap₂ (λ (y z : ℕ). y + z * B) low_exact high_exact ∙ go (s % B) (s / B) (2 ^ (k % 28)) (omega arith)
    where
      go : (a b q : ℕ) → s ≡ a + b * B → a * q + b * q * B ≡ s * q
      go a b q e = omega (arith, ap (λ (z : ℕ). z * q) e)

-- the three digits of l + h·B
digits : (l h : ℕ) → l % B + (l / B + h) % B * B + (l / B + h) / B * (B * B) ≡ l + h * B
digits l h = omega arith

-- the sum that the code takes
pub sum_fits : (p : Parts) → p.significand < 2 ^ 53 → lower p / B + upper p < 2 ^ 64
sum_fits p h = go (lower p) (upper p) (low_small p.significand p.exponent h) (high_small p.significand p.exponent h)
  where
    go : (l u : ℕ) → l < 2 ^ 55 → u < 2 ^ 52 → l / B + u < 2 ^ 64
    go l u a b = omega arith

-- ---- a coordinate

to_val : (x : Float) (s : Bool) (a : ℕ) → HasValue x s a (2 ^ 1074) → Val x s a
unfolding W
to_val x s a v = v

-- within 1,000 the power of two is at most 1,031
too_large : 2 ^ 52 * 2 ^ 1032 ≤ 1000 * W → ⊥
unfolding W
too_large h = not-le_of_lt (lit< tt) h

module _ (x : Float) (p : Parts) (P : IsParts x p) (w : Within 1000 x) where
  size_is : size_of x ≡ p.significand * 2 ^ p.exponent
  size_is = size_val x p.negative (p.significand * 2 ^ p.exponent) (to_val x p.negative (p.significand * 2 ^ p.exponent) P.value)

  exponent_small : p.exponent < 1032
  exponent_small = lt_of_not-le (λ (h : 1032 ≤ p.exponent). too_large (le_trans (mul-le-mul (P.leading (omega arith)) (pow_mono h)) (le_trans (le_of_eq (sym size_is)) (within_size w))))

  pub digits_are : IsDigits x (record {
    d0 = lower p % B;
    d1 = (lower p / B + upper p) % B;
    d2 = (lower p / B + upper p) / B;
    place = p.exponent / 28;
    negative = p.negative;
  })
  digits_are = record {
    digital = record { low = omega arith; mid = omega arith; high = high (lower p) (upper p) (low_small p.significand p.exponent P.short) (high_small p.significand p.exponent P.short); near = near p.exponent exponent_small };
    size =
        ap (λ (z : ℕ). z * B ^ (p.exponent / 28)) (digits (lower p) (upper p) ∙ joined p.significand p.exponent P.short)
        ∙ mul_assoc p.significand (2 ^ (p.exponent % 28)) (B ^ (p.exponent / 28))
        ∙ ap (λ (z : ℕ). p.significand * z) (sym (power p.exponent))
        ∙ sym size_is;
    sign = sym (sign_val x p.negative (p.significand * 2 ^ p.exponent) (to_val x p.negative (p.significand * 2 ^ p.exponent) P.value));
  }
    where
      high : (l u : ℕ) → l < 2 ^ 55 → u < 2 ^ 52 → (l / B + u) / B < B
      high l u a b = omega arith

      near : (k : ℕ) → k < 1032 → k / 28 ≤ 36
      near k h = omega arith
