-- The cases of `root_in_whole_numbers`, by the value's sign and bits, and the pattern that `root_bits` puts together. Assumes nothing.
use Rattle.std.proofs.Common.{◌≡◌, ℕ, suc, ◌+◌, ◌-◌, ◌*◌, ◌/◌, ◌%◌, ◌^◌, ◌<◌, ◌≤◌, true, false, T, ◌⊎◌, sym, refl, ap, ◌∙◌, inl, inr, ⊎_elim, le_trans, le_of_eq, lt_of_lt_of_le, le_of_suc-le-suc, mul-le-mul_right, mod-eq_of_lt, mul_assoc, mul-lt-mul_of_pos_right, lt_of_not-le, not-le_of_lt, arith, pow_pos, pow_mono, pow-add}
use lib.Count.{count_leading_zeros, leading_top}
use lib.Ieee.{Float, nan, inf, binary64, of_bits, to_bits, is_nan, fits, ne, div}
use lib.Ieee.Bits.{of_bits-to_bits}
use Rattle.numbers.specs.Root.{root, root_units, NearRoot, RootBits}
use Rattle.numbers.specs.RootUnits.{root_value, root_minus, Split, rounds}
use Rattle.numbers.specs.Whole.{size_of_bits}
use Rattle.numbers.proofs.Patterns.{is_nan_lem, not_nan, size_low, size_high, size_pos, Pattern, plus, minus_sign, value, infinite, finite_or_not}
use Rattle.numbers.proofs.Patterns.{units_bits}

-- ---- the root's digits and its place, put together

pub root_bits_lem : (sig p s Q : ℕ) → p ≤ 3067 → Split sig p s → NearRoot (s * 2 ^ 52) Q → RootBits (sig * 2 ^ 52 * 2 ^ p) (p / 2 * 2 ^ 52 + Q)
root_bits_lem sig p s Q h k n =
    let r = rounds sig p s Q h k n in
    let small = r.small in
    let reach = r.reach in
    let under = r.under in
    record { is = sym (r.is ∙ units_bits Q (p / 2) small reach under); least = omega arith; finite = omega arith }

-- a guess w whose bits are the root's is the root; v are w's bits, or 0 where w is no guess
pub guessed : (n k v : ℕ) (w : Float) → T (fits binary64 w) → RootBits n k → (v ≡ to_bits binary64 w) ⊎ (v ≡ 0) → v ≡ k → w ≡ root_units n
guessed n k v w f r (inl e) h = sym (of_bits-to_bits binary64 w f) ∙ ap (of_bits binary64) (sym e ∙ h) ∙ r.is
guessed n k v w f r (inr e) h = absurd (no r.least)
  where
    no : 2 ^ 52 ≤ k → ⊥
    no l = omega arith

-- ---- a value that is its own root

pub of_nan : (x : Float) → ne x x ≡ true → x ≡ root x
of_nan x h = rw (is_nan_lem x h) (unfold root in refl)

module _ (x : Float) (f : T (fits binary64 x)) where
  is : (b : ℕ) → to_bits binary64 x ≡ b → x ≡ of_bits binary64 b
  is b e = sym (of_bits-to_bits binary64 x f) ∙ ap (of_bits binary64) e

  pub of_zero : to_bits binary64 x ≡ 0 → x ≡ root x
  of_zero e = rw (is 0 e) (unfold root of_bits in refl)

  pub of_minus_zero : to_bits binary64 x ≡ 0x8000_0000_0000_0000 → x ≡ root x
  of_minus_zero e = rw (is 0x8000_0000_0000_0000 e) (unfold root of_bits in refl)

  pub of_inf : to_bits binary64 x ≡ 0x7ff0_0000_0000_0000 → x ≡ root x
  of_inf e = rw (is 0x7ff0_0000_0000_0000 e) (unfold root of_bits in refl)

-- ---- a value above zero

root_size_lem : (x : Float) (b : ℕ) → Pattern x false b → 0 < b → b < 0x7ff0_0000_0000_0000 → root x ≡ root_units (size_of_bits b * 2 ^ 1074)
root_size_lem x b p h k = root_value x (size_of_bits b) (value x false b p k) (size_pos b h)

pub of_normal : (x : Float) (b : ℕ) → Pattern x false b → 2 ^ 52 ≤ b → b < 0x7ff0_0000_0000_0000
    → root x ≡ root_units ((b % 2 ^ 52 + 2 ^ 52) * 2 ^ 52 * 2 ^ (b / 2 ^ 52 + 1021))
of_normal x b p h k =
    root_size_lem x b p (omega arith) k
    ∙ ap (λ (y : ℕ). root_units (y * 2 ^ 1074)) (size_high b h)
    ∙ ap root_units (powers (b % 2 ^ 52 + 2 ^ 52) (b / 2 ^ 52 - 1) 1074 52 (b / 2 ^ 52 + 1021) (omega arith))
  where
    powers : (a i j k l : ℕ) → i + j ≡ k + l → a * 2 ^ i * 2 ^ j ≡ a * 2 ^ k * 2 ^ l
    powers a i j k l e =
        mul_assoc a (2 ^ i) (2 ^ j)
        ∙ ap (λ (y : ℕ). a * y) (sym (pow-add 2 i j) ∙ ap (λ (y : ℕ). 2 ^ y) e ∙ pow-add 2 k l)
        ∙ sym (mul_assoc a (2 ^ k) (2 ^ l))

-- the digits of a subnormal value, moved up by sh places, are 53
pub record Moved (b sh : ℕ) : Type 0 where
  pub few : sh ≤ 52
  pub reach : 2 ^ 52 ≤ b * 2 ^ sh
  pub under : b * 2 ^ sh < 2 ^ 53
  pub exact : b * 2 ^ sh % 2 ^ 64 ≡ b * 2 ^ sh

pub leading : (b : ℕ) → 0 < b → b < 2 ^ 52 → (11 ≤ count_leading_zeros 64 b) × Moved b (count_leading_zeros 64 b - 11)
leading b p h =
    let l = leading_top 64 b p (omega arith) in
    let J : l.0 < 52 = lt_of_not-le (λ (g : 52 ≤ l.0). not-le_of_lt h (le_trans (pow_mono g) l.2)) in
    go (count_leading_zeros 64 b) l.0 l.1 J l.2 l.3
  where
    places : (z j k : ℕ) → z + j ≡ 11 + k → j ≤ k → j + (z - 11) ≡ k
    places z j k e h = omega arith

    go : (z j : ℕ) → z + suc j ≡ 64 → j < 52 → 2 ^ j ≤ b → b < 2 ^ suc j → (11 ≤ z) × Moved b (z - 11)
    go z j e J lo hi =
        let t : 2 ^ suc j * 2 ^ (z - 11) ≡ 2 ^ 53 =
        sym (pow-add 2 (suc j) (z - 11)) ∙ ap (λ (y : ℕ). 2 ^ y) (places z (suc j) 53 (omega arith) (omega arith)) in
        let l : 2 ^ 52 ≡ 2 ^ j * 2 ^ (z - 11) = sym (ap (λ (y : ℕ). 2 ^ y) (places z j 52 (omega arith) (omega arith))) ∙ pow-add 2 j (z - 11) in
        let u : b * 2 ^ (z - 11) < 2 ^ 53 = lt_of_lt_of_le (mul-lt-mul_of_pos_right hi (pow_pos (z - 11))) (le_of_eq t) in (
          omega arith,
          record {
            few = omega arith;
            reach = le_trans (le_of_eq l) (mul-le-mul_right (2 ^ (z - 11)) lo);
            under = u;
            exact = mod-eq_of_lt (omega arith);
          },
        )

pub of_subnormal : (x : Float) (b sh : ℕ) → Pattern x false b → 0 < b → b < 2 ^ 52 → Moved b sh
    → root x ≡ root_units (b * 2 ^ sh % 2 ^ 64 * 2 ^ 52 * 2 ^ (1022 - sh))
of_subnormal x b sh p h k m =
    root_size_lem x b p h (omega arith)
    ∙ ap (λ (y : ℕ). root_units (y * 2 ^ 1074)) (size_low b k)
    ∙ ap root_units
    (ap (λ (y : ℕ). b * y) (pow-add 2 52 1022)
    ∙ sym (mul_assoc b (2 ^ 52) (2 ^ 1022))
    ∙ ap (λ (y : ℕ). b * 2 ^ 52 * 2 ^ y) (whole m.few)
    ∙ ap (λ (y : ℕ). b * 2 ^ 52 * y) (pow-add 2 sh (1022 - sh))
    ∙ regroup (2 ^ sh) (2 ^ (1022 - sh))
    ∙ ap (λ (y : ℕ). y * 2 ^ 52 * 2 ^ (1022 - sh)) (sym m.exact))
  where
    whole : sh ≤ 52 → 1022 ≡ sh + (1022 - sh)
    whole h = omega arith

    regroup : (u v : ℕ) → b * 2 ^ 52 * (u * v) ≡ b * u * 2 ^ 52 * v
    regroup u v = omega arith

-- ---- a value below zero

inf_bits : to_bits binary64 (inf false) ≡ 0x7ff0_0000_0000_0000
unfolding to_bits
inf_bits = refl

below_zero : (x : Float) (m : ℕ) → Pattern x true m → is_nan x ≡ false → 0 < m → root x ≡ nan
below_zero x m p n h = ⊎_elim (λ v. root_minus x (size_of_bits m) v (size_pos m h)) (λ e. ap root e ∙ at_inf) (finite_or_not x true m p n)
  where
    at_inf : root (inf true) ≡ nan
    at_inf = unfold root in refl

-- what is left: neither a number from 0 on nor -0
pub of_rest : (x : Float) → T (fits binary64 x) → ne x x ≡ false → 0x7ff0_0000_0000_0000 ≤ to_bits binary64 x
    → (to_bits binary64 x ≡ 0x7ff0_0000_0000_0000 → ⊥) → (to_bits binary64 x ≡ 2 ^ 63 → ⊥) → root x ≡ nan
of_rest x f n h k z = below_zero x (to_bits binary64 x - 2 ^ 63) (minus_sign x f above) (not_nan x n) (omega (arith, above))
  where
    above : 2 ^ 63 ≤ to_bits binary64 x
    above =
        le_of_suc-le-suc
        (lt_of_not-le
        (λ (g : suc (to_bits binary64 x) ≤ 2 ^ 63). k (ap (to_bits binary64) (infinite x false (to_bits binary64 x) (plus x f g) h (not_nan x n)) ∙ inf_bits)))

pub quotient : (x : Float) → root x ≡ nan → div binary64 (of_bits binary64 0) (of_bits binary64 0) ≡ root x
quotient x h = rw h (unfold div of_bits in refl)
