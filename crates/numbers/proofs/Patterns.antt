-- The bit patterns of f64: the value that a pattern stands for, and the pattern of what `units` makes. Assumes nothing.
use Rattle.std.proofs.Common.{◌≡◌, ℕ, zero, suc, ◌+◌, ◌-◌, ◌*◌, ◌/◌, ◌%◌, ◌^◌, ◌<◌, ◌≤◌, Bool, true, false, cond, not, T, eqb, ltb, leb, ◌⊎◌, sym, refl, ap, ◌∙◌, subst, ap₂, inl, inr, true≢false, lt_irrefl, mod-eq_of_lt, add_comm, mul-pos, not-le_of_lt, arith, le→leb, eqb→eq, ltb→lt, lt→ltb, leb→le, nltb→le, pow_pos}
use lib.Dec.{not_T}
use lib.Arith.{le→nltb}
use lib.Count.{count_trailing_zeros, under}
use lib.Ieee.{Float, nan, inf, fin, binary64, odd, units, of_fields, of_bits, to_bits, is_nan, nan_bits, fits, lt, ne, minus}
use lib.Ieee.Bits.{is_true, is_false, cond_no, of_bits-to_bits, to_bits-lt, nan_bits_above}
use lib.Ieee.Compare.{nan_differs, differs_from_itself}
use lib.Ieee.Exact.{HasValue, odd_sign}
use Rattle.numbers.specs.RootUnits.{below_top, units_odd}
use Rattle.numbers.specs.Whole.{size_of_bits}

-- ---- NaN

pub is_nan_lem : (x : Float) → ne x x ≡ true → x ≡ nan
is_nan_lem x h = differs_from_itself x (subst T (sym h) tt)

pub not_nan : (x : Float) → ne x x ≡ false → is_nan x ≡ false
unfolding is_nan
not_nan nan h = absurd (true≢false (sym nan_differs ∙ h))
not_nan (inf s) h = refl
not_nan (fin s m e) h = refl

-- as a need of `f64::to_bits` has it
pub no_nan : (x : Float) → ne x x ≡ false → T (not (is_nan x))
no_nan x h = rw (not_nan x h) tt

-- what is above a value is no NaN
pub above_no_nan : (y x : Float) → lt y x ≡ true → T (not (is_nan x))
unfolding lt is_nan
above_no_nan nan nan h = absurd (true≢false (sym h))
above_no_nan (inf s) nan h = absurd (true≢false (sym h))
above_no_nan (fin s m e) nan h = absurd (true≢false (sym h))
above_no_nan y (inf t) h = tt
above_no_nan y (fin t n d) h = tt

-- patterns that are no NaN's
pub no_nan_bits : (b : ℕ) → b < 0x7ff0_0000_0000_0000 → T (not (nan_bits binary64 b))
no_nan_bits b h = rw (nan_bits_above binary64 b) (not_T (ltb 0x7ff0_0000_0000_0000 (b % 2 ^ 63)) (λ t. no (ltb→lt 0x7ff0_0000_0000_0000 (b % 2 ^ 63) t)))
  where
    no : 0x7ff0_0000_0000_0000 < b % 2 ^ 63 → ⊥
    no k = omega arith

-- ---- the fields of a pattern

-- the pattern of a sign and a size
abbrev bits_of : Bool → ℕ → ℕ
bits_of false m = m
bits_of true m = 2 ^ 63 + m

of_bits_is : (b : ℕ) → of_bits binary64 b ≡ of_fields binary64 (leb (2 ^ 63) b) (b % 2 ^ 63 / 2 ^ 52) (b % 2 ^ 52)
unfolding of_bits
of_bits_is b = refl

fields : (s : Bool) (m : ℕ) → m < 2 ^ 63 → of_bits binary64 (bits_of s m) ≡ of_fields binary64 s (m / 2 ^ 52) (m % 2 ^ 52)
fields false m h =
    of_bits_is m
    ∙ ap₂ (λ (s : Bool) (x : ℕ). of_fields binary64 s (x / 2 ^ 52) (m % 2 ^ 52))
    (is_false (leb (2 ^ 63) m) (not_T (leb (2 ^ 63) m) (λ (u : T (leb (2 ^ 63) m)). not-le_of_lt h (leb→le (2 ^ 63) m u)))) (mod-eq_of_lt h)
fields true m h =
    of_bits_is (2 ^ 63 + m)
    ∙ ap₂ (λ (s : Bool) (x : ℕ). of_fields binary64 s x ((2 ^ 63 + m) % 2 ^ 52))
    (is_true (leb (2 ^ 63) (2 ^ 63 + m)) (le→leb (2 ^ 63) (2 ^ 63 + m) (omega arith))) (omega arith)
    ∙ ap (λ (y : ℕ). of_fields binary64 true (m / 2 ^ 52) y) (omega arith)

normal : (s : Bool) (t x : ℕ) → suc x < 2047 → of_fields binary64 s (suc x) t ≡ odd 53 s (2 ^ 52 + t) x 1074
unfolding of_fields
normal s t x h =
    cond_no (eqb (suc x) 2047) (cond (eqb t 0) (inf s) nan) (odd 53 s (2 ^ 52 + t) x 1074)
    (not_T (eqb (suc x) 2047) (λ (u : T (eqb (suc x) 2047)). differ (eqb→eq (suc x) 2047 u)))
  where
    differ : suc x ≡ 2047 → ⊥
    differ e = omega arith

subnormal : (s : Bool) (t : ℕ) → of_fields binary64 s 0 t ≡ odd 53 s t 0 1074
unfolding of_fields
subnormal s t = refl

-- ---- its value

pub size_low : (m : ℕ) → m < 2 ^ 52 → size_of_bits m ≡ m
unfolding size_of_bits
size_low m h = rw (is_true (ltb m (2 ^ 52)) (lt→ltb m (2 ^ 52) h))

pub size_high : (m : ℕ) → 2 ^ 52 ≤ m → size_of_bits m ≡ (m % 2 ^ 52 + 2 ^ 52) * 2 ^ (m / 2 ^ 52 - 1)
unfolding size_of_bits
size_high m h = rw (is_false (ltb m (2 ^ 52)) (le→nltb m (2 ^ 52) h))

pub below_or_not : (m k : ℕ) → (m < k) ⊎ (k ≤ m)
below_or_not m k = go (ltb m k) (ltb→lt m k) (nltb→le m k)
  where
    go : (t : Bool) → (T t → m < k) → (T (not t) → k ≤ m) → (m < k) ⊎ (k ≤ m)
    go true p q = inl (p tt)
    go false p q = inr (q tt)

pub size_pos : (m : ℕ) → 0 < m → 0 < size_of_bits m
size_pos m h = go (below_or_not m (2 ^ 52))
  where
    go : (m < 2 ^ 52) ⊎ (2 ^ 52 ≤ m) → 0 < size_of_bits m
    go (inl l) = rw (size_low m l) h
    go (inr g) = rw (size_high m g) (mul-pos (omega arith) (pow_pos (m / 2 ^ 52 - 1)))

field_value : (s : Bool) (x t m : ℕ) → x < 2047 → m / 2 ^ 52 ≡ x → m % 2 ^ 52 ≡ t → HasValue (of_fields binary64 s x t) s (size_of_bits m) (2 ^ 1074)
field_value s zero t m h e f =
    rw (subnormal s t, size_low m (omega arith))
    (subst (λ (y : ℕ). HasValue (odd 53 s t 0 1074) s y (2 ^ 1074)) same (odd_sign 53 s t 0 1074))
  where
    same : t * 2 ^ 0 ≡ m
    same = omega arith
field_value s (suc x) t m h e f =
    rw (normal s t x h, size_high m (omega arith))
    (subst (λ (y : ℕ). HasValue (odd 53 s (2 ^ 52 + t) x 1074) s y (2 ^ 1074)) same (odd_sign 53 s (2 ^ 52 + t) x 1074))
  where
    one_less : (y : ℕ) → y ≡ suc x → x ≡ y - 1
    one_less y e = omega arith

    same : (2 ^ 52 + t) * 2 ^ x ≡ (m % 2 ^ 52 + 2 ^ 52) * 2 ^ (m / 2 ^ 52 - 1)
    same = ap₂ (λ (y z : ℕ). y * 2 ^ z) (add_comm (2 ^ 52) t ∙ ap (λ (y : ℕ). y + 2 ^ 52) (sym f)) (one_less (m / 2 ^ 52) e)

only_inf : (s : Bool) (t : ℕ) → T (not (is_nan (of_fields binary64 s 2047 t))) → of_fields binary64 s 2047 t ≡ inf s
unfolding of_fields is_nan
only_inf s t n = go (eqb t 0) n
  where
    go : (b : Bool) → T (not (is_nan (cond b (inf s) nan))) → cond b (inf s) nan ≡ inf s
    go true n = refl
    go false n = absurd n

-- x has the sign s, and without it the bits m
pub record Pattern (x : Float) (s : Bool) (m : ℕ) : Type 0 where
  is : x ≡ of_bits binary64 (bits_of s m)
  pub small : m < 2 ^ 63

pub plus : (x : Float) → T (fits binary64 x) → to_bits binary64 x < 2 ^ 63 → Pattern x false (to_bits binary64 x)
plus x f h = record { is = sym (of_bits-to_bits binary64 x f); small = h }

pub minus_sign : (x : Float) → T (fits binary64 x) → 2 ^ 63 ≤ to_bits binary64 x → Pattern x true (to_bits binary64 x - 2 ^ 63)
minus_sign x f h = record {
  is = sym (of_bits-to_bits binary64 x f) ∙ ap (of_bits binary64) (rejoin (to_bits binary64 x) h);
  small = omega (arith, to_bits-lt binary64 x f);
}
  where
    rejoin : (b : ℕ) → 2 ^ 63 ≤ b → b ≡ 2 ^ 63 + (b - 2 ^ 63)
    rejoin b h = omega arith

module _ (x : Float) (s : Bool) (m : ℕ) (p : Pattern x s m) where
  is_fields : x ≡ of_fields binary64 s (m / 2 ^ 52) (m % 2 ^ 52)
  is_fields = p.is ∙ fields s m p.small

  pub value : m < 0x7ff0_0000_0000_0000 → HasValue x s (size_of_bits m) (2 ^ 1074)
  value h = rw is_fields (field_value s (m / 2 ^ 52) (m % 2 ^ 52) m (omega arith) refl refl)

  pub infinite : 0x7ff0_0000_0000_0000 ≤ m → is_nan x ≡ false → x ≡ inf s
  infinite h n =
      let e : x ≡ of_fields binary64 s 2047 (m % 2 ^ 52) = is_fields ∙ ap (λ (y : ℕ). of_fields binary64 s y (m % 2 ^ 52)) (top m h p.small) in
      e ∙ only_inf s (m % 2 ^ 52) (rw e at (subst (λ (b : Bool). T (not b)) (sym n) tt))
    where
      top : (m : ℕ) → 0x7ff0_0000_0000_0000 ≤ m → m < 2 ^ 63 → m / 2 ^ 52 ≡ 2047
      top m h l = omega arith

  -- a number is finite, with its value, or infinite
  pub finite_or_not : is_nan x ≡ false → (HasValue x s (size_of_bits m) (2 ^ 1074)) ⊎ (x ≡ inf s)
  finite_or_not n = go (below_or_not m 0x7ff0_0000_0000_0000)
    where
      go : (m < 0x7ff0_0000_0000_0000) ⊎ (0x7ff0_0000_0000_0000 ≤ m) → (HasValue x s (size_of_bits m) (2 ^ 1074)) ⊎ (x ≡ inf s)
      go (inl h) = inl (value h)
      go (inr h) = inr (infinite h n)

-- ---- `units` as a pattern

-- one more digit to look at changes nothing where none is left
zeros_more : (d q : ℕ) → 0 < q → q < 2 ^ d → count_trailing_zeros (suc d) q ≡ count_trailing_zeros d q
unfolding count_trailing_zeros
zeros_more zero q h k = absurd (none k)
  where
    none : q < 1 → ⊥
    none k = omega arith
zeros_more (suc d) q h k = go (q % 2) refl (λ (e : q % 2 ≡ 0). zeros_more d (q / 2) (omega arith) (omega arith))
  where
    go : (r : ℕ) → q % 2 ≡ r → (q % 2 ≡ 0 → count_trailing_zeros (suc d) (q / 2) ≡ count_trailing_zeros d (q / 2))
        → under r (count_trailing_zeros (suc d) (q / 2)) ≡ under r (count_trailing_zeros d (q / 2))
    go zero e ih = ap suc (ih e)
    go (suc r) e ih = refl

odd_more : (q k : ℕ) → 0 < q → q < 2 ^ 53 → odd 54 false q k 1074 ≡ odd 53 false q k 1074
unfolding odd
odd_more zero k h l = absurd (lt_irrefl 0 h)
odd_more (suc q) k h l = ap (λ (t : ℕ). fin false (suc q / 2 ^ t) (minus (k + t) 1074)) (zeros_more 53 (suc q) h l)

pub units_bits : (q k : ℕ) → k < 2046 → 2 ^ 52 ≤ q → q < 2 ^ 53 → units binary64 false q k ≡ of_bits binary64 (k * 2 ^ 52 + q)
units_bits q k h a b =
    units_odd q k (below_top q k h b)
    ∙ odd_more q k (omega arith) b
    ∙ ap (λ (y : ℕ). odd 53 false y k 1074) digits
    ∙ sym (normal false (q - 2 ^ 52) k (omega arith))
    ∙ ap₂ (λ (y z : ℕ). of_fields binary64 false y z) (omega arith) (omega arith)
    ∙ sym (fields false (k * 2 ^ 52 + q) (omega arith))
  where
    digits : q ≡ 2 ^ 52 + (q - 2 ^ 52)
    digits = omega arith
