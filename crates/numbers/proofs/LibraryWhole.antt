-- The library's `floor` and `ceil`, cast to an integer, are `floor_int` and `ceil_count`. Assumes nothing.
use Rattle.std.proofs.Common.{◌≡◌, ℕ, zero, suc, ◌+◌, ◌-◌, ◌*◌, ◌/◌, ◌%◌, ◌^◌, ◌<◌, ◌≤◌, Bool, true, false, cond, ◌&&◌, T, zero-mul, lt_of_le_of_lt, min, pos, negsuc, neg_ℤ, refl, sym, ap, ◌∙◌, subst, true≢false, le_trans, le_of_suc-le-suc, lt_of_lt_of_le, mul-one, mul_assoc, mul-div_cancel, mul-lt-mul_of_pos_right, mod-lt, div-add-mod', div-le_self, div-one, div-lt_iff_lt-mul, le_of_eq, arith, pow_pos, pow-add, ltb→lt, ltb-false, pow_mono, leb, w64}
use lib.IntN.{ℤ}
use lib.Dec.{ltb, eqb}
use lib.Ieee.{Float, nan, inf, fin, binary64, up, down, round, to_signed, to_unsigned, fits, of_bits, neg, lt}
use lib.Ieee.Back.{round_whole}
use lib.Ieee.Exact.{HasValue, round_exact}
use lib.Ieee.Fits.{down_pos, and_l, and_r}
use Rattle.std.specs.Float.{round_with, floor, ceil, ratio_ceil, float_to_signed, float_to_unsigned}
use Rattle.numbers.specs.Whole.{ceil_div, floor_int, ceil_count}

-- ---- a whole number that a double is, or that is small, is rounded to itself

small : (s : Bool) (m : ℕ) (e : ℤ) → T (fits binary64 (fin s m e)) → m < 2 ^ 53
unfolding fits
small s zero e f = pow_pos 53
small s (suc m) e f =
    let A = eqb (suc m % 2) 1 in
    let B = ltb (suc m) (2 ^ 53) in
    let C = leb (down e) (2 ^ 1074) in
    let D = ltb (suc m * up e) (2 ^ 1024 * down e) in
    ltb→lt (suc m) (2 ^ 53) (and_r A B (and_l (A && B) C (and_l (A && B && C) D f)))

top : (s : Bool) (m k : ℕ) → T (fits binary64 (fin s m (pos k))) → m * 2 ^ k < 2 ^ 1024
unfolding fits
top s zero k f = rw zero-mul (pow_pos 1024)
top s (suc m) k f =
    let A = eqb (suc m % 2) 1 in
    let B = ltb (suc m) (2 ^ 53) in
    let C = leb 1 (2 ^ 1074) in
    let D = ltb (suc m * 2 ^ k) (2 ^ 1024 * 1) in
    lt_of_lt_of_le (ltb→lt (suc m * 2 ^ k) (2 ^ 1024 * 1) (and_r (A && B && C) D f)) (le_of_eq (mul-one (2 ^ 1024)))

kept : (s : Bool) (m : ℕ) (e : ℤ) (w : ℕ) → T (fits binary64 (fin s m e)) → w ≤ suc (m * up e / down e) → (down e ≡ 1 → w ≡ m * up e)
    → HasValue (round binary64 s w 1) s w 1
kept s m (pos k) w f l h =
    round_exact binary64 s w 1 m (k + 1074) (pow_pos 0) (small s m (pos k) f)
    (lt_of_le_of_lt (le_of_eq same) (lt_of_lt_of_le (mul-lt-mul_of_pos_right (top s m k f) (pow_pos 1074)) (le_of_eq (sym (pow-add 2 1024 1074)))))
    (ap (λ (y : ℕ). y * 2 ^ 1074) (h refl) ∙ sym same ∙ sym (mul-one (m * 2 ^ (k + 1074))))
  where
    same : m * 2 ^ (k + 1074) ≡ m * 2 ^ k * 2 ^ 1074
    same = ap (λ (y : ℕ). m * y) (pow-add 2 k 1074) ∙ sym (mul_assoc m (2 ^ k) (2 ^ 1074))
kept s m (negsuc k) w f l h = round_whole binary64 s w (few (m * 1 / 2 ^ suc k) (le_trans (div-le_self (m * 1) (2 ^ suc k)) (le_of_eq (mul-one m))) l)
  where
    below : m < 2 ^ 53
    below = small s m (negsuc k) f

    few : (q : ℕ) → q ≤ m → w ≤ suc q → w ≤ 2 ^ 53
    few q a b = omega (arith, below)

-- ---- such a value, cast

cut : (m : ℕ) (e : ℤ) (w : ℕ) → m * up e * 1 ≡ w * down e → m * up e / down e ≡ w
cut m e w h = ap (λ (y : ℕ). y / down e) (sym (mul-one (m * up e)) ∙ h) ∙ mul-div_cancel w (down_pos e)

as_signed : (y : Float) (s : Bool) (w : ℕ) → HasValue y s w 1 → to_signed 63 y ≡ cond s (neg_ℤ (pos (min w (2 ^ 63)))) (pos (min w (2 ^ 63 - 1)))
unfolding to_signed
as_signed nan s w v = absurd v
as_signed (inf t) s w v = absurd v
as_signed (fin t m e) s w v =
    ap (λ (q : ℕ). cond t (neg_ℤ (pos (min q (2 ^ 63)))) (pos (min q (2 ^ 63 - 1)))) (cut m e w v.1)
    ∙ ap (λ (b : Bool). cond b (neg_ℤ (pos (min w (2 ^ 63)))) (pos (min w (2 ^ 63 - 1)))) v.0

as_unsigned : (y : Float) (s : Bool) (w : ℕ) → HasValue y s w 1 → to_unsigned 64 y ≡ cond s 0 (min w (2 ^ 64 - 1))
unfolding to_unsigned
as_unsigned nan s w v = absurd v
as_unsigned (inf t) s w v = absurd v
as_unsigned (fin t m e) s w v = ap (λ (q : ℕ). cond t 0 (min q (2 ^ 64 - 1))) (cut m e w v.1) ∙ ap (λ (b : Bool). cond b 0 (min w (2 ^ 64 - 1))) v.0

-- ---- the fraction a / d, rounded down and up

down_le : (a d : ℕ) → a / d ≤ suc (a / d)
down_le a d = omega arith

up_le : (a d : ℕ) → 0 < d → ratio_ceil a d ≤ suc (a / d)
up_le a d D = le_of_suc-le-suc ((div-lt_iff_lt-mul D).1 (go (a / d) (a % d) (div-add-mod' a d) (mod-lt a D)))
  where
    go : (q t : ℕ) → q * d + t ≡ a → t < d → a + d - 1 < suc (suc q) * d
    go q t e h = omega arith

down_one : (a d : ℕ) → d ≡ 1 → a / d ≡ a
down_one a d e = ap (λ (y : ℕ). a / y) e ∙ div-one a

up_one : (a d : ℕ) → d ≡ 1 → ratio_ceil a d ≡ a
up_one a d e = ap (λ (y : ℕ). ratio_ceil a y) e ∙ div-one (a + 1 - 1) ∙ omega arith

up_is : (a d : ℕ) → 0 < d → ratio_ceil a d ≡ ceil_div a d
up_is a d D = ap (λ (y : ℕ). y / d) (omega (arith, D))

-- ---- the theorems

module _ (s : Bool) (m : ℕ) (e : ℤ) (f : T (fits binary64 (fin s m e))) where
  floored : HasValue (round binary64 s (m * up e / down e) 1) s (m * up e / down e) 1
  floored = kept s m e (m * up e / down e) f (down_le (m * up e) (down e)) (down_one (m * up e) (down e))

  raised : HasValue (round binary64 s (ratio_ceil (m * up e) (down e)) 1) s (ratio_ceil (m * up e) (down e)) 1
  raised = kept s m e (ratio_ceil (m * up e) (down e)) f (up_le (m * up e) (down e) (down_pos e)) (up_one (m * up e) (down e))

pub floor_library : (x : Float) → T (fits binary64 x) → float_to_signed w64 (floor binary64 x) ≡ floor_int x
unfolding round_with floor_int to_signed
floor_library nan f = refl
floor_library (inf true) f = refl
floor_library (inf false) f = refl
floor_library (fin false m e) f = as_signed _ false (m * up e / down e) (floored false m e f)
floor_library (fin true m e) f =
    as_signed _ true (ratio_ceil (m * up e) (down e)) (raised true m e f)
    ∙ ap (λ (y : ℕ). neg_ℤ (pos (min y (2 ^ 63)))) (up_is (m * up e) (down e) (down_pos e))

pub ceil_library : (x : Float) → T (fits binary64 x) → float_to_unsigned w64 (ceil binary64 x) ≡ ceil_count x
unfolding round_with ceil_count to_unsigned
ceil_library nan f = refl
ceil_library (inf true) f = refl
ceil_library (inf false) f = refl
ceil_library (fin false m e) f =
    as_unsigned _ false (ratio_ceil (m * up e) (down e)) (raised false m e f)
    ∙ ap (λ (y : ℕ). min y (2 ^ 64 - 1)) (up_is (m * up e) (down e) (down_pos e))
ceil_library (fin true m e) f = as_unsigned _ true (m * up e / down e) (floored true m e f)

-- ---- where the cast alone serves: it cuts the fraction off, which above zero is rounding down, and a size of 2^52 or more has none

no_fraction : (s : Bool) (m : ℕ) (e : ℤ) → T (fits binary64 (fin s m e)) → 2 ^ 52 * down e ≤ m * up e → m * up e / down e ≡ ceil_div (m * up e) (down e)
no_fraction s m (pos k) f h = down_one (m * 2 ^ k) 1 refl ∙ sym (up_one (m * 2 ^ k) 1 refl) ∙ up_is (m * 2 ^ k) 1 (down_pos (pos k))
no_fraction s m (negsuc k) f h = absurd (none (2 ^ suc k) (pow_mono one) h)
  where
    one : 1 ≤ suc k
    one = omega arith

    below : m < 2 ^ 53
    below = small s m (negsuc k) f

    none : (d : ℕ) → 2 ^ 1 ≤ d → 2 ^ 52 * d ≤ m * 1 → ⊥
    none d l h = omega (arith, below)

pub floor_above_zero : (x : Float) → lt (of_bits binary64 0) x ≡ true → float_to_signed w64 x ≡ floor_int x
unfolding lt of_bits floor_int to_signed
floor_above_zero nan h = absurd (true≢false (sym h))
floor_above_zero (inf true) h = absurd (true≢false (sym h))
floor_above_zero (inf false) h = refl
floor_above_zero (fin true m e) h = absurd (true≢false (sym h))
floor_above_zero (fin false m e) h = refl

pub floor_far_below : (x : Float) → T (fits binary64 x) → lt x (neg (of_bits binary64 0x4330_0000_0000_0000)) ≡ true → float_to_signed w64 x ≡ floor_int x
unfolding lt neg of_bits floor_int to_signed
floor_far_below nan f h = absurd (true≢false (sym h))
floor_far_below (inf true) f h = refl
floor_far_below (inf false) f h = absurd (true≢false (sym h))
floor_far_below (fin false m e) f h = absurd (true≢false (sym h))
floor_far_below (fin true m e) f h =
    ap (λ (y : ℕ). neg_ℤ (pos (min y (2 ^ 63)))) (no_fraction true m e f (omega (arith, ltb→lt (1 * 2 ^ 52 * down e) (m * up e * 1) (subst T (sym h) tt))))

pub ceil_far_above : (x : Float) → T (fits binary64 x) → lt (of_bits binary64 0x4330_0000_0000_0000) x ≡ true → float_to_unsigned w64 x ≡ ceil_count x
unfolding lt of_bits ceil_count to_unsigned
ceil_far_above nan f h = absurd (true≢false (sym h))
ceil_far_above (inf true) f h = absurd (true≢false (sym h))
ceil_far_above (inf false) f h = refl
ceil_far_above (fin true m e) f h = absurd (true≢false (sym h))
ceil_far_above (fin false m e) f h =
    ap (λ (y : ℕ). min y (2 ^ 64 - 1)) (no_fraction false m e f (omega (arith, ltb→lt (1 * 2 ^ 52 * down e) (m * up e * 1) (subst T (sym h) tt))))

pub ceil_up_to_zero : (x : Float) → lt (of_bits binary64 0) x ≡ false → 0 ≡ ceil_count x
unfolding lt of_bits ceil_count
ceil_up_to_zero nan h = refl
ceil_up_to_zero (inf true) h = refl
ceil_up_to_zero (inf false) h = absurd (true≢false h)
ceil_up_to_zero (fin true m e) h = refl
ceil_up_to_zero (fin false m e) h = omega (arith, none)
  where
    none : ceil_div (m * up e) (down e) < 1
    none = (div-lt_iff_lt-mul (down_pos e)).1 (omega (arith, down_pos e, ltb-false (0 * down e) (m * up e * 1) h))
