-- The floor of a number of size below 2^50, of the value ±a / d: its sum with 3 * 2^51 is rounded to a whole number c, which the sum's bits end with.
-- What is said of A / d, the exact sum, holds for either sign. Assumes nothing.
use Rattle.std.proofs.Common.{◌≡◌, ℕ, zero, suc, ◌+◌, ◌-◌, ◌*◌, ◌/◌, ◌%◌, ◌^◌, ◌<◌, ◌≤◌, Bool, true, false, cond, not, T, ℤ, pos, negsuc, neg_ℤ, ◌-ℤ◌, min, nat_lt, ltb, ◌⊎◌, refl, sym, ap, ◌∙◌, subst, inl, inr, true≢false, le_of_eq, le_trans, lt_of_lt_of_le, lt_of_not-le, not-le_of_lt, mod-lt, div-add-mod', mul-pos, mul-one, zero-mul, mul-le-mul_right, mul-lt-mul_of_pos_right, le-div_iff_mul-le, div-lt_iff_lt-mul, arith, lit≤, lit<, pow_pos, pow_mono, pow-add, ltb→lt, lt→ltb, lt-ltb, le-ltb, ltb-true, ltb-false, eq-zero-or-pos, w64}
use Prim.Native.Nat.{compare}
use Rattle.std.proofs.Math.Nat.{eq_of_mul-eq-mul_right, div-eq_of_lt-le}
use lib.Ieee.{Float, nan, inf, fin, binary64, size, up, down, round, units, sum, add, sub, neg, lt, is_nan, to_bits, of_bits, fits}
use lib.Ieee.Back.{round_whole}
use lib.Ieee.Casts.{to_signed_in}
use lib.Ieee.Bits.{to_bits-of_bits, nan_bits_is}
use lib.Ieee.Digits.{size-lt, size-le}
use lib.Ieee.Exact.{HasValue, units_val}
use lib.Ieee.Fits.{down_pos, round_is, core, nearest-le}
use lib.Ieee.Nearest.{closest, closest_same, closest_mono, nearest-ge}
use Rattle.std.specs.Float.Order.{lt_at}
use mir.Val.{SFits}
use Rattle.std.specs.Float.{floor, two_to, minus_two_to, ◌<ᶠ◌}
use Rattle.numbers.specs.Whole.{ceil_div, floor_int, ceil_count}
use lib.Ieee.Positive.{first_pos}
use lib.Ieee.Scale.{round_same}
use Rattle.numbers.proofs.LibraryWhole.{floor_library}
use Rattle.numbers.proofs.Patterns.{units_bits, no_nan_bits, below_or_not}

-- 3 * 2^51, the number that is added
abbrev lift : ℕ
lift = 6755399441055744

-- the bits of a double from 2^52 up to 2^53, but for its digits
abbrev exponent_bits : ℕ
exponent_bits = 1074 * 2 ^ 52

-- what the number is below in size
abbrev limit : ℕ
limit = 2 ^ 50

-- ---- a fraction from 2^52 up to 2^53, rounded

module _ (A d : ℕ) (D : 0 < d) (lo : 2 ^ 52 * d ≤ A) (hi : A < (2 ^ 53 - 1) * d) where
  abbrev c : ℕ
  c = closest A d

  at_least : A / d ≤ c
  at_least = nearest-ge (A / d) (compare (A % d * 2) d)

  at_most : c ≤ suc (A / d)
  at_most = nearest-le (A / d) (compare (A % d * 2) d)

  from : 2 ^ 52 ≤ c
  from = omega (arith, at_least, (le-div_iff_mul-le D).1 lo)

  below : c < 2 ^ 53
  below = omega (arith, at_most, (div-lt_iff_lt-mul D).1 hi)

  exponent : size (A * 2 ^ 1074 / d) - 53 ≡ 1074
  exponent = ends (size (A * 2 ^ 1074 / d)) least (size-le (A * 2 ^ 1074 / d) 1127 most)
    where
      ends : (n : ℕ) → 1126 < n → n ≤ 1127 → n - 53 ≡ 1074
      ends n g l = omega arith

      scaled : (k : ℕ) → k * d * 2 ^ 1074 ≡ k * 2 ^ 1074 * d
      scaled k = omega arith

      least : 1126 < size (A * 2 ^ 1074 / d)
      least = lt_of_not-le (λ (g : size (A * 2 ^ 1074 / d) ≤ 1126). not-le_of_lt (lt_of_lt_of_le (size-lt (A * 2 ^ 1074 / d)) (pow_mono g))
          ((le-div_iff_mul-le D).1 (subst (λ (n : ℕ). n * d ≤ A * 2 ^ 1074) (sym (pow-add 2 52 1074)) (subst (λ (n : ℕ). n ≤ A * 2 ^ 1074) (scaled (2 ^ 52)) (mul-le-mul_right (2 ^ 1074) lo)))))

      most : A * 2 ^ 1074 / d < 2 ^ 1127
      most = (div-lt_iff_lt-mul D).1 (subst (λ (n : ℕ). A * 2 ^ 1074 < n * d) (sym (pow-add 2 53 1074))
          (subst (λ (n : ℕ). A * 2 ^ 1074 < n) (scaled (2 ^ 53)) (mul-lt-mul_of_pos_right (lt_of_lt_of_le hi (mul-le-mul_right d (fewer (2 ^ 53)))) (pow_pos 1074))))
        where
          fewer : (n : ℕ) → n - 1 ≤ n
          fewer n = omega arith

  rounded : round binary64 false A d ≡ units binary64 false c 1074
  rounded =
      round_is binary64 false A d ∙ ap (core binary64 false (A * 2 ^ 1074) d) exponent
      ∙ ap (λ (q : ℕ). units binary64 false q 1074) (closest_same (A * 2 ^ 1074) (d * 2 ^ 1074) A d (mul-pos D (pow_pos 1074)) D (omega arith))

  pattern : round binary64 false A d ≡ of_bits binary64 (exponent_bits + c)
  pattern = rounded ∙ units_bits c 1074 (omega arith) from below

  no_nan : T (not (is_nan (round binary64 false A d)))
  no_nan = rw (pattern, sym (nan_bits_is binary64 (exponent_bits + c))) (no_nan_bits (exponent_bits + c) (omega (arith, below)))

  its_bits : to_bits binary64 (round binary64 false A d) ≡ exponent_bits + c
  its_bits =
      ap (to_bits binary64) pattern
      ∙ to_bits-of_bits binary64 (exponent_bits + c) (omega (arith, below)) (rw (sym (nan_bits_is binary64 (exponent_bits + c))) (no_nan_bits (exponent_bits + c) (omega (arith, below))))

  value : HasValue (round binary64 false A d) false c 1
  value = scaled_down (round binary64 false A d) c (subst (λ (y : Float). HasValue y false (c * 2 ^ 1074) (2 ^ 1074)) (sym rounded) (units_val binary64 false c 1074 room))
    where
      few : 1127 ≤ 2098
      few = lit≤ tt

      room : c * 2 ^ 1074 < 2 ^ 2098
      room = lt_of_lt_of_le (mul-lt-mul_of_pos_right below (pow_pos 1074)) (le_trans (le_of_eq (sym (pow-add 2 53 1074))) (pow_mono few))

      scaled_down : (z : Float) (n : ℕ) → HasValue z false (n * 2 ^ 1074) (2 ^ 1074) → HasValue z false n 1
      scaled_down nan n v = absurd v
      scaled_down (inf s) n v = absurd v
      scaled_down (fin s m e) n v = (v.0, eq_of_mul-eq-mul_right (2 ^ 1074) (pow_pos 1074) (m * up e * 1) (n * down e) (omega (arith, v.1)))

-- ---- comparisons of floats by their values, where both have a minus sign

both_below : (x y : Float) (a c b d : ℕ) → 0 < c → 0 < d → HasValue x true a c → HasValue y true b d → lt x y ≡ nat_lt (b * c) (a * d)
unfolding lt
both_below nan y a c b d C D p q = absurd p
both_below (inf s) y a c b d C D p q = absurd p
both_below (fin s m e) nan a c b d C D p q = absurd q
both_below (fin s m e) (inf t) a c b d C D p q = absurd q
both_below (fin false m e) (fin t n g) a c b d C D p q = absurd (true≢false (sym p.0))
both_below (fin true m e) (fin false n g) a c b d C D p q = absurd (true≢false (sym q.0))
both_below (fin true m e) (fin true n g) a c b d C D p q = lt_at (fin false n g) (fin false m e) b d a c D C (refl, q.1) (refl, p.1)

-- a comparison of naturals by another
alike : (a b c d : ℕ) → (a < b → c < d) → (b ≤ a → d ≤ c) → nat_lt a b ≡ nat_lt c d
alike a b c d f g = elim (below_or_not a b) [ inl l ↦ lt-ltb a b l ∙ sym (lt-ltb c d (f l)) | inr l ↦ le-ltb a b l ∙ sym (le-ltb c d (g l)) ]

-- a number with a minus sign, and zero
below_zero : (y : Float) (m : ℕ) (e : ℤ) → HasValue y false 0 1 → lt (fin true m e) y ≡ nat_lt 0 (m * up e)
unfolding lt
below_zero nan m e q = absurd q
below_zero (inf t) m e q = absurd q
below_zero (fin true n g) m e q = absurd (true≢false q.0)
below_zero (fin false n g) m e q = same (m * up e) (down g) (n * up g) (down e) (down_pos g) q.1
  where
    same : (a d b k : ℕ) → 0 < d → b * 1 ≡ 0 * d → nat_lt 0 (a * d + b * k) ≡ nat_lt 0 a
    same a d b k D h = alike 0 (a * d + b * k) 0 a (λ l. first_pos a d (omega (arith, l, none))) (λ l. zero_of (eq-zero-or-pos a) l)
      where
        zero_is : b ≡ 0
        zero_is = omega (arith, h)

        none : b * k ≡ 0
        none = ap (λ (n : ℕ). n * k) zero_is ∙ zero-mul k

        zero_of : (a ≡ 0) ⊎ (0 < a) → a * d + b * k ≤ 0 → a ≤ 0
        zero_of (inl z) l = le_of_eq z
        zero_of (inr p) l = absurd (omega (arith, mul-pos p D))

-- ---- the sum with 3 * 2^51, and what is left where that is taken away again

abbrev pub lifted : Float → Float
lifted x = add binary64 x (of_bits binary64 0x4338_0000_0000_0000)

abbrev pub lowered : Float → Float
lowered y = sub binary64 y (of_bits binary64 0x4338_0000_0000_0000)

lift_is : of_bits binary64 0x4338_0000_0000_0000 ≡ fin false 3 (pos 51)
unfolding of_bits
lift_is = refl

lifted_plus : (m : ℕ) (e : ℤ) → lifted (fin false m e) ≡ round binary64 false (lift * down e + m * up e) (down e)
unfolding add sum
lifted_plus m e =
    ap (add binary64 (fin false m e)) lift_is
    ∙ round_same binary64 false (m * up e * 1 + lift * down e) (down e * 1) (lift * down e + m * up e) (down e) (omega (arith, down_pos e)) (down_pos e) (omega arith)

lifted_minus : (m : ℕ) (e : ℤ) → m * up e < limit * down e → lifted (fin true m e) ≡ round binary64 false (lift * down e - m * up e) (down e)
unfolding add sum
lifted_minus m e h =
    ap (add binary64 (fin true m e)) lift_is
    ∙ ap (λ (b : Bool). cond b (round binary64 false (lift * down e - m * up e * 1) (down e * 1)) (round binary64 (ltb (lift * down e) (m * up e * 1)) (m * up e * 1 - lift * down e) (down e * 1)))
    (lt-ltb (m * up e * 1) (lift * down e) (omega arith))
    ∙ round_same binary64 false (lift * down e - m * up e * 1) (down e * 1) (lift * down e - m * up e) (down e) (omega (arith, down_pos e)) (down_pos e)
    (ap (λ (k : ℕ). (lift * down e - k) * down e) (mul-one (m * up e)) ∙ ap (λ (k : ℕ). (lift * down e - m * up e) * k) (sym (mul-one (down e))))

-- lift taken from c = a / d, where c is at least lift, and where it is less
taken_from : (a c d : ℕ) → 0 < d → c < 2 ^ 53 → lift ≤ c → a ≡ c * d → HasValue (sum binary64 false a true (lift * d) (d * 1)) false (c - lift) 1
unfolding sum
taken_from a c d D b l h =
    subst (λ (y : Float). HasValue y false (c - lift) 1) (sym (cut ∙ same)) (round_whole binary64 false (c - lift) (omega (arith, b)))
  where
    product : c * d ≡ (c - lift + lift) * d
    product = ap (λ (k : ℕ). k * d) (omega (arith, l))

    cut : cond (ltb a (lift * d)) (round binary64 true (lift * d - a) (d * 1)) (round binary64 false (a - lift * d) (d * 1)) ≡ round binary64 false (a - lift * d) (d * 1)
    cut = ap (λ (b : Bool). cond b (round binary64 true (lift * d - a) (d * 1)) (round binary64 false (a - lift * d) (d * 1))) (le-ltb a (lift * d) (omega (arith, product, h)))

    same : round binary64 false (a - lift * d) (d * 1) ≡ round binary64 false (c - lift) 1
    same = round_same binary64 false (a - lift * d) (d * 1) (c - lift) 1 (omega (arith, D)) (omega arith) (omega (arith, product, h))

taken_below : (a c d : ℕ) → 0 < d → c < lift → a ≡ c * d → HasValue (sum binary64 false a true (lift * d) (d * 1)) true (lift - c) 1
unfolding sum
taken_below a c d D l h =
    subst (λ (y : Float). HasValue y true (lift - c) 1) (sym (cut ∙ same)) (round_whole binary64 true (lift - c) (omega arith))
  where
    product : lift * d ≡ (lift - c + c) * d
    product = ap (λ (k : ℕ). k * d) (omega (arith, l))

    cut : cond (ltb a (lift * d)) (round binary64 true (lift * d - a) (d * 1)) (round binary64 false (a - lift * d) (d * 1)) ≡ round binary64 true (lift * d - a) (d * 1)
    cut = ap (λ (b : Bool). cond b (round binary64 true (lift * d - a) (d * 1)) (round binary64 false (a - lift * d) (d * 1))) (lt-ltb a (lift * d) (omega (arith, product, h, more)))
      where
        more : 0 < (lift - c) * d
        more = mul-pos (omega (arith, l)) D

    same : round binary64 true (lift * d - a) (d * 1) ≡ round binary64 true (lift - c) 1
    same = round_same binary64 true (lift * d - a) (d * 1) (lift - c) 1 (omega (arith, D)) (omega arith) (omega (arith, product, h))

lowered_from : (y : Float) (c : ℕ) → c < 2 ^ 53 → lift ≤ c → HasValue y false c 1 → HasValue (lowered y) false (c - lift) 1
unfolding sub neg add
lowered_from nan c b l v = absurd v
lowered_from (inf s) c b l v = absurd v
lowered_from (fin true n g) c b l v = absurd (true≢false v.0)
lowered_from (fin false n g) c b l v =
    subst (λ (w : Float). HasValue (sub binary64 (fin false n g) w) false (c - lift) 1) (sym lift_is) (taken_from (n * up g * 1) c (down g) (down_pos g) b l v.1)

lowered_below : (y : Float) (c : ℕ) → c < lift → HasValue y false c 1 → HasValue (lowered y) true (lift - c) 1
unfolding sub neg add
lowered_below nan c l v = absurd v
lowered_below (inf s) c l v = absurd v
lowered_below (fin true n g) c l v = absurd (true≢false v.0)
lowered_below (fin false n g) c l v =
    subst (λ (w : Float). HasValue (sub binary64 (fin false n g) w) true (lift - c) 1) (sym lift_is) (taken_below (n * up g * 1) c (down g) (down_pos g) l v.1)

-- ---- what the code answers, for any number whose lifted sum is A / d rounded

-- the bits of `lift`
abbrev lift_bits : ℕ
lift_bits = 0x4338_0000_0000_0000

-- n, taken from which the lift's bits leave the floor
pub record LowBits (x : Float) (n : ℕ) : Type 0 where
  pub is : pos n -ℤ pos lift_bits ≡ floor_int x
  pub room : n < 2 ^ 63

-- what the code asks of the two floats that it works out
pub record SmallFloor (x : Float) : Type 0 where
  pub no_nan : T (not (is_nan (lifted x)))
  pub some : 1 ≤ to_bits binary64 (lifted x)
  pub over : lt x (lowered (lifted x)) ≡ true → LowBits x (to_bits binary64 (lifted x) - 1)
  pub not_over : lt x (lowered (lifted x)) ≡ false → LowBits x (to_bits binary64 (lifted x))

module _ (x : Float) (A d : ℕ) (D : 0 < d) (lo : 2 ^ 52 * d ≤ A) (hi : A < (2 ^ 53 - 1) * d) (is : lifted x ≡ round binary64 false A d)
    (test : lt x (lowered (lifted x)) ≡ nat_lt A (closest A d * d)) (floor_is : pos (exponent_bits + A / d) -ℤ pos lift_bits ≡ floor_int x) where
  bits_are : to_bits binary64 (lifted x) ≡ exponent_bits + closest A d
  bits_are = ap (to_bits binary64) is ∙ its_bits A d D lo hi

  ends : (n : ℕ) → n ≡ exponent_bits + A / d → LowBits x n
  ends n e = record { is = ap (λ (n : ℕ). pos n -ℤ pos lift_bits) e ∙ floor_is; room = omega (arith, e, (div-lt_iff_lt-mul D).1 hi) }

  answers : SmallFloor x
  answers = record {
    no_nan = rw is (no_nan A d D lo hi);
    some = omega (arith, bits_are);
    over = λ e. ends (to_bits binary64 (lifted x) - 1) (omega (arith, bits_are, at_least A d D lo hi, at_most A d D lo hi, (div-lt_iff_lt-mul D).1 (ltb-true A (closest A d * d) (sym test ∙ e))));
    not_over = λ e. ends (to_bits binary64 (lifted x)) (omega (arith, bits_are, at_least A d D lo hi, (le-div_iff_mul-le D).1 (ltb-false A (closest A d * d) (sym test ∙ e))));
  }

whole_bits_plus : (j : ℕ) → pos (exponent_bits + (lift + j)) -ℤ pos lift_bits ≡ pos j
whole_bits_plus j =
    ap (λ (b : Bool). cond b (negsuc (lift_bits - suc (exponent_bits + (lift + j)))) (pos (exponent_bits + (lift + j) - lift_bits))) (le-ltb (exponent_bits + (lift + j)) lift_bits (omega arith))
    ∙ ap pos (omega arith)

whole_bits_minus : (t : ℕ) → t ≤ lift → pos (exponent_bits + (lift - t)) -ℤ pos lift_bits ≡ neg_ℤ (pos t)
whole_bits_minus zero h = whole_bits_plus 0
whole_bits_minus (suc t) h =
    ap (λ (b : Bool). cond b (negsuc (lift_bits - suc (exponent_bits + (lift - suc t)))) (pos (exponent_bits + (lift - suc t) - lift_bits)))
    (lt-ltb (exponent_bits + (lift - suc t)) lift_bits (omega (arith, h)))
    ∙ ap negsuc (omega (arith, h))

-- ---- a number of either sign

module _ (m : ℕ) (e : ℤ) (h : m * up e < limit * down e) where
  plus_lo : 2 ^ 52 * down e ≤ lift * down e + m * up e
  plus_lo = omega arith

  plus_hi : lift * down e + m * up e < (2 ^ 53 - 1) * down e
  plus_hi = omega (arith, h)

  minus_lo : 2 ^ 52 * down e ≤ lift * down e - m * up e
  minus_lo = omega (arith, h)

  minus_hi : lift * down e - m * up e < (2 ^ 53 - 1) * down e
  minus_hi = omega (arith, down_pos e)

  plus_test : lt (fin false m e) (lowered (lifted (fin false m e))) ≡ nat_lt (lift * down e + m * up e) (closest (lift * down e + m * up e) (down e) * down e)
  plus_test =
      lt_at (fin false m e) (lowered (lifted (fin false m e))) (m * up e) (down e) (c - lift) 1 (down_pos e) (lit< tt) (refl, refl)
      (lowered_from (lifted (fin false m e)) c (below A (down e) (down_pos e) plus_lo plus_hi) least (subst (λ (y : Float). HasValue y false c 1) (sym (lifted_plus m e)) (value A (down e) (down_pos e) plus_lo plus_hi)))
      ∙ alike (m * up e * 1) ((c - lift) * down e) A (c * down e) (λ l. omega (arith, l, product)) (λ l. omega (arith, l, product))
    where
      A : ℕ
      A = lift * down e + m * up e

      c : ℕ
      c = closest A (down e)

      least : lift ≤ c
      least = le_trans ((le-div_iff_mul-le (down_pos e)).1 (omega arith)) (at_least A (down e) (down_pos e) plus_lo plus_hi)

      product : c * down e ≡ (c - lift + lift) * down e
      product = ap (λ (k : ℕ). k * down e) (omega (arith, least))

  minus_test : lt (fin true m e) (lowered (lifted (fin true m e))) ≡ nat_lt (lift * down e - m * up e) (closest (lift * down e - m * up e) (down e) * down e)
  minus_test = go (below_or_not c lift)
    where
      A : ℕ
      A = lift * down e - m * up e

      c : ℕ
      c = closest A (down e)

      its_value : HasValue (lifted (fin true m e)) false c 1
      its_value = subst (λ (y : Float). HasValue y false c 1) (sym (lifted_minus m e h)) (value A (down e) (down_pos e) minus_lo minus_hi)

      most : c ≤ lift
      most = closest_mono A (down e) lift 1 (down_pos e) (lit< tt) (omega arith)

      go : (c < lift) ⊎ (lift ≤ c) → lt (fin true m e) (lowered (lifted (fin true m e))) ≡ nat_lt A (c * down e)
      go (inl l) =
          both_below (fin true m e) (lowered (lifted (fin true m e))) (m * up e) (down e) (lift - c) 1 (down_pos e) (lit< tt) (refl, refl) (lowered_below (lifted (fin true m e)) c l its_value)
          ∙ alike ((lift - c) * down e) (m * up e * 1) A (c * down e) (λ k. omega (arith, k, product, h)) (λ k. omega (arith, k, product))
        where
          product : lift * down e ≡ (lift - c + c) * down e
          product = ap (λ (k : ℕ). k * down e) (omega (arith, l))
      go (inr l) =
          below_zero (lowered (lifted (fin true m e))) m e
          (subst (λ (k : ℕ). HasValue (lowered (lifted (fin true m e))) false k 1) (omega (arith, l, most)) (lowered_from (lifted (fin true m e)) c (omega (arith, most)) l its_value))
          ∙ alike 0 (m * up e) A (c * down e) (λ k. omega (arith, k, product, h)) (λ k. omega (arith, k, product))
        where
          product : c * down e ≡ lift * down e
          product = ap (λ (k : ℕ). k * down e) (omega (arith, l, most))

  plus_floor : pos (exponent_bits + (lift * down e + m * up e) / down e) -ℤ pos lift_bits ≡ floor_int (fin false m e)
  unfolding floor_int
  plus_floor = ap (λ (n : ℕ). pos (exponent_bits + n) -ℤ pos lift_bits) quotient ∙ whole_bits_plus (m * up e / down e) ∙ ap pos kept
    where
      parts : (m * up e / down e * down e + m * up e % down e ≡ m * up e) × (m * up e % down e < down e)
      parts = (div-add-mod' (m * up e) (down e), mod-lt (m * up e) (down_pos e))

      quotient : (lift * down e + m * up e) / down e ≡ lift + m * up e / down e
      quotient = div-eq_of_lt-le {k = lift + m * up e / down e} (down e) (omega (arith, parts)) (omega (arith, parts))

      kept : m * up e / down e ≡ min (m * up e / down e) (2 ^ 63 - 1)
      kept = omega (arith, (div-lt_iff_lt-mul (down_pos e)).1 h)

  minus_floor : pos (exponent_bits + (lift * down e - m * up e) / down e) -ℤ pos lift_bits ≡ floor_int (fin true m e)
  unfolding floor_int
  minus_floor =
      ap (λ (n : ℕ). pos (exponent_bits + n) -ℤ pos lift_bits) quotient ∙ whole_bits_minus (ceil_div (m * up e) (down e)) (omega (arith, few))
      ∙ ap (λ (n : ℕ). neg_ℤ (pos n)) kept
    where
      few : ceil_div (m * up e) (down e) < limit + 1
      few = (div-lt_iff_lt-mul (down_pos e)).1 (omega (arith, h, down_pos e))

      parts : (ceil_div (m * up e) (down e) * down e + (m * up e + (down e - 1)) % down e ≡ m * up e + (down e - 1)) × ((m * up e + (down e - 1)) % down e < down e)
      parts = (div-add-mod' (m * up e + (down e - 1)) (down e), mod-lt (m * up e + (down e - 1)) (down_pos e))

      product : lift * down e ≡ (lift - ceil_div (m * up e) (down e) + ceil_div (m * up e) (down e)) * down e
      product = ap (λ (k : ℕ). k * down e) (omega (arith, few))

      quotient : (lift * down e - m * up e) / down e ≡ lift - ceil_div (m * up e) (down e)
      quotient = div-eq_of_lt-le {k = lift - ceil_div (m * up e) (down e)} (down e) (omega (arith, parts, product)) (omega (arith, parts, product, h))

      kept : ceil_div (m * up e) (down e) ≡ min (ceil_div (m * up e) (down e)) (2 ^ 63)
      kept = omega (arith, few)

pub small_floor : (x : Float) → T (lt (fin true 1 (pos 50)) x) → T (lt x (fin false 1 (pos 50))) → SmallFloor x
unfolding lt
small_floor nan g l = absurd g
small_floor (inf true) g l = absurd g
small_floor (inf false) g l = absurd l
small_floor (fin false m e) g l =
    let h : m * up e < limit * down e = omega (arith, ltb→lt (m * up e * 1) (1 * 2 ^ 50 * down e) l) in
    answers (fin false m e) (lift * down e + m * up e) (down e) (down_pos e) (plus_lo m e h) (plus_hi m e h) (lifted_plus m e) (plus_test m e h) (plus_floor m e h)
small_floor (fin true m e) g l =
    let h : m * up e < limit * down e = omega (arith, ltb→lt (m * up e * 1) (1 * 2 ^ 50 * down e) g) in
    answers (fin true m e) (lift * down e - m * up e) (down e) (down_pos e) (minus_lo m e h) (minus_hi m e h) (lifted_minus m e h) (minus_test m e h) (minus_floor m e h)

pub floor_fits : (x : Float) → T (fits binary64 x) → SFits w64 (floor_int x)
floor_fits x f = subst (SFits w64) (floor_library x f) (record { sfits = to_signed_in 63 (floor binary64 x) })

-- ---- the ceiling of a number above zero, by the floor of its negative

pub record SmallCeil (x : Float) : Type 0 where
  pub above : minus_two_to 50 <ᶠ neg x
  pub below : neg x <ᶠ two_to 50
  pub is : floor_int (neg x) ≡ neg_ℤ (pos (ceil_count x))
  pub room : ceil_count x < 2 ^ 63

pub small_ceil : (x : Float) → lt (of_bits binary64 0) x ≡ true → lt x (of_bits binary64 0x4310_0000_0000_0000) ≡ true → SmallCeil x
unfolding lt of_bits neg floor_int ceil_count
small_ceil nan g l = absurd (true≢false (sym g))
small_ceil (inf true) g l = absurd (true≢false (sym g))
small_ceil (inf false) g l = absurd (true≢false (sym l))
small_ceil (fin true m e) g l = absurd (true≢false (sym g))
small_ceil (fin false m e) g l = record {
  above = subst T (sym l) tt;
  below = lt→ltb 0 (m * up e * 1 + 1 * 2 ^ 50 * down e) (omega (arith, down_pos e));
  is = ap (λ (n : ℕ). neg_ℤ (pos n)) (omega (arith, few));
  room = omega (arith, few);
}
  where
    few : ceil_div (m * up e) (down e) < limit + 1
    few = (div-lt_iff_lt-mul (down_pos e)).1 (omega (arith, down_pos e, ltb→lt (m * up e * 1) (1 * 2 ^ 50 * down e) (subst T (sym l) tt)))
