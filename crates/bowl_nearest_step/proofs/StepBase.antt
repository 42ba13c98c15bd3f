-- Laws of the nearest step: no coordinate moves by more than 1/128 (`step_near`); steps are at most 64,064 either way; and how the code rounds,
-- from a significand and an exponent. Assumes nothing.
use Rattle.std.specs.Prelude.{Bool, true, false, ◌&&◌, ◌||◌, cond, ◌≡◌, refl, ℕ, zero, suc, ◌+◌, ◌-◌, ◌*◌, ◌/◌, ◌%◌, ◌^◌, ◌<◌, ◌≤◌, ltb, leb, eqb, ℤ, pos, negsuc, neg_ℤ, nat_abs, ◌-ℤ◌, ◌*ℤ◌, Float}
use Rattle.std.proofs.Math.Path.{sym, ap}
use Rattle.std.proofs.Common.{ap₂, ◌∙◌, mod-lt, mul-add, add-mul, mul-one, mul_comm, mul_assoc, mul_right_comm, le_antisymm, le_of_eq, le_trans, mod-eq_of_lt, mul-le-mul_right, mul-lt-mul_of_pos_right, le_of_mul-le-mul_right, lt_of_lt_of_le, not-le_of_lt, arith, lit<, pow_pos, pow_mono, pow-add, shl_lt, lt-ltb, le-ltb, ltb-true, ltb-false, eq-eqb, ne_eqb, eqb-true, leb-true, leb-false}
use Rattle.std.proofs.Math.Nat.{div-add-mod, div-eq_of_lt, mul-div-mul_right}
use Rattle.std.proofs.Math.IntN.{pos-+ℤ-pos, pos-*ℤ-pos, neg_ℤ-+ℤ, +ℤ_assoc, +ℤ_invr}
use Rattle.std.proofs.lemmas.Bool.{eqb-false}
use Rattle.laws.proofs.Integer.{*ℤ_negℤ, negℤ_unique}
use Rattle.laws.proofs.CertificateBase.{sub_pos}
use Rattle.exact.specs.Units.{W, W-pos, signed, sign_of, size_of, units}
use Rattle.bowl_nearest_step.specs.Step.{nearest_whole, nearest_step}

-- ---- no size moves by more than a half

pub record NearHalf (t w k : ℕ) : Type 0 where
  pub above : 2 * (w * k) ≤ 2 * t + w
  pub below : 2 * t ≤ 2 * (w * k) + w

pub nearest_near : (t w : ℕ) → 0 < w → NearHalf t w (nearest_whole t w)
unfolding nearest_whole
nearest_near t w h = by (ltb w (2 * (t % w))) refl (eqb (2 * (t % w)) w) refl (eqb (t / w % 2) 1)
  where
    q : ℕ
    q = t / w

    r : ℕ
    r = t % w

    whole : w * q + r ≡ t
    whole = div-add-mod t w

    less : r < w
    less = mod-lt t h

    grown : (k : ℕ) → w * (k + 1) ≡ w * k + w
    grown k = mul-add w k 1 ∙ ap (λ (z : ℕ). w * k + z) (mul-one w)

    by : (a : Bool) → ltb w (2 * r) ≡ a → (b : Bool) → eqb (2 * r) w ≡ b → (c : Bool) → NearHalf t w (cond (a || (b && c)) (q + 1) q)
    by true ea b eb c = record { above = omega (arith, grown q, whole, ltb-true w (2 * r) ea); below = omega (arith, grown q, whole, less) }
    by false ea true eb true =
        record { above = omega (arith, grown q, whole, eqb-true (2 * r) w eb); below = omega (arith, grown q, whole, less) }
    by false ea true eb false = record { above = omega (arith, whole); below = omega (arith, whole, ltb-false w (2 * r) ea) }
    by false ea false eb c = record { above = omega (arith, whole); below = omega (arith, whole, ltb-false w (2 * r) ea) }

-- ---- no coordinate moves by more than 1/128

pub nat_abs_neg : (z : ℤ) → nat_abs (neg_ℤ z) ≡ nat_abs z
nat_abs_neg (pos zero) = refl
nat_abs_neg (pos (suc n)) = refl
nat_abs_neg (negsuc n) = refl

minus_under : (m n : ℕ) → m ≤ n → pos m -ℤ pos n ≡ neg_ℤ (pos (n - m))
minus_under m n h =
    let back : n - m + m ≡ n = omega arith in
    negℤ_unique (pos (n - m)) (pos m -ℤ pos n)
    (sym (+ℤ_assoc (pos (n - m)) (pos m) (neg_ℤ (pos n)))
    ∙ (ap (λ (z : ℤ). z -ℤ pos n) (pos-+ℤ-pos (n - m) m ∙ ap pos back) ∙ +ℤ_invr (pos n)))

-- two sizes that differ by at most d
pub apart : (m n d : ℕ) → m ≤ n + d → n ≤ m + d → nat_abs (pos m -ℤ pos n) ≤ d
apart m n d h k = by (leb n m) refl
  where
    by : (t : Bool) → leb n m ≡ t → nat_abs (pos m -ℤ pos n) ≤ d
    by true e = rw (sub_pos n m (leb-true n m e)) (omega arith)
    by false e = let less : m ≤ n = omega (arith, leb-false n m e) in rw (minus_under m n less, nat_abs_neg (pos (n - m))) (omega arith)

moved_size : (a k w : ℕ) → NearHalf (64 * a) w k → nat_abs (pos 128 *ℤ pos a -ℤ pos (2 * w) *ℤ pos k) ≤ w
moved_size a k w N =
    rw (pos-*ℤ-pos 128 a, pos-*ℤ-pos (2 * w) k) (apart (128 * a) (2 * w * k) w (omega (arith, mul_assoc 2 w k, N.below)) (omega (arith, mul_assoc 2 w k, N.above)))

-- of sizes a and k, whatever the sign
moved : (s : Bool) (a k w : ℕ) → NearHalf (64 * a) w k → nat_abs (pos 128 *ℤ signed s a -ℤ pos (2 * w) *ℤ signed s k) ≤ w
moved false a k w N = moved_size a k w N
moved true a k w N =
    rw (
      *ℤ_negℤ (pos 128) (pos a),
      *ℤ_negℤ (pos (2 * w)) (pos k),
      ← neg_ℤ-+ℤ (pos 128 *ℤ pos a) (neg_ℤ (pos (2 * w) *ℤ pos k)),
      nat_abs_neg (pos 128 *ℤ pos a -ℤ pos (2 * w) *ℤ pos k),
    ) (moved_size a k w N)

-- THE BOUND. W units make 1: 128 times the way from x to its step is at most 1, either way
pub step_near : (x : Float) → nat_abs (pos 128 *ℤ units x -ℤ pos (2 * W) *ℤ nearest_step x) ≤ W
unfolding nearest_step nearest_whole
step_near x =
    moved (sign_of x) (size_of x) (nearest_whole (64 * size_of x) W) W (near (64 * size_of x) W W-pos)
  where
    near : (t w : ℕ) → 0 < w → NearHalf t w (nearest_whole t w)
    near t w h = by (ltb w (2 * (t % w))) refl (eqb (2 * (t % w)) w) refl (eqb (t / w % 2) 1)
      where
        q : ℕ
        q = t / w

        r : ℕ
        r = t % w

        whole : w * q + r ≡ t
        whole = div-add-mod t w

        less : r < w
        less = mod-lt t h

        grown : (k : ℕ) → w * (k + 1) ≡ w * k + w
        grown k = mul-add w k 1 ∙ ap (λ (z : ℕ). w * k + z) (mul-one w)

        by : (a : Bool) → ltb w (2 * r) ≡ a → (b : Bool) → eqb (2 * r) w ≡ b → (c : Bool) → NearHalf t w (cond (a || (b && c)) (q + 1) q)
        by true ea b eb c = record { above = omega (arith, grown q, whole, ltb-true w (2 * r) ea); below = omega (arith, grown q, whole, less) }
        by false ea true eb true =
            record { above = omega (arith, grown q, whole, eqb-true (2 * r) w eb); below = omega (arith, grown q, whole, less) }
        by false ea true eb false = record { above = omega (arith, whole); below = omega (arith, whole, ltb-false w (2 * r) ea) }
        by false ea false eb c = record { above = omega (arith, whole); below = omega (arith, whole, ltb-false w (2 * r) ea) }

-- ---- a common factor

same_lt : (a b c : ℕ) → 0 < c → ltb (a * c) (b * c) ≡ ltb a b
same_lt a b c C = by (ltb a b) refl
  where
    by : (r : Bool) → ltb a b ≡ r → ltb (a * c) (b * c) ≡ r
    by true e = lt-ltb _ _ (mul-lt-mul_of_pos_right (ltb-true a b e) C)
    by false e = le-ltb _ _ (mul-le-mul_right c (ltb-false a b e))

same_eq : (a b c : ℕ) → 0 < c → eqb (a * c) (b * c) ≡ eqb a b
same_eq a b c C = by (eqb a b) refl
  where
    by : (r : Bool) → eqb a b ≡ r → eqb (a * c) (b * c) ≡ r
    by true e = eq-eqb _ _ (ap (λ (z : ℕ). z * c) (eqb-true a b e))
    by false e =
        ne_eqb _ _ (λ q. eqb-false a b e (le_antisymm (le_of_mul-le-mul_right (le_of_eq q) C) (le_of_mul-le-mul_right (le_of_eq (sym q)) C)))

mod_scaled : (t w c : ℕ) → 0 < c → t * c % (w * c) ≡ t % w * c
mod_scaled t w c C =
    let q = t / w in
    let first : w * c * q + t * c % (w * c) ≡ t * c = ap (λ (z : ℕ). w * c * z + t * c % (w * c)) (sym (mul-div-mul_right t w C)) ∙ div-add-mod (t * c) (w * c) in
    let second : w * q * c + t % w * c ≡ t * c = sym (add-mul (w * q) (t % w) c) ∙ ap (λ (z : ℕ). z * c) (div-add-mod t w) in
    omega (arith, first, second, mul_right_comm w c q)

nearest_scaled : (t w c : ℕ) → 0 < c → nearest_whole (t * c) (w * c) ≡ nearest_whole t w
unfolding nearest_whole
nearest_scaled t w c C =
    rw (mul-div-mul_right t w C, mod_scaled t w c C, sym (mul_assoc 2 (t % w) c), same_lt w (2 * (t % w)) c C, same_eq (2 * (t % w)) w c C) refl

-- ---- how the code rounds

-- what is below half of w goes to 0
none_below : (a w : ℕ) → a * 128 < w → 0 ≡ nearest_whole (64 * a) w
unfolding nearest_whole
none_below a w h =
    let less : 64 * a < w = omega arith in
    rw (div-eq_of_lt less, mod-eq_of_lt less, le-ltb w (2 * (64 * a)) (omega arith), ne_eqb (2 * (64 * a)) w (omega arith)) refl

-- a significand s at the exponent e, in units: below 1/128
pub no_step : (s e : ℕ) → s < 2 ^ 53 → e < 1015 → 0 ≡ nearest_whole (64 * (s * 2 ^ e)) W
unfolding W
no_step s e short low = none_below (s * 2 ^ e) (2 ^ 1074) (shl_lt 1067 7 (lt_of_lt_of_le (shl_lt 53 e short) (pow_mono (below e low))))
  where
    below : (e : ℕ) → e < 1015 → 53 + e ≤ 1067
    below e h = omega arith

-- from there on the quotient by a power of two
pub step_shift : (s e : ℕ) → 1015 ≤ e → e ≤ 1031 → nearest_whole s (2 ^ (1068 - e)) ≡ nearest_whole (64 * (s * 2 ^ e)) W
unfolding W
step_shift s e low high =
    let c = 2 ^ (e + 6) in
    let size : s * c ≡ 64 * (s * 2 ^ e) = ap (λ (z : ℕ). s * z) (pow-add 2 e 6) ∙ (sym (mul_assoc s (2 ^ e) 64) ∙ mul_comm (s * 2 ^ e) 64) in
    let one : 2 ^ (1068 - e) * c ≡ 2 ^ 1074 = sym (pow-add 2 (1068 - e) (e + 6)) ∙ ap (λ (y : ℕ). 2 ^ y) (join e high) in
    sym (nearest_scaled s (2 ^ (1068 - e)) c (pow_pos (e + 6))) ∙ ap₂ nearest_whole size one
  where
    join : (e : ℕ) → e ≤ 1031 → 1068 - e + (e + 6) ≡ 1074
    join e h = omega arith

-- what is within 1,001 has an exponent of at most 1,031
pub exponent_few : (s e : ℕ) → (0 < e → 2 ^ 52 ≤ s) → s * 2 ^ e ≤ 1001 * W → e ≤ 1031
unfolding W
exponent_few s e lead small = by (ltb 1031 e) refl
  where
    wide : (e : ℕ) → 1031 < e → 1084 ≤ 52 + e
    wide e h = omega arith

    over : 1031 < e → ⊥
    over h =
        let big : 2 ^ 1084 ≤ s * 2 ^ e = le_trans (pow_mono (wide e h)) (le_trans (le_of_eq (pow-add 2 52 e)) (mul-le-mul_right (2 ^ e) (lead (omega arith)))) in
        not-le_of_lt (mul-lt-mul_of_pos_right {m = 1001} {n = 2 ^ 10} {k = 2 ^ 1074} (lit< tt) (pow_pos 1074))
        (le_trans (le_of_eq (sym (pow-add 2 10 1074))) (le_trans big small))

    by : (t : Bool) → ltb 1031 e ≡ t → e ≤ 1031
    by true q = absurd (over (ltb-true 1031 e q))
    by false q = ltb-false 1031 e q
