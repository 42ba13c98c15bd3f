-- What holds of the definitions of proofs/StepBase.antt.
use Rattle.std.specs.Prelude.{Bool, true, false, ◌&&◌, ◌||◌, cond, ◌≡◌, refl, ℕ, ◌+◌, ◌-◌, ◌*◌, ◌/◌, ◌%◌, ◌^◌, ◌<◌, ◌≤◌, ltb, eqb, pos, nat_abs, Float}
use Rattle.std.proofs.Math.Path.{sym, ap}
use Rattle.std.proofs.Common.{ap₂, ◌∙◌, subst, mod-lt, add-mul, mul_comm, mul_assoc, le_of_eq, le_trans, le_of_mul-le-mul_right, arith, lit<, pow_pos, pow-add, shl_exact, ltb-true, ltb-false, eqb-true}
use Rattle.std.proofs.Math.Nat.{div-add-mod, div-eq_of_lt-le}
use Rattle.std.proofs.lemmas.Bool.{eqb-false}
use Rattle.numbers.specs.declared.Parts.{Parts}
use Rattle.numbers.specs.TakenApart.{IsParts}
use Rattle.exact.specs.Units.{W, W-pos, Val, Within, signed, sign_of, size_of, size_val, sign_val, within_size}
use Rattle.bowl_nearest_step.specs.Step.{nearest_whole, nearest_step}
use Rattle.bowl_nearest_step.proofs.StepBase.{nearest_near, nat_abs_neg, exponent_few}

-- ---- at most 64,064 steps either way

-- of a size within 1,001
pub few_steps : (a w : ℕ) → 0 < w → a ≤ 1001 * w → nearest_whole (64 * a) w ≤ 64064
few_steps a w h few =
    let k = nearest_whole (64 * a) w in
    let N = nearest_near (64 * a) w h in
    let twice : 2 * k * w ≤ 128129 * w = omega (arith, N.above, mul_assoc 2 k w, mul_comm k w) in
    let less : 2 * k ≤ 128129 = le_of_mul-le-mul_right twice h in
    omega arith

nat_abs_signed : (s : Bool) (a : ℕ) → nat_abs (signed s a) ≡ a
nat_abs_signed false a = refl
nat_abs_signed true a = nat_abs_neg (pos a)

pub step_few : {x : Float} → Within 1001 x → nat_abs (nearest_step x) ≤ 64064
unfolding nearest_step
step_few {x} w = rw (nat_abs_signed (sign_of x) (nearest_whole (64 * size_of x) W)) (few_steps (size_of x) W W-pos (within_size w))

-- ---- how the code rounds

-- a quotient by 2h: with half the divisor added, and 1 less where the floor is even, the floor is the nearest
nearest_floor : (t h : ℕ) → 0 < h → (t + (h - 1) + t / (2 * h) % 2) / (2 * h) ≡ nearest_whole t (2 * h)
unfolding nearest_whole
nearest_floor t h some = by (ltb w (2 * r)) refl (eqb (2 * r) w) refl (eqb (q % 2) 1) refl
  where
    w : ℕ
    w = 2 * h

    q : ℕ
    q = t / (2 * h)

    r : ℕ
    r = t % (2 * h)

    all : w * q + r ≡ t
    all = div-add-mod t w

    less : r < w
    less = mod-lt t (omega arith)

    two : q % 2 < 2
    two = mod-lt q (lit< tt)

    times : w * q ≡ q * w
    times = mul_comm w q

    more : (q + 1) * w ≡ q * w + w
    more = add-mul q 1 w ∙ omega arith

    most : (q + 1 + 1) * w ≡ q * w + w + w
    most = add-mul (q + 1) 1 w ∙ omega (arith, more)

    up : w < 2 * r + q % 2 → (t + (h - 1) + q % 2) / w ≡ q + 1
    up g = div-eq_of_lt-le w (omega (arith, all, times, more)) (omega (arith, all, times, most, less, two))

    down : 2 * r + q % 2 ≤ w → (t + (h - 1) + q % 2) / w ≡ q
    down g = div-eq_of_lt-le w (omega (arith, all, times)) (omega (arith, all, times, more))

    by : (a : Bool) → ltb w (2 * r) ≡ a → (b : Bool) → eqb (2 * r) w ≡ b → (c : Bool) → eqb (q % 2) 1 ≡ c
        → (t + (h - 1) + q % 2) / w ≡ cond (a || (b && c)) (q + 1) q
    by true ea b eb c ec = up (omega (arith, ltb-true w (2 * r) ea))
    by false ea true eb true ec = up (omega (arith, eqb-true (2 * r) w eb, eqb-true (q % 2) 1 ec))
    by false ea true eb false ec = down (omega (arith, eqb-true (2 * r) w eb, two, other))
      where
        other : q % 2 ≡ 1 → ⊥
        other = eqb-false (q % 2) 1 ec
    by false ea false eb c ec = down (omega (arith, ltb-false w (2 * r) ea, two, other))
      where
        other : 2 * r ≡ w → ⊥
        other = eqb-false (2 * r) w eb

-- by a power of two
pub nearest_shift : (t k : ℕ) → 0 < k → k ≤ 53 → (t + (1 * 2 ^ (k - 1) % 2 ^ 64 - 1) + t / 2 ^ k % 2) / 2 ^ k ≡ nearest_whole t (2 ^ k)
nearest_shift t k some few =
    let h = 2 ^ (k - 1) in
    let one : 1 * h % 2 ^ 64 ≡ h = shl_exact 1 (k - 1) 64 (lit< tt) (omega arith) ∙ omega arith in
    let up : 1 + (k - 1) ≡ k = omega arith in
    let half : 2 ^ k ≡ 2 * h = ap (λ (j : ℕ). 2 ^ j) (sym up) ∙ pow-add 2 1 (k - 1) in
    rw (one, half) (nearest_floor t h (pow_pos (k - 1)))

-- ---- a double taken apart

module _ (x : Float) (p : Parts) (P : IsParts x p) where
  abbrev size : ℕ
  size = p.significand * 2 ^ p.exponent

  value : Val x p.negative (p.significand * 2 ^ p.exponent)
  unfolding W
  value = P.value

  parts_small : Within 1001 x → p.significand * 2 ^ p.exponent ≤ 1001 * W
  parts_small w = subst (λ (a : ℕ). a ≤ 1001 * W) (size_val x p.negative size value) (within_size w)

  pub parts_exponent : Within 1001 x → p.exponent ≤ 1031
  parts_exponent w = exponent_few p.significand p.exponent P.leading (parts_small w)

  pub parts_few : Within 1001 x → (k : ℕ) → k ≡ nearest_whole (64 * (p.significand * 2 ^ p.exponent)) W → k ≤ 64064
  parts_few w k e = le_trans (le_of_eq e) (few_steps size W W-pos (parts_small w))

  pub parts_step : (k : ℕ) → k ≡ nearest_whole (64 * (p.significand * 2 ^ p.exponent)) W → signed p.negative k ≡ nearest_step x
  unfolding nearest_step
  parts_step k e =
      ap (signed p.negative) e
      ∙ sym (ap₂ (λ (s : Bool) (a : ℕ). signed s (nearest_whole (64 * a) W)) (sign_val x p.negative size value) (size_val x p.negative size value))
