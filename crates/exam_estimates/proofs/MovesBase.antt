-- How far an estimate moves where its corners move, and that it lies between them.
use Rattle.std.specs.Prelude.{ℕ, ◌+◌, ◌-◌, ◌*◌, ◌/◌, ◌≤◌, ◌<◌, ◌≡◌}
use Rattle.std.proofs.Common.{sym, ◌∙◌, ap, subst, le_trans, mul-add, add-mul, mul-le-mul_left, le-div_iff_mul-le, mul_comm, arith, lit≤}
use Rattle.std.proofs.Math.Nat.{add-mul-div_left, mul-div-le, mul-div_right}
use Rattle.exam_estimates.specs.Estimate.{estimate}

-- a quotient moves by at most t where its dividend moves by at most t times the divisor
div_moves : (x y t k : ℕ) → 0 < k → x ≤ y + k * t → x / k ≤ y / k + t
div_moves x y t k h le = rw (← add-mul-div_left y t h) (mono x (y + k * t) k h le)
  where
    mono : (x y k : ℕ) → 0 < k → x ≤ y → x / k ≤ y / k
    mono x y k h le = (le-div_iff_mul-le h).1 (le_trans (rw (mul_comm (x / k) k) (mul-div-le x k)) le)

-- one term
term_moves : (w a b t : ℕ) → a ≤ b + t → w * a ≤ w * b + w * t
term_moves w a b t h = rw (← mul-add w b t) (mul-le-mul_left w h)

-- no corner is more than t above: nor is the sum, times the weights' sum
terms_move : (w1 w2 w3 w4 a b d c a2 b2 d2 c2 t : ℕ) → a ≤ a2 + t → b ≤ b2 + t → d ≤ d2 + t → c ≤ c2 + t
    → w1 * a + w2 * b + w3 * d + w4 * c ≤ w1 * a2 + w2 * b2 + w3 * d2 + w4 * c2 + (w1 + w2 + w3 + w4) * t
terms_move w1 w2 w3 w4 a b d c a2 b2 d2 c2 t ha hb hd hc =
    rw (add-mul (w1 + w2 + w3) w4 t, add-mul (w1 + w2) w3 t, add-mul w1 w2 t)
    (omega (arith, term_moves w1 a a2 t ha, term_moves w2 b b2 t hb, term_moves w3 d d2 t hd, term_moves w4 c c2 t hc))

-- the weights add up
weights_whole : (u v : ℕ) → u ≤ 256 → v ≤ 256 → (256 - u) * (256 - v) + u * (256 - v) + u * v + (256 - u) * v ≡ 65536
weights_whole u v hu hv =
    let s = 256 - u in
    let t = 256 - v in
    let su : s + u ≡ 256 = omega arith in
    let tv : t + v ≡ 256 = omega arith in
    let p : (s + u) * t ≡ s * t + u * t = add-mul s u t in
    let q : (s + u) * v ≡ s * v + u * v = add-mul s u v in
    let p2 : 256 * t ≡ s * t + u * t = subst (λ (z : ℕ). z * t ≡ s * t + u * t) su p in
    let q2 : 256 * v ≡ s * v + u * v = subst (λ (z : ℕ). z * v ≡ s * v + u * v) su q in
    omega (arith, p2, q2, tv)

-- THE BOUND: where no corner is more than t above another's, no estimate is. Corners may be one node: the weights add up in all.
pub estimate_moves : (u v a b d c a2 b2 d2 c2 t : ℕ) → u ≤ 256 → v ≤ 256 → a ≤ a2 + t → b ≤ b2 + t → d ≤ d2 + t → c ≤ c2 + t
    → estimate u v a b d c ≤ estimate u v a2 b2 d2 c2 + t
unfolding estimate
estimate_moves u v a b d c a2 b2 d2 c2 t hu hv ha hb hd hc =
    div_moves _ _ t 65536 (lit≤ tt)
    (subst (λ (z : ℕ). (256 - u) * (256 - v) * a + u * (256 - v) * b + u * v * d + (256 - u) * v * c
    ≤ (256 - u) * (256 - v) * a2 + u * (256 - v) * b2 + u * v * d2 + (256 - u) * v * c2 + z * t) (weights_whole u v hu hv)
    (terms_move ((256 - u) * (256 - v)) (u * (256 - v)) (u * v) ((256 - u) * v) a b d c a2 b2 d2 c2 t ha hb hd hc))

-- four equal corners
pub estimate_same : (u v a : ℕ) → u ≤ 256 → v ≤ 256 → estimate u v a a a a ≡ a
unfolding estimate
estimate_same u v a hu hv =
    let p = (256 - u) * (256 - v) in
    let q = u * (256 - v) in
    let r = u * v in
    let s = (256 - u) * v in
    ap (λ (z : ℕ). z / 65536)
    (sym (add-mul (p + q + r) s a ∙ ap (λ (z : ℕ). z + s * a) (add-mul (p + q) r a ∙ ap (λ (z : ℕ). z + r * a) (add-mul p q a)))
    ∙ ap (λ (z : ℕ). z * a) (weights_whole u v hu hv))
    ∙ mul-div_right a (lit≤ tt)
