-- How far lib.Ieee's `round` is from its fraction, in ℕ. n / c is the fraction in units of the smallest double, 2 ^ -1074, and `rounded n c` is
-- what `round` makes of it, in units. `Close x n m` says that x is within m / 2 ^ 53 of n: a result in the normal range is off by at most one
-- part in 2 ^ 53, and below that range by at most half a unit. Assumes nothing.
use Rattle.std.specs.Prelude.{◌≡◌, refl, ◌⊎◌}
use Rattle.std.proofs.Common.{sym, ap, ◌∙◌, subst, inl, inr, le_trans, le_of_eq, lt_irrefl, zero-mul, one-mul, mul-one, mul_comm, mul_assoc, add-mul, suc-mul, mul-pos, mul-le-mul_right, le_of_mul-le-mul_right, div-add-mod', mod-lt, mul-div_cancel, le-div_iff_mul-le, arith, pow-add, pow_pos}
use Prim.Native.Nat.{ℕ, zero, suc, ◌+◌, ◌-◌, ◌*◌, ◌/◌, ◌%◌, ◌^◌, ◌≤◌, ◌<◌, compare, Ordering}
use Rattle.std.proofs.Math.Nat.{mul-mod_left}
use Rattle.std.specs.Float.Ieee.{size, nearest}
use Rattle.std.specs.Float.Ieee.Digits.{size_reaches}
use Rattle.std.specs.Float.Ieee.Nearest.{closest}
use Rattle.std.specs.Float.Ieee.Order.{drop, kept}
use Rattle.numbers.specs.Isqrt.{CompareSays, compare_says}

-- x is within m / 2 ^ 53 of n
abbrev pub Close : ℕ → ℕ → ℕ → Type 0
Close x n m = (2 ^ 53 * x ≤ 2 ^ 53 * n + m) × (2 ^ 53 * n ≤ 2 ^ 53 * x + m)

-- what `round` makes of n / c: the 53 leading digits, and the place of the last
abbrev pub rounded : ℕ → ℕ → ℕ
rounded n c = kept 53 n c * 2 ^ drop 53 n c

-- ---- `closest a b` is within half of a / b

-- x is within half of b from a
abbrev Half : ℕ → ℕ → ℕ → Type 0
Half x a b = (2 * x ≤ 2 * a + b) × (2 * a ≤ 2 * x + b)

tie : (q b r a t : ℕ) → t < 2 → q * b + r ≡ a → r * 2 ≡ b → Half ((q + t) * b) a b
tie q b r a zero l e h = subst (λ (z : ℕ). Half z a b) (sym (add-mul q 0 b ∙ ap (λ (z : ℕ). q * b + z) (zero-mul b))) (omega arith)
tie q b r a (suc zero) l e h = subst (λ (z : ℕ). Half z a b) (sym (add-mul q 1 b ∙ ap (λ (z : ℕ). q * b + z) (one-mul b))) (omega arith)
tie q b r a (suc (suc t)) l e h = absurd (big t l)
  where
    big : (t : ℕ) → suc (suc t) < 2 → ⊥
    big t l = omega arith

nearest_half : (o : Ordering) (q b r a : ℕ) → q * b + r ≡ a → r < b → CompareSays o (r * 2) b → Half (nearest q o * b) a b
nearest_half Ordering.lt q b r a e l h = omega arith
nearest_half Ordering.eq q b r a e l h = tie q b r a (q % 2) (below_two q) e h
  where
    below_two : (q : ℕ) → q % 2 < 2
    below_two q = omega arith
nearest_half Ordering.gt q b r a e l h = subst (λ (z : ℕ). Half z a b) (sym (suc-mul q b)) (omega arith)

closest_half : (a b : ℕ) → 0 < b → Half (closest a b * b) a b
closest_half a b B = nearest_half (compare (a % b * 2) b) (a / b) b (a % b) a (div-add-mod' a b) (mod-lt a B) (compare_says (a % b * 2) b)

-- ---- the step in which `round` counts: c * 2 ^ k where k digits are dropped. It is small beside n, unless nothing is dropped

abbrev step : ℕ → ℕ → ℕ
step n c = c * 2 ^ drop 53 n c

step_pos : (n c : ℕ) → 0 < c → 0 < step n c
step_pos n c C = mul-pos C (pow_pos (drop 53 n c))

step_small : (n c : ℕ) → 0 < c → (drop 53 n c ≡ 0) ⊎ (2 ^ 52 * step n c ≤ n)
step_small n c C = go (drop 53 n c) refl
  where
    lower : (z k : ℕ) → z - 53 ≡ suc k → 52 + suc k < z
    lower z k e = omega arith

    go : (k : ℕ) → drop 53 n c ≡ k → (k ≡ 0) ⊎ (2 ^ 52 * (c * 2 ^ k) ≤ n)
    go zero e = inl refl
    go (suc k) e =
        let shift =
        ap (λ (z : ℕ). 2 ^ 52 * z) (mul_comm c (2 ^ suc k)) ∙ sym (mul_assoc (2 ^ 52) (2 ^ suc k) c) ∙ ap (λ (z : ℕ). z * c) (sym (pow-add 2 52 (suc k))) in
        inr (le_trans (le_of_eq shift) ((le-div_iff_mul-le C).0 (size_reaches (n / c) (52 + suc k) (lower (size (n / c)) k e))))

regroup : (n c : ℕ) → rounded n c * c ≡ closest n (step n c) * step n c
regroup n c = mul_assoc (kept 53 n c) (2 ^ drop 53 n c) c ∙ ap (λ (z : ℕ). kept 53 n c * z) (mul_comm (2 ^ drop 53 n c) c)

-- half a step is at most m / 2 ^ 53
step_close : (n c m : ℕ) → 0 < c → 2 ^ 52 * step n c ≤ m → Close (rounded n c * c) n m
step_close n c m C l =
    let u = step n c in
    subst (λ (z : ℕ). Close z n m) (sym (regroup n c)) (half_close (closest n u * u) u (closest_half n u (step_pos n c C)) l)
  where
    half_close : (x u : ℕ) → Half x n u → 2 ^ 52 * u ≤ m → Close x n m
    half_close x u h l = omega arith

-- the error is at most 2 ^ -53 of the fraction and half a unit
pub round_close : (n c : ℕ) → 0 < c → Close (rounded n c * c) n (n + 2 ^ 52 * c)
round_close n c C = step_close n c (n + 2 ^ 52 * c) C (small (step_small n c C))
  where
    least : (u : ℕ) → u ≡ c → 2 ^ 52 * u ≤ n + 2 ^ 52 * c
    least u e = omega arith

    more : (u : ℕ) → 2 ^ 52 * u ≤ n → 2 ^ 52 * u ≤ n + 2 ^ 52 * c
    more u e = omega arith

    small : (drop 53 n c ≡ 0) ⊎ (2 ^ 52 * step n c ≤ n) → 2 ^ 52 * step n c ≤ n + 2 ^ 52 * c
    small (inl e) = least (step n c) (ap (λ (z : ℕ). c * 2 ^ z) e ∙ mul-one c)
    small (inr l) = more (step n c) l

-- ---- where n is a whole number w of c's nothing is lost below the normal range, and the error is relative

closest_whole : (w c : ℕ) → 0 < c → closest (w * c) c ≡ w
closest_whole w c C =
    ap (λ (z : ℕ). nearest z (compare (w * c % c * 2) c)) (mul-div_cancel w C) ∙ ap (λ (z : ℕ). nearest w (compare (z * 2) c)) (mul-mod_left w c)
    ∙ ap (nearest w) (above c C)
  where
    above : (u : ℕ) → 0 < u → compare (0 * 2) u ≡ Ordering.lt
    above zero h = absurd (lt_irrefl 0 h)
    above (suc u) h = Prim.Native.Nat.compare.zero-suc u

pub round_close_whole : (w c : ℕ) → 0 < c → Close (rounded (w * c) c * c) (w * c) (w * c)
round_close_whole w c C = go (step_small (w * c) c C)
  where
    self : (x n : ℕ) → x ≡ n → Close x n n
    self x n e = omega arith

    go : (drop 53 (w * c) c ≡ 0) ⊎ (2 ^ 52 * step (w * c) c ≤ w * c) → Close (rounded (w * c) c * c) (w * c) (w * c)
    go (inl e) =
        self (rounded (w * c) c * c) (w * c)
        (ap (λ (k : ℕ). closest (w * c) (c * 2 ^ k) * 2 ^ k * c) e ∙ ap (λ (z : ℕ). closest (w * c) z * 1 * c) (mul-one c)
        ∙ ap (λ (z : ℕ). z * c) (mul-one (closest (w * c) c) ∙ closest_whole w c C))
    go (inr l) = step_close (w * c) c (w * c) C l

-- ---- a common factor

pub close_scale : (x n m d : ℕ) → Close x n m → Close (x * d) (n * d) (m * d)
close_scale x n m d h = (
  le_trans (le_of_eq (sym (mul_assoc (2 ^ 53) x d))) (le_trans (mul-le-mul_right d h.0) (le_of_eq (push n))),
  le_trans (le_of_eq (sym (mul_assoc (2 ^ 53) n d))) (le_trans (mul-le-mul_right d h.1) (le_of_eq (push x))),
)
  where
    push : (a : ℕ) → (2 ^ 53 * a + m) * d ≡ 2 ^ 53 * (a * d) + m * d
    push a = add-mul (2 ^ 53 * a) m d ∙ ap (λ (z : ℕ). z + m * d) (mul_assoc (2 ^ 53) a d)

pub close_cancel : (x n m d : ℕ) → 0 < d → Close (x * d) (n * d) (m * d) → Close x n m
close_cancel x n m d D h = (
  le_of_mul-le-mul_right (le_trans (le_of_eq (mul_assoc (2 ^ 53) x d)) (le_trans h.0 (le_of_eq (pull n)))) D,
  le_of_mul-le-mul_right (le_trans (le_of_eq (mul_assoc (2 ^ 53) n d)) (le_trans h.1 (le_of_eq (pull x)))) D,
)
  where
    pull : (a : ℕ) → 2 ^ 53 * (a * d) + m * d ≡ (2 ^ 53 * a + m) * d
    pull a = sym (add-mul (2 ^ 53 * a) m d ∙ ap (λ (z : ℕ). z + m * d) (mul_assoc (2 ^ 53) a d))
