-- `isqrt n` is the whole part of √n, and which whole number is nearest to √n. Assumes nothing.
use Rattle.std.specs.Prelude.{◌≡◌, ℕ, zero, suc, ◌+◌, ◌-◌, ◌*◌, ◌/◌, ◌^◌, ◌<◌, ◌≤◌, Bool, true, false, cond, not, T, ◌==◌, ◌≢◌, nat_le, refl}
use Rattle.std.proofs.Common.{sym, ap, ◌∙◌, subst, le_trans, le_of_eq, le_antisymm, le_of_suc-le-suc, lt_of_lt_of_le, lt_of_not-le, not-le_of_lt, mul-le-mul, mul_assoc, lt_of_mul-lt-mul_right, arith, leb→le, eqb→eq, pow-add, pow_pos, pow_mono}
use Prim.Native.Nat.{compare, Ordering}
use Rattle.std.proofs.Math.Nat.{eq_of_mul-eq-mul_right, pow-succ'}
use Rattle.std.proofs.Math.Dec.{nleb→lt, is_le, compare_is_eq, eqb_refl}
use Rattle.std.proofs.Math.Arith.{lt_of_le-ne}
use Rattle.std.specs.Float.Ieee.{size, nearest}
use Rattle.std.specs.Float.Ieee.Digits.{size-lt}
use Rattle.numbers.specs.Root.{digit, isqrt_in, root_size, isqrt, NearRoot}

-- ---- powers of 4 and squares

pub four_is : (k : ℕ) → 4 ^ k ≡ 2 ^ k * 2 ^ k
four_is zero = refl
four_is (suc k) = omega (arith, pow-succ' 4 k, ap (λ (x : ℕ). x * x) (pow-succ' 2 k), four_is k)

pub four_pow : (k : ℕ) → 2 ^ (k + k) ≡ 4 ^ k
four_pow k = pow-add 2 k k ∙ sym (four_is k)

pub four_pos : (k : ℕ) → 0 < 4 ^ k
four_pos k = subst (λ (z : ℕ). 0 < z) (four_pow k) (pow_pos (k + k))

pub square_lt : (a b : ℕ) → a * a < b * b → a < b
square_lt a b h = lt_of_not-le (λ (g : b ≤ a). not-le_of_lt h (mul-le-mul g g))

-- ---- the whole part

-- r is the whole part of √n
pub record IsRoot (n r : ℕ) : Type 0 where
  pub reach : r * r ≤ n
  pub under : n < suc r * suc r

digit_root : (n r : ℕ) → IsRoot (n / 4) r → IsRoot n (digit n r)
digit_root n r h = go (nat_le ((2 * r + 1) * (2 * r + 1)) n) (leb→le ((2 * r + 1) * (2 * r + 1)) n) (nleb→lt ((2 * r + 1) * (2 * r + 1)) n)
  where
    go : (b : Bool) → (T b → (2 * r + 1) * (2 * r + 1) ≤ n) → (T (not b) → n < (2 * r + 1) * (2 * r + 1)) → IsRoot n (cond b (2 * r + 1) (2 * r))
    go true y z = let k = y tt in record { reach = k; under = omega arith }
    go false y z = let k = z tt in record { reach = omega arith; under = omega arith }

isqrt_in_root : (k n : ℕ) → n < 4 ^ k → IsRoot n (isqrt_in k n)
unfolding isqrt_in
isqrt_in_root zero n h = record { reach = omega arith; under = omega arith }
isqrt_in_root (suc k) n h = digit_root n (isqrt_in k (n / 4)) (isqrt_in_root k (n / 4) (omega (arith, pow-succ' 4 k)))

pub isqrt_root : (n : ℕ) → IsRoot n (isqrt n)
isqrt_root n = isqrt_in_root (root_size n) n (lt_of_lt_of_le (size-lt n) (le_trans (pow_mono (halves (size n))) (le_of_eq (four_pow (root_size n)))))
  where
    halves : (z : ℕ) → z ≤ (z + 1) / 2 + (z + 1) / 2
    halves z = omega arith

-- ---- the nearest whole number: there is only one

apart : (n a d : ℕ) → NearRoot n a → NearRoot n (a + 1 + d) → ⊥
apart n a d h k = omega arith

not_less : (n a b : ℕ) → NearRoot n a → NearRoot n b → a < b → ⊥
not_less n a b h k l = apart n a (b - (a + 1)) h (subst (NearRoot n) (e a b l) k)
  where
    e : (a b : ℕ) → a < b → b ≡ a + 1 + (b - (a + 1))
    e a b l = omega arith

pub near_unique : (n a b : ℕ) → NearRoot n a → NearRoot n b → a ≡ b
near_unique n a b h k =
    le_antisymm (le_of_suc-le-suc (lt_of_not-le (λ (g : suc b ≤ a). not_less n b a k h g)))
    (le_of_suc-le-suc (lt_of_not-le (λ (g : suc a ≤ b). not_less n a b h k g)))

-- ---- the nearest whole number: `nearest` picks it

-- what `compare` says
abbrev pub CompareSays : Ordering → ℕ → ℕ → Type 0
CompareSays Ordering.lt a b = a < b
CompareSays Ordering.eq a b = a ≡ b
CompareSays Ordering.gt a b = b < a

pub compare_says : (a b : ℕ) → CompareSays (compare a b) a b
compare_says a b = go (compare a b) (leb→le a b) (nleb→lt a b) (eqb→eq a b) (λ (e : a ≡ b). subst (λ (x : ℕ). T (a == x)) e (eqb_refl a))
  where
    go : (o : Ordering) → (T (is_le o) → a ≤ b) → (T (not (is_le o)) → b < a) → (T (compare_is_eq o) → a ≡ b) → (a ≡ b → T (compare_is_eq o)) → CompareSays o a b
    go Ordering.lt h k e n = lt_of_le-ne (h tt) n
    go Ordering.eq h k e n = e tt
    go Ordering.gt h k e n = k tt

-- an even number is no odd square: so there are no ties
no_tie : (n q : ℕ) → 4 * n ≢ (2 * q + 1) * (2 * q + 1)
no_tie n q e = go (q * q) (omega arith)
  where
    go : (s : ℕ) → 4 * n ≢ 4 * s + 4 * q + 1
    go s h = omega arith

pick : (n q c : ℕ) → 0 < n → 0 < c → IsRoot n q → (o : Ordering) → CompareSays o (4 * (n * c)) ((2 * q + 1) * (2 * q + 1) * c) → NearRoot n (nearest q o)
pick n zero c N C r o x = absurd (none r.under)
  where
    none : n < suc 0 * suc 0 → ⊥
    none h = omega arith
pick n (suc q) c N C r Ordering.lt x =
    let k : 4 * n < (2 * suc q + 1) * (2 * suc q + 1) = lt_of_mul-lt-mul_right c (rw (mul_assoc 4 n c) x) in
    record { below = omega arith; above = omega arith }
pick n (suc q) c N C r Ordering.eq x =
    absurd (no_tie n (suc q) (eq_of_mul-eq-mul_right c C (4 * n) ((2 * suc q + 1) * (2 * suc q + 1)) (mul_assoc 4 n c ∙ x)))
pick n (suc q) c N C r Ordering.gt x =
    let k : (2 * suc q + 1) * (2 * suc q + 1) < 4 * n = lt_of_mul-lt-mul_right c (rw (mul_assoc 4 n c) x) in
    record { below = omega arith; above = omega arith }

-- what `root_units` picks, for an n times c, is nearest to √n
abbrev pub picked : ℕ → ℕ → ℕ
picked n c = let q = isqrt n in nearest q (compare (4 * (n * c)) ((2 * q + 1) * (2 * q + 1) * c))

pub picked_near : (n c : ℕ) → 0 < n → 0 < c → NearRoot n (picked n c)
picked_near n c N C =
    let q = isqrt n in
    pick n q c N C (isqrt_root n) (compare (4 * (n * c)) ((2 * q + 1) * (2 * q + 1) * c)) (compare_says (4 * (n * c)) ((2 * q + 1) * (2 * q + 1) * c))
