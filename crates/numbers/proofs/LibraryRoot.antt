-- The library's root is `root`: `round` at the library's fraction picks the whole number that is nearest to √N, as `root` does.
-- Assumes nothing.
use Rattle.std.proofs.Common.{◌≡◌, ℕ, zero, suc, ◌+◌, ◌-◌, ◌*◌, ◌/◌, ◌%◌, ◌^◌, ◌<◌, ◌≤◌, Bool, true, false, cond, T, refl, sym, ap, ◌∙◌, subst, le_trans, le_of_eq, le_of_lt, le_antisymm, le_of_suc-le-suc, lt_of_mul-lt-mul_right, lt_of_lt_of_le, lt_of_le_of_lt, mul_comm, mul-one, one-mul, mul-le-mul_right, mul-lt-mul_of_pos_right, mul_assoc, mul_right_comm, mul-pos, mul-div_cancel, div-add-mod', le-div_iff_mul-le, div-lt_iff_lt-mul, eqb→eq, arith, pow_pos, pow-add, zero-lt-suc}
use Rattle.std.proofs.Math.Nat.{mul-mul-mul_comm, pow-succ'}
use Prim.Native.Nat.{compare, Ordering}
use lib.Dec.{eqb}
use lib.IntN.{ℤ, pos, negsuc}
use lib.Ieee.{Float, nan, inf, fin, binary64, up, down, size, nearest, units, round, root_below, root_twice, sqrt, fits}
use lib.Ieee.Digits.{size-le}
use lib.Ieee.Fits.{round_is, down_pos, up_pos}
use lib.Ieee.Nearest.{closest, closest_same}
use lib.Ieee.Positive.{first_pos}
use lib.Ieee.Root.{Root, whole_part}
use Rattle.numbers.specs.Root.{root, NearRoot}
use Rattle.numbers.specs.Isqrt.{four_pow, square_lt, CompareSays, compare_says}
use Rattle.numbers.specs.Float.{is_finite}
use Rattle.numbers.specs.RootUnits.{size_over}
use Rattle.numbers.specs.Nearest.{IsUnits, is_rounded}
use Rattle.numbers.proofs.TakenApart.{finite_value}

-- ---- twice the root, as the library takes it, is on the same side of each even number as twice the exact root

record Twice (n R : ℕ) : Type 0 where
  reach : (a : ℕ) → a * a ≤ n → 2 * a ≤ R
  over : (a : ℕ) → a * a < n → 2 * a < R
  under : (b : ℕ) → n < b * b → R < 2 * b

is_twice : (n : ℕ) → Twice n (root_twice n)
unfolding root_twice
is_twice n = go (root_below (size n) n) (whole_part n)
  where
    go : (r : ℕ) → Root r n → Twice n (2 * r + cond (eqb (r * r) n) 0 1)
    go r h = at (eqb (r * r) n) (eqb→eq (r * r) n)
      where
        reached : (a : ℕ) → a * a ≤ n → a < r + 1
        reached a l = square_lt a (r + 1) (lt_of_le_of_lt l h.1)

        passed : (b : ℕ) → n < b * b → r < b
        passed b l = square_lt r b (lt_of_le_of_lt h.0 l)

        at : (t : Bool) → (T t → r * r ≡ n) → Twice n (2 * r + cond t 0 1)
        at true e = record {
          reach = λ a l. omega (arith, reached a l);
          over = λ a l. omega (arith, square_lt a r (lt_of_lt_of_le l (le_of_eq (sym (e tt)))));
          under = λ b l. omega (arith, passed b l);
        }
        at false e = record {
          reach = λ a l. omega (arith, reached a l);
          over = λ a l. omega (arith, square_lt a (r + 1) (lt_of_lt_of_le l (le_of_lt h.1)));
          under = λ b l. omega (arith, passed b l);
        }

-- ---- the fraction a / b is between Q - 1/2 and Q + 1/2

closest_is : (a b P : ℕ) → 0 < b → (2 * P + 1) * b < 2 * a → 2 * a < (2 * P + 3) * b → closest a b ≡ suc P
closest_is a b P B lo hi = go (compare (a % b * 2) b) (compare_says (a % b * 2) b)
  where
    q : ℕ
    q = a / b

    t : ℕ
    t = a % b

    same : q * b + t ≡ a
    same = div-add-mod' a b

    le_q : (x y : ℕ) → x * b < suc y * b → x ≤ y
    le_q x y h = le_of_suc-le-suc (lt_of_mul-lt-mul_right b h)

    go : (o : Ordering) → CompareSays o (t * 2) b → nearest q o ≡ suc P
    go Ordering.lt h = le_antisymm (le_q q (suc P) (omega arith)) (le_q (suc P) q (omega arith))
    go Ordering.eq h = absurd (no (le_q (suc P) q (omega arith)) (le_q (suc q) (suc P) (omega arith)))
      where
        no : suc P ≤ q → suc q ≤ suc P → ⊥
        no x y = omega arith
    go Ordering.gt h = le_antisymm (le_q (suc q) (suc P) (omega arith)) (le_q (suc P) (suc q) (omega arith))

-- ---- `round` at R / den, where R is between the odd multiples 4 * P + 2 and 4 * P + 6 of e, and 4 * e is one unit of the last digit kept

module _ (R P k e den : ℕ) (E : 0 < e) (D : 0 < den) (scale : den * 2 ^ k ≡ 4 * e * 2 ^ 1074) where
  scaled : (a : ℕ) → a * 2 ^ k * den ≡ a * (4 * e) * 2 ^ 1074
  scaled a = mul_assoc a (2 ^ k) den ∙ ap (λ (y : ℕ). a * y) (mul_comm (2 ^ k) den ∙ scale) ∙ sym (mul_assoc a (4 * e) (2 ^ 1074))

  from : (a : ℕ) → a * (4 * e) ≤ R → a * 2 ^ k * den ≤ R * 2 ^ 1074
  from a h = le_trans (le_of_eq (scaled a)) (mul-le-mul_right (2 ^ 1074) h)

  under : (a : ℕ) → R < a * (4 * e) → R * 2 ^ 1074 < a * 2 ^ k * den
  under a h = lt_of_lt_of_le (mul-lt-mul_of_pos_right h (pow_pos 1074)) (le_of_eq (sym (scaled a)))

  places : 2 ^ 52 * (4 * e) ≤ R → R < 2 ^ 53 * (4 * e) → size (R * 2 ^ 1074 / den) - 53 ≡ k
  places h l =
      let v = R * 2 ^ 1074 / den in
      counted (size v) k
      (size_over v (52 + k) (le_trans (le_of_eq (pow-add 2 52 k)) ((le-div_iff_mul-le D).1 (from (2 ^ 52) h))))
      (size-le v (53 + k) (lt_of_lt_of_le ((div-lt_iff_lt-mul D).1 (under (2 ^ 53) l)) (le_of_eq (sym (pow-add 2 53 k)))))
    where
      counted : (z k : ℕ) → 52 + k < z → z ≤ 53 + k → z - 53 ≡ k
      counted z k h l = omega arith

  rounds_to : 2 ^ 52 * (4 * e) ≤ R → suc P < 2 ^ 53 → 2 * ((2 * P + 1) * e) < R → R < 2 * ((2 * P + 3) * e)
      → round binary64 false R den ≡ units binary64 false (suc P) k
  rounds_to h s lo hi =
      round_is binary64 false R den
      ∙ ap (λ (j : ℕ). units binary64 false (closest (R * 2 ^ 1074) (den * 2 ^ j)) j) (places h top)
      ∙ ap (λ (y : ℕ). units binary64 false y k)
      (closest_same (R * 2 ^ 1074) (den * 2 ^ k) R (4 * e) (mul-pos D (pow_pos k)) (omega (arith, E)) same
      ∙ closest_is R (4 * e) P (omega (arith, E)) (omega (arith, lo)) (omega (arith, hi)))
    where
      top : R < 2 ^ 53 * (4 * e)
      top = omega (arith, hi, mul-le-mul_right e s)

      same : R * 2 ^ 1074 * (4 * e) ≡ R * (den * 2 ^ k)
      same = mul_assoc R (2 ^ 1074) (4 * e) ∙ ap (λ (y : ℕ). R * y) (mul_comm (2 ^ 1074) (4 * e) ∙ sym scale)

-- ---- at twice the root of N * (2 * e) ^ 2, for an e that is a power of two

abbrev half : ℕ → ℕ
half k = 2 ^ (k + 1196)

far : (N P : ℕ) → NearRoot N (suc P) → 4 * N < (2 * P + 3) * (2 * P + 3)
far N P h = omega arith

nigh : (N P : ℕ) → NearRoot N (suc P) → (2 * P + 1) * (2 * P + 1) < 4 * N
nigh N P h = omega arith

four : (N e : ℕ) → N * (2 * e * (2 * e)) ≡ 4 * N * (e * e)
four N e = omega arith

above_root : (N e a : ℕ) → 0 < e → 4 * N < a * a → N * (2 * e * (2 * e)) < a * e * (a * e)
above_root N e a E h =
    lt_of_lt_of_le (lt_of_le_of_lt (le_of_eq (four N e)) (mul-lt-mul_of_pos_right h (mul-pos E E))) (le_of_eq (sym (mul-mul-mul_comm a e a e)))

under_root : (N e a : ℕ) → 0 < e → a * a < 4 * N → a * e * (a * e) < N * (2 * e * (2 * e))
under_root N e a E h =
    lt_of_le_of_lt (le_of_eq (mul-mul-mul_comm a e a e)) (lt_of_lt_of_le (mul-lt-mul_of_pos_right h (mul-pos E E)) (le_of_eq (sym (four N e))))

least_root : (N e : ℕ) → 2 ^ 104 ≤ N → 2 ^ 52 * (2 * e) * (2 ^ 52 * (2 * e)) ≤ N * (2 * e * (2 * e))
least_root N e h = le_trans (le_of_eq (mul-mul-mul_comm (2 ^ 52) (2 * e) (2 ^ 52) (2 * e))) (mul-le-mul_right (2 * e * (2 * e)) h)

scale_is : (k : ℕ) → 2 ^ 2272 * 2 ^ k ≡ 4 * half k * 2 ^ 1074
scale_is k =
    sym (pow-add 2 2272 k)
    ∙ ap (λ (y : ℕ). 2 ^ y) (sum k)
    ∙ pow-add 2 (2 + (k + 1196)) 1074
    ∙ ap (λ (y : ℕ). y * 2 ^ 1074) (pow-add 2 2 (k + 1196))
  where
    sum : (k : ℕ) → 2272 + k ≡ 2 + (k + 1196) + 1074
    sum k = omega arith

library_units : (M N k Q : ℕ) → M ≡ N * (2 * half k * (2 * half k)) → 2 ^ 104 ≤ N → NearRoot N Q → 2 ^ 52 ≤ Q → Q < 2 ^ 53
    → round binary64 false (root_twice M) (2 ^ 2272) ≡ units binary64 false Q k
library_units M N k zero s L near d h = absurd (none d)
  where
    none : 2 ^ 52 ≤ 0 → ⊥
    none d = omega arith
library_units M N k (suc P) s L near d h =
    let e = half k in
    let E = pow_pos (k + 1196) in
    let w = is_twice M in
    rounds_to (root_twice M) P k e (2 ^ 2272) E (pow_pos 2272) (scale_is k)
    (le_trans (le_of_eq (quarter (2 ^ 52) e)) (w.reach (2 ^ 52 * (2 * e)) (le_trans (least_root N e L) (le_of_eq (sym s)))))
    h
    (w.over ((2 * P + 1) * e) (lt_of_lt_of_le (under_root N e (2 * P + 1) E (nigh N P near)) (le_of_eq (sym s))))
    (w.under ((2 * P + 3) * e) (lt_of_le_of_lt (le_of_eq s) (above_root N e (2 * P + 3) E (far N P near))))
  where
    quarter : (a e : ℕ) → a * (4 * e) ≡ 2 * (a * (2 * e))
    quarter a e = omega arith

-- ---- the theorem

is_units : (m : ℕ) (e : ℤ) → T (fits binary64 (fin false (suc m) e)) → (n : ℕ) × IsUnits (fin false (suc m) e) n
unfolding is_finite
is_units m e f = (_, (refl, (finite_value (fin false (suc m) e) f tt).1))

some : (m : ℕ) (e : ℤ) (n : ℕ) → IsUnits (fin false (suc m) e) n → 0 < n
some m e n v = first_pos n (down e) (subst (λ (y : ℕ). 0 < y) v.1 (mul-pos (mul-pos (zero-lt-suc m) (up_pos e)) (pow_pos 1074)))

taken : (a n d N k : ℕ) → 0 < d → a * 2 ^ 1074 ≡ n * d → n * 2 ^ 1074 ≡ N * 4 ^ k → a * 2 ^ 4542 / d ≡ N * (2 * half k * (2 * half k))
taken a n d N k D v w =
    ap (λ (y : ℕ). y / d)
    (ap (λ (y : ℕ). a * y) (pow-add 2 1074 3468)
    ∙ sym (mul_assoc a (2 ^ 1074) (2 ^ 3468))
    ∙ ap (λ (y : ℕ). y * 2 ^ 3468) v
    ∙ mul_right_comm n d (2 ^ 3468))
    ∙ mul-div_cancel (n * 2 ^ 3468) D
    ∙ ap (λ (y : ℕ). n * y) (pow-add 2 1074 2394)
    ∙ sym (mul_assoc n (2 ^ 1074) (2 ^ 2394))
    ∙ ap (λ (y : ℕ). y * 2 ^ 2394) w
    ∙ mul_assoc N (4 ^ k) (2 ^ 2394)
    ∙ ap (λ (y : ℕ). N * y)
    (ap (λ (y : ℕ). y * 2 ^ 2394) (sym (four_pow k))
    ∙ sym (pow-add 2 (k + k) 2394)
    ∙ ap (λ (y : ℕ). 2 ^ y) (sum k)
    ∙ pow-add 2 (1 + (k + 1196)) (1 + (k + 1196))
    ∙ ap (λ (y : ℕ). y * y) (pow-add 2 1 (k + 1196)))
  where
    sum : (k : ℕ) → k + k + 2394 ≡ 1 + (k + 1196) + (1 + (k + 1196))
    sum k = omega arith

plain_zero : (s : Bool) (e : ℤ) → up e * down e ≡ 1 → fin s 0 (pos 0) ≡ fin s 0 e
plain_zero s (pos zero) h = refl
plain_zero s (pos (suc k)) h = absurd (no (2 ^ k) (sym (pow-succ' 2 k) ∙ sym (mul-one (2 ^ suc k)) ∙ h))
  where
    no : (y : ℕ) → 2 * y ≡ 1 → ⊥
    no y h = omega arith
plain_zero s (negsuc k) h = absurd (no (2 ^ k) (sym (pow-succ' 2 k) ∙ sym (one-mul (2 ^ suc k)) ∙ h))
  where
    no : (y : ℕ) → 2 * y ≡ 1 → ⊥
    no y h = omega arith

pub root_library : (x : Float) → T (fits binary64 x) → sqrt binary64 x ≡ root x
unfolding sqrt root fits
root_library nan f = refl
root_library (inf true) f = refl
root_library (inf false) f = refl
root_library (fin s zero e) f = plain_zero s e (eqb→eq (up e * down e) 1 f)
root_library (fin true (suc m) e) f = refl
root_library (fin false (suc m) e) f =
    let x = fin false (suc m) e in
    let v = is_units m e f in
    let w = is_rounded x v.0 f v.1 (some m e v.0 v.1) in
    library_units (suc m * up e * 2 ^ 4542 / down e) w.N w.k w.Q (taken (suc m * up e) v.0 (down e) w.N w.k (down_pos e) v.1.1 w.same) w.least w.near w.digits w.short
    ∙ sym w.rounds
