-- The root of s * 2 ^ 52 digit by digit: one turn of the loop of `slow`, on plain numbers. Assumes nothing.
use Rattle.std.proofs.Common.{◌≡◌, ℕ, zero, suc, ◌+◌, ◌-◌, ◌*◌, ◌/◌, ◌%◌, ◌^◌, ◌<◌, ◌≤◌, ap, ◌∙◌, lt_of_lt_of_le, mul_left_comm, add-one, arith, pow_mono}
use native.Mathlib.Nat.{pow-succ'}
use Rattle.numbers.specs.Root.{NearRoot}

-- root ^ 2 + rem is what has come down of s * 2 ^ 52 in i turns, and rest is what is left, moved up
pub record Turn (s i root rem rest : ℕ) : Type 0 where
  pub whole : (root * root + rem) * 2 ^ 54 + rest ≡ s * 4 ^ i
  pub small : rem ≤ 2 * root
  pub short : root < 2 ^ i
  pub left : rest < 2 ^ 54

pub more : (s i : ℕ) → s * 4 ^ (i + 1) ≡ 4 * (s * 4 ^ i)
more s i = ap (λ (k : ℕ). s * 4 ^ k) (add-one i) ∙ ap (λ (x : ℕ). s * x) (pow-succ' 4 i) ∙ mul_left_comm s 4 (4 ^ i)

twice : (i : ℕ) → 2 ^ (i + 1) ≡ 2 * 2 ^ i
twice i = ap (λ (k : ℕ). 2 ^ k) (add-one i) ∙ pow-succ' 2 i

pub turn_zero : (s i root rem rest : ℕ) → Turn s i root rem rest → rem * 4 + rest / 2 ^ 52 < root * 4 + 1
    → Turn s (i + 1) (root * 2) (rem * 4 + rest / 2 ^ 52) (rest % 2 ^ 52 * 4)
turn_zero s i root rem rest t h = record {
  whole = omega (arith, more s i);
  small = omega arith;
  short = omega (arith, twice i);
  left = omega arith;
}

pub turn_one : (s i root rem rest : ℕ) → Turn s i root rem rest → root * 4 + 1 ≤ rem * 4 + rest / 2 ^ 52
    → Turn s (i + 1) (root * 2 + 1) (rem * 4 + rest / 2 ^ 52 - (root * 4 + 1)) (rest % 2 ^ 52 * 4)
turn_one s i root rem rest t h = record {
  whole = omega (arith, more s i);
  small = omega arith;
  short = omega (arith, twice i);
  left = omega arith;
}

pub short_lt : (i root : ℕ) → i ≤ 53 → root < 2 ^ i → root < 2 ^ 53
short_lt i root h k = lt_of_lt_of_le k (pow_mono h)

-- after 53 turns all has come down
pub all : (s root rem rest : ℕ) → Turn s 53 root rem rest → root * root + rem ≡ s * 2 ^ 52
all s root rem rest t = go (root * root + rem) t.whole t.left
  where
    go : (p : ℕ) → p * 2 ^ 54 + rest ≡ s * 4 ^ 53 → rest < 2 ^ 54 → p ≡ s * 2 ^ 52
    go p e h = omega arith

pub near_this : (n root rem : ℕ) → root * root + rem ≡ n → 0 < n → rem ≤ 2 * root → rem ≤ root → NearRoot n root
near_this n zero rem e p h k = absurd (no n rem e p h)
  where
    no : (n rem : ℕ) → 0 * 0 + rem ≡ n → 0 < n → rem ≤ 2 * 0 → ⊥
    no n rem e p h = omega arith
near_this n (suc root) rem e p h k = record { below = omega arith; above = omega arith }

pub near_next : (n root rem : ℕ) → root * root + rem ≡ n → rem ≤ 2 * root → root < rem → NearRoot n (root + 1)
near_next n root rem e h k = record { below = omega arith; above = omega arith }
