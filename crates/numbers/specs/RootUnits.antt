-- How `root` and `root_units` round: √(N * 4 ^ k) units, for an N of 105 or 106 digits, are Q * 2 ^ k units, where Q is the whole
-- number nearest to √N. Assumes nothing.
use Rattle.std.specs.Prelude.{◌≡◌, ℕ, zero, suc, ◌+◌, ◌-◌, ◌*◌, ◌/◌, ◌%◌, ◌^◌, ◌<◌, ◌≤◌, true, false, ◌≢◌, nat_lt, refl, Float}
use Rattle.std.proofs.Common.{sym, ap, ◌∙◌, subst, true≢false, le_trans, le_of_eq, le_of_suc-le-suc, lt_of_lt_of_le, lt_of_not-le, lt_irrefl, not-le_of_lt, zero-mul, mul_assoc, mul-pos, mul_right_comm, mul-div_cancel, mul-le-mul_right, mul-lt-mul_of_pos_right, arith, lt→ltb, pow-add, pow_mono, shl_lt}
use Rattle.std.proofs.lemmas.Bool.{false≢true}
use Prim.Native.Nat.{compare}
use Rattle.std.proofs.Math.Nat.{pow-succ'}
use Rattle.std.specs.Float.{nan, inf, fin, binary64}
use Rattle.std.specs.Float.Ieee.{up, down, odd, size, nearest, units}
use Rattle.std.specs.Float.Ieee.Bits.{is_true}
use Rattle.std.specs.Float.Ieee.Digits.{size-lt, size-le}
use Rattle.std.specs.Float.Ieee.Exact.{HasValue}
use Rattle.std.specs.Float.Ieee.Fits.{down_pos}
use Rattle.numbers.specs.Root.{root_size, isqrt, root_units, root, NearRoot}
use Rattle.numbers.specs.Isqrt.{four_pow, four_pos, near_unique, picked, picked_near}

-- ---- `root` by the units of a value

no_zero : (a d : ℕ) → 0 < a → 0 < d → 0 ≢ a * d
no_zero a d h k e = lt_irrefl 0 (subst (λ (x : ℕ). 0 < x) (sym e) (mul-pos h k))

-- a zero has no units
pub no_zero_units : (a d u : ℕ) → 0 < d → 0 * u * 2 ^ 1074 ≡ a * d → 0 < a → ⊥
no_zero_units a d u D e h = no_zero a d h D (sym (ap (λ (z : ℕ). z * 2 ^ 1074) (zero-mul u) ∙ zero-mul (2 ^ 1074)) ∙ e)

pub root_value : (x : Float) (a : ℕ) → HasValue x false a (2 ^ 1074) → 0 < a → root x ≡ root_units (a * 2 ^ 1074)
unfolding root
root_value nan a v h = absurd v
root_value (inf s) a v h = absurd v
root_value (fin s zero e) a v h = absurd (no_zero_units a (down e) (up e) (down_pos e) v.1 h)
root_value (fin true (suc m) e) a v h = absurd (true≢false v.0)
root_value (fin false (suc m) e) a v h =
    ap (λ (y : ℕ). root_units (y / down e))
    (ap (λ (y : ℕ). suc m * up e * y) (pow-add 2 1074 1074)
    ∙ sym (mul_assoc (suc m * up e) (2 ^ 1074) (2 ^ 1074))
    ∙ ap (λ (y : ℕ). y * 2 ^ 1074) v.1
    ∙ mul_right_comm a (down e) (2 ^ 1074))
    ∙ ap root_units (mul-div_cancel (a * 2 ^ 1074) (down_pos e))

pub root_minus : (x : Float) (a : ℕ) → HasValue x true a (2 ^ 1074) → 0 < a → root x ≡ nan
unfolding root
root_minus nan a v h = absurd v
root_minus (inf s) a v h = absurd v
root_minus (fin s zero e) a v h = absurd (no_zero_units a (down e) (up e) (down_pos e) v.1 h)
root_minus (fin false (suc m) e) a v h = absurd (false≢true v.0)
root_minus (fin true (suc m) e) a v h = refl

-- ---- `root_units` of N * 4 ^ k

pub size_over : (n j : ℕ) → 2 ^ j ≤ n → j < size n
size_over n j h = lt_of_not-le (λ (g : size n ≤ j). not-le_of_lt (size-lt n) (le_trans (pow_mono g) h))

shifted : (j k : ℕ) → 2 ^ (j + (k + k)) ≡ 2 ^ j * 4 ^ k
shifted j k = pow-add 2 j (k + k) ∙ ap (λ (x : ℕ). 2 ^ j * x) (four_pow k)

-- k digits of the root are dropped
dropped : (N k : ℕ) → 2 ^ 104 ≤ N → N < 2 ^ 106 → root_size (N * 4 ^ k) - 53 ≡ k
dropped N k lo hi =
    halved (size (N * 4 ^ k)) k
    (size_over (N * 4 ^ k) (104 + (k + k)) (le_trans (le_of_eq (shifted 104 k)) (mul-le-mul_right (4 ^ k) lo)))
    (size-le (N * 4 ^ k) (106 + (k + k)) (lt_of_lt_of_le (mul-lt-mul_of_pos_right hi (four_pos k)) (le_of_eq (sym (shifted 106 k)))))
  where
    halved : (z k : ℕ) → 104 + (k + k) < z → z ≤ 106 + (k + k) → (z + 1) / 2 - 53 ≡ k
    halved z k a b = omega arith

-- `root_units n`, with k digits dropped, from the whole number m whose root is kept
abbrev keeping : ℕ → ℕ → ℕ → Float
keeping n k m = let q = isqrt m in units binary64 false (nearest q (compare (4 * n) ((2 * q + 1) * (2 * q + 1) * 4 ^ k))) k

root_units_is : (n k : ℕ) → root_size n - 53 ≡ k → root_units n ≡ keeping n k (n / 4 ^ k)
unfolding root_units
root_units_is n k e = ap (λ (j : ℕ). keeping n j (n / 4 ^ j)) e

pub root_near : (N k Q : ℕ) → 2 ^ 104 ≤ N → N < 2 ^ 106 → NearRoot N Q → root_units (N * 4 ^ k) ≡ units binary64 false Q k
root_near N k Q lo hi near =
    let c = 4 ^ k in
    root_units_is (N * c) k (dropped N k lo hi)
    ∙ ap (keeping (N * c) k) (mul-div_cancel N (four_pos k))
    ∙ ap (λ (y : ℕ). units binary64 false y k) (near_unique N (picked N c) Q (picked_near N c (omega arith) (four_pos k)) near)

-- ---- N is s * 2 ^ 52: s are the digits of a normal double, doubled where the power of two is odd

-- sig * 2 ^ 52 * 2 ^ p is s * 2 ^ 52 times an even power of two
pub record Split (sig p s : ℕ) : Type 0 where
  pub least : 2 ^ 52 ≤ s
  pub most : s ≤ 2 ^ 54 - 2
  pub same : sig * 2 ^ 52 * 2 ^ p ≡ s * 2 ^ 52 * 4 ^ (p / 2)

pub split_even : (sig p : ℕ) → 2 ^ 52 ≤ sig → sig < 2 ^ 53 → p % 2 ≡ 0 → Split sig p sig
split_even sig p a b h = record {
  least = a;
  most = omega arith;
  same = ap (λ (x : ℕ). sig * 2 ^ 52 * x) (ap (λ (x : ℕ). 2 ^ x) (e p h) ∙ four_pow (p / 2));
}
  where
    e : (p : ℕ) → p % 2 ≡ 0 → p ≡ p / 2 + p / 2
    e p h = omega arith

pub split_odd : (sig p : ℕ) → 2 ^ 52 ≤ sig → sig < 2 ^ 53 → (p % 2 ≢ 0) → Split sig p (sig * 2)
split_odd sig p a b h = record {
  least = omega arith;
  most = omega arith;
  same =
      ap (λ (x : ℕ). sig * 2 ^ 52 * x) (ap (λ (x : ℕ). 2 ^ x) (e p h) ∙ pow-succ' 2 (p / 2 + p / 2) ∙ ap (λ (x : ℕ). 2 * x) (four_pow (p / 2)))
      ∙ shift (4 ^ (p / 2));
}
  where
    e : (p : ℕ) → (p % 2 ≢ 0) → p ≡ suc (p / 2 + p / 2)
    e p h = omega arith

    shift : (c : ℕ) → sig * 2 ^ 52 * (2 * c) ≡ sig * 2 * 2 ^ 52 * c
    shift c = omega arith

-- the nearest number has 53 digits
at_least : (s Q : ℕ) → 2 ^ 52 ≤ s → NearRoot (s * 2 ^ 52) Q → 2 ^ 52 ≤ Q
at_least s Q h n = le_of_suc-le-suc (lt_of_not-le (λ (g : suc Q ≤ 2 ^ 52). no (le_of_suc-le-suc g)))
  where
    no : Q ≤ 2 ^ 52 - 1 → ⊥
    no g = omega (arith, mul-le-mul_right Q g)

below : (s Q : ℕ) → s ≤ 2 ^ 54 - 2 → NearRoot (s * 2 ^ 52) Q → Q < 2 ^ 53
below s Q h n = lt_of_not-le (λ (g : 2 ^ 53 ≤ Q). no g)
  where
    no : 2 ^ 53 ≤ Q → ⊥
    no g = omega (arith, mul-le-mul_right Q g)

-- the digits Q and the place k of the root
pub record RootRounds (n Q k : ℕ) : Type 0 where
  pub is : root_units n ≡ units binary64 false Q k
  pub small : k < 2046
  pub reach : 2 ^ 52 ≤ Q
  pub under : Q < 2 ^ 53

pub rounds : (sig p s Q : ℕ) → p ≤ 3067 → Split sig p s → NearRoot (s * 2 ^ 52) Q → RootRounds (sig * 2 ^ 52 * 2 ^ p) Q (p / 2)
rounds sig p s Q h k n =
    let a = k.least in
    let b = k.most in
    record {
      is = ap root_units k.same ∙ root_near (s * 2 ^ 52) (p / 2) Q (omega arith) (omega arith) n;
      small = omega arith;
      reach = at_least s Q a n;
      under = below s Q b n;
    }

-- such digits at such a place are no infinity
pub below_top : (q k : ℕ) → k < 2046 → q < 2 ^ 53 → q * 2 ^ k < 2 ^ 2098
below_top q k h l = lt_of_lt_of_le (shl_lt 53 k l) (pow_mono room)
  where
    room : 53 + k ≤ 2098
    room = omega arith

pub units_odd : (q k : ℕ) → q * 2 ^ k < 2 ^ 2098 → units binary64 false q k ≡ odd 54 false q k 1074
unfolding units
units_odd q k h = rw (is_true (nat_lt (q * 2 ^ k) (2 ^ 2098)) (lt→ltb (q * 2 ^ k) (2 ^ 2098) h))
