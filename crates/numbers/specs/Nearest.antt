-- `root x` is the double nearest to the exact root of x, with no tie: `nearest_root_lem`, at the end. Values are counted in units of the
-- smallest double above 0, 2 ^ -1074: if x is n units, its exact root is √(n * 2 ^ 1074) units, and everything is said in squares of
-- whole numbers. Assumes nothing.
use Rattle.std.specs.Prelude.{◌≡◌, ℕ, zero, suc, ◌+◌, ◌-◌, ◌*◌, ◌/◌, ◌%◌, ◌^◌, ◌<◌, ◌≤◌, Bool, true, false, not, ◌&&◌, T, leb, ◌⊎◌, ℤ, pos, negsuc, nat_eq, nat_le, nat_lt, refl, Float}
use Rattle.std.proofs.Common.{sym, ap, ◌∙◌, subst, inl, inr, le_trans, le_of_eq, le_of_lt, le_of_suc-le-suc, lt_of_lt_of_le, lt_of_le_of_lt, lt_of_not-le, lt_irrefl, not-le_of_lt, eq-or-lt_of_le, zero-lt-suc, mul-one, zero-mul, mul_assoc, mul_right_comm, mul-pos, mul-le-mul, mul-le-mul_right, mul-lt-mul_of_pos_right, lt_of_mul-lt-mul_right, arith, lit≤, leb→le, ltb→lt, pow_pos, pow_mono, pow-add, shl_lt}
use Rattle.std.proofs.Math.Nat.{mul-mul-mul_comm, eq_of_mul-eq-mul_right}
use Rattle.std.proofs.Math.Dec.{nleb→lt}
use Rattle.std.proofs.Math.Pow.{pow-lt}
use Rattle.std.specs.Float.{nan, inf, fin, binary64}
use Rattle.std.specs.Float.Ieee.{up, down, size, units, fits}
use Rattle.std.specs.Float.Ieee.Digits.{size-lt, size-le, size_reaches}
use Rattle.std.specs.Float.Ieee.Exact.{HasValue, units_val}
use Rattle.std.specs.Float.Ieee.Fits.{down_pos, up_pos, odd-fits, and_l, and_r}
use Rattle.std.specs.Float.Ieee.Positive.{first_pos}
use Rattle.numbers.specs.Root.{root_units, root, NearRoot}
use Rattle.numbers.specs.Isqrt.{four_is, four_pos, picked, picked_near}
use Rattle.numbers.specs.RootUnits.{no_zero_units, root_value, Split, split_even, split_odd, rounds, below_top, units_odd}

-- x is n units, and has no minus sign
abbrev pub IsUnits : Float → ℕ → Type 0
IsUnits x n = HasValue x false n (2 ^ 1074)

-- ---- a double is m * 2 ^ j units, with m below 2 ^ 53

pub record Representable (n : ℕ) : Type 0 where
  pub m : ℕ
  pub j : ℕ
  pub is : n ≡ m * 2 ^ j
  pub small : m < 2 ^ 53
  pub top : n < 2 ^ 2098

pub exponent_le : (a l : ℕ) → 2 ^ a ≤ 2 ^ l → a ≤ l
exponent_le a l h = le_of_suc-le-suc (lt_of_not-le (λ (g : suc l ≤ a). lt_irrefl (2 ^ l) (lt_of_lt_of_le (pow-lt g) h)))

whole_up : (m a n : ℕ) → m * 2 ^ a * 2 ^ 1074 ≡ n * 1 → n ≡ m * 2 ^ (a + 1074)
whole_up m a n h = sym (mul-one n) ∙ sym h ∙ mul_assoc m (2 ^ a) (2 ^ 1074) ∙ ap (λ (y : ℕ). m * y) (sym (pow-add 2 a 1074))

whole_down : (m a n : ℕ) → suc a ≤ 1074 → m * 1 * 2 ^ 1074 ≡ n * 2 ^ suc a → n ≡ m * 2 ^ (1074 - suc a)
whole_down m a n l h =
    eq_of_mul-eq-mul_right (2 ^ suc a) (pow_pos (suc a)) n (m * 2 ^ (1074 - suc a))
    (sym h
    ∙ ap (λ (y : ℕ). y * 2 ^ 1074) (mul-one m)
    ∙ ap (λ (y : ℕ). m * 2 ^ y) e
    ∙ ap (λ (y : ℕ). m * y) (pow-add 2 (1074 - suc a) (suc a))
    ∙ sym (mul_assoc m (2 ^ (1074 - suc a)) (2 ^ suc a)))
  where
    e : 1074 ≡ 1074 - suc a + suc a
    e = omega arith

under_top : (v d n : ℕ) → v < 2 ^ 1024 * d → v * 2 ^ 1074 ≡ n * d → n < 2 ^ 2098
under_top v d n h e =
    let t : 2 ^ 1024 * d * 2 ^ 1074 ≡ 2 ^ 2098 * d = mul_right_comm (2 ^ 1024) d (2 ^ 1074) ∙ ap (λ (y : ℕ). y * d) (sym (pow-add 2 1024 1074)) in
    lt_of_mul-lt-mul_right d (lt_of_le_of_lt (le_of_eq (sym e)) (lt_of_lt_of_le (mul-lt-mul_of_pos_right h (pow_pos 1074)) (le_of_eq t)))

pub digits_of : (x : Float) (n : ℕ) → T (fits binary64 x) → IsUnits x n → Representable n
unfolding fits
digits_of nan n f v = absurd v
digits_of (inf s) n f v = absurd v
digits_of (fin s zero e) zero f v = record { m = 0; j = 0; is = refl; small = pow_pos 53; top = pow_pos 2098 }
digits_of (fin s zero e) (suc n) f v = absurd (no_zero_units (suc n) (down e) (up e) (down_pos e) v.1 (zero-lt-suc n))
digits_of (fin s (suc m) e) n f v =
    let A = nat_eq (suc m % 2) 1 in
    let B = nat_lt (suc m) (2 ^ 53) in
    let C = leb (down e) (2 ^ 1074) in
    let D = nat_lt (suc m * up e) (2 ^ 1024 * down e) in
    go e v.1 (leb→le (down e) (2 ^ 1074) (and_r (A && B) C (and_l (A && B && C) D f)))
    (ltb→lt (suc m) (2 ^ 53) (and_r A B (and_l (A && B) C (and_l (A && B && C) D f))))
    (under_top (suc m * up e) (down e) n (ltb→lt (suc m * up e) (2 ^ 1024 * down e) (and_r (A && B && C) D f)) v.1)
  where
    go : (e : ℤ) → suc m * up e * 2 ^ 1074 ≡ n * down e → down e ≤ 2 ^ 1074 → suc m < 2 ^ 53 → n < 2 ^ 2098 → Representable n
    go (pos a) h c b t = record { m = suc m; j = a + 1074; is = whole_up (suc m) a n h; small = b; top = t }
    go (negsuc a) h c b t = record { m = suc m; j = 1074 - suc a; is = whole_down (suc m) a n (exponent_le (suc a) 1074 c) h; small = b; top = t }

-- from 2 ^ (52 + k) units on there are only multiples of 2 ^ k
multiple : (n k : ℕ) → Representable n → 2 ^ (52 + k) ≤ n → (B : ℕ) × (n ≡ B * 2 ^ k)
multiple n k d h =
    let m = d.m in
    let j = d.j in
    let J : k ≤ j = le_of_suc-le-suc (lt_of_not-le (λ (g : suc j ≤ k). not-le_of_lt (under m j g d.small d.is) h)) in (
      m * 2 ^ (j - k),
      d.is ∙ ap (λ (y : ℕ). m * 2 ^ y) (back j k J) ∙ ap (λ (y : ℕ). m * y) (pow-add 2 (j - k) k) ∙ sym (mul_assoc m (2 ^ (j - k)) (2 ^ k)),
    )
  where
    more : (j : ℕ) → suc j ≤ k → 53 + j ≤ 52 + k
    more j g = omega arith

    under : (m j : ℕ) → suc j ≤ k → m < 2 ^ 53 → n ≡ m * 2 ^ j → n < 2 ^ (52 + k)
    under m j g b e = rw e (lt_of_lt_of_le (shl_lt 53 j b) (pow_mono (more j g)))

    back : (j k : ℕ) → k ≤ j → j ≡ j - k + k
    back j k h = omega arith

-- ---- n * 2 ^ 1074 is sig * 2 ^ 52 * 2 ^ p, with a sig of 53 digits

record Normal (n : ℕ) : Type 0 where
  sig : ℕ
  p : ℕ
  reach : 2 ^ 52 ≤ sig
  under : sig < 2 ^ 53
  low : p ≤ 3067
  same : n * 2 ^ 1074 ≡ sig * 2 ^ 52 * 2 ^ p

normalize : (n : ℕ) → 0 < n → Representable n → Normal n
normalize n h d =
    let m = d.m in
    let M : 0 < m = first_pos m (2 ^ d.j) (lt_of_lt_of_le h (le_of_eq d.is)) in
    let Z : 0 < size m = lt_of_not-le (λ (g : size m ≤ 0). not-le_of_lt (size-lt m) (le_trans (pow_mono g) M)) in
    go m d.j (size m) Z (size-le m 53 d.small) (size_reaches m (size m - 1) (before (size m) Z)) (size-lt m) d.is
  where
    before : (z : ℕ) → 0 < z → z - 1 < z
    before z h = omega arith

    low_part : (z : ℕ) → 0 < z → z ≤ 53 → z - 1 + (53 - z) ≡ 52
    low_part z h k = omega arith

    high_part : (z : ℕ) → z ≤ 53 → z + (53 - z) ≡ 53
    high_part z k = omega arith

    all : (j z : ℕ) → z ≤ 53 → j + 1074 ≡ 53 - z + (52 + (j + z + 969))
    all j z k = omega arith

    cap : (j z : ℕ) → 0 < z → z - 1 + j < 2098 → j + z + 969 ≤ 3067
    cap j z h k = omega arith

    go : (m j z : ℕ) → 0 < z → z ≤ 53 → 2 ^ (z - 1) ≤ m → m < 2 ^ z → n ≡ m * 2 ^ j → Normal n
    go m j z Z K lo hi e =
        let reached : 2 ^ (z - 1 + j) ≤ n = le_trans (le_of_eq (pow-add 2 (z - 1) j)) (le_trans (mul-le-mul_right (2 ^ j) lo) (le_of_eq (sym e))) in
        record {
          sig = m * 2 ^ (53 - z);
          p = j + z + 969;
          reach = le_trans (le_of_eq (sym (ap (λ (y : ℕ). 2 ^ y) (low_part z Z K)) ∙ pow-add 2 (z - 1) (53 - z))) (mul-le-mul_right (2 ^ (53 - z)) lo);
          under =
              lt_of_lt_of_le (mul-lt-mul_of_pos_right hi (pow_pos (53 - z)))
              (le_of_eq (sym (pow-add 2 z (53 - z)) ∙ ap (λ (y : ℕ). 2 ^ y) (high_part z K)));
          low = cap j z Z (lt_of_not-le (λ (g : 2098 ≤ z - 1 + j). not-le_of_lt d.top (le_trans (pow_mono g) reached)));
          same =
              ap (λ (y : ℕ). y * 2 ^ 1074) e
              ∙ mul_assoc m (2 ^ j) (2 ^ 1074)
              ∙ ap (λ (y : ℕ). m * y)
              (sym (pow-add 2 j 1074)
              ∙ ap (λ (y : ℕ). 2 ^ y) (all j z K)
              ∙ pow-add 2 (53 - z) (52 + (j + z + 969))
              ∙ ap (λ (y : ℕ). 2 ^ (53 - z) * y) (pow-add 2 52 (j + z + 969)))
              ∙ sym (mul_assoc m (2 ^ (53 - z)) (2 ^ 52 * 2 ^ (j + z + 969)))
              ∙ sym (mul_assoc (m * 2 ^ (53 - z)) (2 ^ 52) (2 ^ (j + z + 969)));
        }

either_split : (sig p : ℕ) → 2 ^ 52 ≤ sig → sig < 2 ^ 53 → (s : ℕ) × Split sig p s
either_split sig p a b = go (p % 2) refl
  where
    go : (r : ℕ) → p % 2 ≡ r → (s : ℕ) × Split sig p s
    go zero e = (sig, split_even sig p a b e)
    go (suc r) e = (sig * 2, split_odd sig p a b (λ (z : p % 2 ≡ 0). no (sym e ∙ z)))
      where
        no : suc r ≡ 0 → ⊥
        no z = omega arith

-- ---- n * 2 ^ 1074 is N * 4 ^ k, and the root is Q * 2 ^ k units, where Q is the whole number nearest to √N

pub record Rounded (x : Float) (n : ℕ) : Type 0 where
  pub N : ℕ
  pub k : ℕ
  pub Q : ℕ
  pub same : n * 2 ^ 1074 ≡ N * 4 ^ k
  pub least : 2 ^ 104 ≤ N
  pub near : NearRoot N Q
  pub digits : 2 ^ 52 ≤ Q
  pub short : Q < 2 ^ 53
  pub rounds : root x ≡ units binary64 false Q k
  pub value : IsUnits (root x) (Q * 2 ^ k)
  pub held : T (fits binary64 (root x))

units_fits : (q k : ℕ) → q < 2 ^ 53 → q * 2 ^ k < 2 ^ 2098 → T (fits binary64 (units binary64 false q k))
units_fits q k h t = rw (units_odd q k t) (odd-fits binary64 54 false q k (omega arith) (le_of_lt h) t)

pub is_rounded : (x : Float) (n : ℕ) → T (fits binary64 x) → IsUnits x n → 0 < n → Rounded x n
is_rounded x n f v h =
    let w = normalize n h (digits_of x n f v) in
    let sp = either_split w.sig w.p w.reach w.under in
    let k = w.p / 2 in
    let N = sp.0 * 2 ^ 52 in
    let lo = sp.1.least in
    let L : 2 ^ 104 ≤ N = omega arith in
    let Q = picked N 1 in
    let near = picked_near N 1 (omega arith) (pow_pos 0) in
    let r = rounds w.sig w.p sp.0 Q w.low sp.1 near in
    let top = below_top Q k r.small r.under in
    let e : root x ≡ units binary64 false Q k = root_value x n v h ∙ ap root_units w.same ∙ r.is in
    record {
      N = N;
      k = k;
      Q = Q;
      same = w.same ∙ sp.1.same;
      least = L;
      near = near;
      digits = r.reach;
      short = r.under;
      rounds = e;
      value = subst (λ (y : Float). IsUnits y (Q * 2 ^ k)) (sym e) (units_val binary64 false Q k top);
      held = subst (λ (y : Float). T (fits binary64 y)) (sym e) (units_fits Q k r.under top);
    }

-- ---- how near, as a bound on the squares: what the layer on rounding asks of a root

pub record Rooted (y : Float) (N : ℕ) : Type 0 where
  pub L : ℕ
  pub val : IsUnits y L
  pub lower : 9999 * N ≤ 10000 * (L * L)
  pub upper : L * L ≤ 2 * N

times : (a U c : ℕ) → U * U ≡ c → a * U * (a * U) ≡ a * a * c
times a U c e = mul-mul-mul_comm a U a U ∙ ap (λ (y : ℕ). a * a * y) e

module _ (N Q c : ℕ) (near : NearRoot N Q) (large : 10000 ≤ Q) where
  lower : 9999 * (N * c) ≤ 10000 * (Q * Q * c)
  lower = le_trans (le_of_eq (sym (mul_assoc 9999 N c))) (le_trans (mul-le-mul_right c go) (le_of_eq (mul_assoc 10000 (Q * Q) c)))
    where
      go : 9999 * N ≤ 10000 * (Q * Q)
      go = omega (arith, mul-le-mul_right Q large)

  upper : Q * Q * c ≤ 2 * (N * c)
  upper = le_trans (mul-le-mul_right c go) (le_of_eq (mul_assoc 2 N c))
    where
      go : Q * Q ≤ 2 * N
      go = omega (arith, mul-le-mul_right Q large)

root_zero : (x : Float) → IsUnits x 0 → root x ≡ x
unfolding root
root_zero nan v = refl
root_zero (inf s) v = absurd v
root_zero (fin s zero e) v = refl
root_zero (fin s (suc m) e) v = absurd (no v.1)
  where
    no : suc m * up e * 2 ^ 1074 ≡ 0 * down e → ⊥
    no h = lt_irrefl 0 (subst (λ (z : ℕ). 0 < z) (h ∙ zero-mul (down e)) (mul-pos (mul-pos (zero-lt-suc m) (up_pos e)) (pow_pos 1074)))

pub root_units_law : (x : Float) → T (fits binary64 x) → (n : ℕ) → IsUnits x n → Rooted (root x) (n * 2 ^ 1074)
root_units_law x f zero v = record { L = 0; val = subst (λ (z : Float). IsUnits z 0) (sym (root_zero x v)) v; lower = lit≤ tt; upper = lit≤ tt }
root_units_law x f (suc n) v =
    let w = is_rounded x (suc n) f v (zero-lt-suc n) in
    let square = times w.Q (2 ^ w.k) (4 ^ w.k) (sym (four_is w.k)) in
    let large = le_trans (lit≤ tt) w.digits in
    record {
      L = w.Q * 2 ^ w.k;
      val = w.value;
      lower = rw (w.same, square) (lower w.N w.Q (4 ^ w.k) w.near large);
      upper = rw (w.same, square) (upper w.N w.Q (4 ^ w.k) w.near large);
    }

-- ---- no other double is as near

far : (N Q : ℕ) → NearRoot N Q → 4 * N < (2 * Q + 1) * (2 * Q + 1)
far N Q h = omega arith

nigh : (N Q : ℕ) → NearRoot N (suc Q) → (2 * Q + 1) * (2 * Q + 1) < 4 * N
nigh N Q h = omega arith

-- a multiple of U above Q * U
step_over : (N Q U c B : ℕ) → U * U ≡ c → 0 < c → NearRoot N Q → Q < B → 4 * (N * c) < (Q * U + B * U) * (Q * U + B * U)
step_over N Q U c B e C near h =
    let l : (2 * Q + 1) * U ≤ Q * U + B * U = omega (arith, mul-le-mul_right U h) in
    lt_of_lt_of_le (lt_of_le_of_lt (le_of_eq (sym (mul_assoc 4 N c))) (mul-lt-mul_of_pos_right (far N Q near) C))
    (le_trans (le_of_eq (sym (times (2 * Q + 1) U c e))) (mul-le-mul l l))

-- b is at least one step of U below
step_under : (N P U c b : ℕ) → U * U ≡ c → 0 < c → NearRoot N (suc P) → b ≤ P * U → (suc P * U + b) * (suc P * U + b) < 4 * (N * c)
step_under N P U c b e C near h =
    let l : suc P * U + b ≤ (2 * P + 1) * U = omega arith in
    lt_of_le_of_lt (mul-le-mul l l)
    (lt_of_le_of_lt (le_of_eq (times (2 * P + 1) U c e)) (lt_of_lt_of_le (mul-lt-mul_of_pos_right (nigh N P near) C) (le_of_eq (mul_assoc 4 N c))))

-- below the least number of 53 digits, where the steps are finer
least_under : (N U c b : ℕ) → U * U ≡ c → 2 ^ 104 ≤ N → b < 2 ^ 52 * U → (2 ^ 52 * U + b) * (2 ^ 52 * U + b) < 4 * (N * c)
least_under N U c b e L h =
    let l : suc (2 ^ 52 * U + b) ≤ 2 ^ 53 * U = omega arith in
    let four_L : 2 ^ 53 * 2 ^ 53 ≤ 4 * N = omega arith in
    lt_of_lt_of_le (more (2 ^ 52 * U + b) (mul-le-mul l l))
    (le_trans (le_of_eq (times (2 ^ 53) U c e)) (le_trans (mul-le-mul_right c four_L) (le_of_eq (mul_assoc 4 N c))))
  where
    more : (a : ℕ) {d : ℕ} → suc a * suc a ≤ d → a * a < d
    more a h = omega arith

under_all : (N Q k b : ℕ) → NearRoot N Q → 2 ^ 104 ≤ N → 2 ^ 52 ≤ Q → Representable b → b < Q * 2 ^ k → (Q * 2 ^ k + b) * (Q * 2 ^ k + b) < 4 * (N * 4 ^ k)
under_all N zero k b near L D d h = absurd (none D)
  where
    none : 2 ^ 52 ≤ 0 → ⊥
    none D = omega arith
under_all N (suc P) k b near L D d h = go (nat_le (2 ^ (52 + k)) b) (leb→le (2 ^ (52 + k)) b) (nleb→lt (2 ^ (52 + k)) b)
  where
    e : 2 ^ k * 2 ^ k ≡ 4 ^ k
    e = sym (four_is k)

    at : (2 ^ 52 ≡ suc P) ⊎ (2 ^ 52 < suc P) → b < 2 ^ 52 * 2 ^ k → (suc P * 2 ^ k + b) * (suc P * 2 ^ k + b) < 4 * (N * 4 ^ k)
    at (inl q) l = subst (λ (y : ℕ). (y * 2 ^ k + b) * (y * 2 ^ k + b) < 4 * (N * 4 ^ k)) q (least_under N (2 ^ k) (4 ^ k) b e L l)
    at (inr q) l = step_under N P (2 ^ k) (4 ^ k) b e (four_pos k) near (le_trans (le_of_lt l) (mul-le-mul_right (2 ^ k) (le_of_suc-le-suc q)))

    go : (t : Bool) → (T t → 2 ^ (52 + k) ≤ b) → (T (not t) → b < 2 ^ (52 + k)) → (suc P * 2 ^ k + b) * (suc P * 2 ^ k + b) < 4 * (N * 4 ^ k)
    go true y z =
        let m = multiple b k d (y tt) in
        let fewer : m.0 < suc P = lt_of_mul-lt-mul_right (2 ^ k) (lt_of_le_of_lt (le_of_eq (sym m.1)) h) in
        step_under N P (2 ^ k) (4 ^ k) b e (four_pos k) near (le_trans (le_of_eq m.1) (mul-le-mul_right (2 ^ k) (le_of_suc-le-suc fewer)))
    go false y z = at (eq-or-lt_of_le D) (lt_of_lt_of_le (z tt) (le_of_eq (pow-add 2 52 k)))

over_all : (N Q k b : ℕ) → NearRoot N Q → 2 ^ 52 ≤ Q → Representable b → Q * 2 ^ k < b → 4 * (N * 4 ^ k) < (Q * 2 ^ k + b) * (Q * 2 ^ k + b)
over_all N Q k b near D d h =
    let m = multiple b k d (le_trans (le_trans (le_of_eq (pow-add 2 52 k)) (mul-le-mul_right (2 ^ k) D)) (le_of_lt h)) in
    subst (λ (y : ℕ). 4 * (N * 4 ^ k) < (Q * 2 ^ k + y) * (Q * 2 ^ k + y)) (sym m.1)
    (step_over N Q (2 ^ k) (4 ^ k) m.0 (sym (four_is k)) (four_pos k) near (lt_of_mul-lt-mul_right (2 ^ k) (lt_of_lt_of_le h (le_of_eq m.1))))

-- ---- the theorem

-- y is the double nearest to √(n * 2 ^ 1074) units, and no other is as near.
pub record NearestFloat (n : ℕ) (y : Float) : Type 0 where
  -- it is a double
  pub held : T (fits binary64 y)
  -- of r units
  pub r : ℕ
  pub value : IsUnits y r
  -- for any other double z above it, of b units, the exact root is below the middle (r + b) / 2, squared: n * 2 ^ 1074 < ((r + b) / 2) ^ 2
  pub above : (z : Float) (b : ℕ) → T (fits binary64 z) → IsUnits z b → r < b → 4 * (n * 2 ^ 1074) < (r + b) * (r + b)
  -- and for any other below it, the exact root is above the middle
  pub below : (z : Float) (b : ℕ) → T (fits binary64 z) → IsUnits z b → b < r → (r + b) * (r + b) < 4 * (n * 2 ^ 1074)

-- The root of a double x above 0, of n units, is the nearest double.
pub nearest_root_lem : (x : Float) (n : ℕ) → T (fits binary64 x) → IsUnits x n → 0 < n → NearestFloat n (root x)
nearest_root_lem x n f v h =
    let w = is_rounded x n f v h in
    record {
      held = w.held;
      r = w.Q * 2 ^ w.k;
      value = w.value;
      above = λ z b g u l. rw w.same (over_all w.N w.Q w.k b w.near w.digits (digits_of z b g u) l);
      below = λ z b g u l. rw w.same (under_all w.N w.Q w.k b w.near w.least w.digits (digits_of z b g u) l);
    }
