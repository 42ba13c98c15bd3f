-- A double as a whole number of units. A unit is the smallest double above 0, 2 ^ -1074 (SCOPE, exact books).
-- `units x` computes. For proofs, `Val x s a` says that x is finite, has the sign s, and is a units in size; `Within K x` bounds it by K
-- either way. Assumes nothing.
use Rattle.std.specs.Prelude.{◌≡◌, refl, Bool, true, false, not, ◌&&◌, ℕ, zero, suc, ◌-◌, ◌+◌, ◌*◌, ◌/◌, ◌%◌, ◌^◌, ◌≤◌, ◌<◌, ℤ, pos, negsuc, neg_ℤ, T, leb, ltb, eqb, Float}
use Rattle.std.proofs.Common.{sym, ap, ap₂, ◌∙◌, subst, le_trans, mul-one, zero-mul, mul_assoc, mul-div_cancel, mul-le-mul_right, arith, lit≤, leb→le, pow-add, pow_pos}
use Rattle.std.proofs.Math.Nat.{zero-div}
use Rattle.std.proofs.Math.IntN.{neg_ℤ-neg_ℤ}
use Rattle.std.specs.Float.{nan, inf, fin, binary64}
use Rattle.std.specs.Float.Ieee.{up, down, unlike, fits, neg}
use Rattle.std.specs.Float.Ieee.Exact.{HasValue}
use Rattle.std.specs.Float.Ieee.Fits.{down_pos, and_l, and_r}
use Rattle.numbers.specs.Float.{is_finite, abs_f}
use Rattle.numbers.specs.Nearest.{exponent_le}

-- ---- the definitions

-- how many units make 1. It stays shut in proofs: it has 324 decimal digits
unfoldable pub W : ℕ
W = 2 ^ 1074

-- a sign and a size as an integer; the sign is true for a minus
abbrev pub signed : Bool → ℕ → ℤ
signed false a = pos a
signed true a = neg_ℤ (pos a)

abbrev pub sign_of : Float → Bool
sign_of nan = false
sign_of (inf s) = s
sign_of (fin s m e) = s

-- |x| in units, for a finite double; 0 for the others
unfoldable pub size_of : Float → ℕ
size_of nan = 0
size_of (inf s) = 0
size_of (fin s m e) = m * up e * W / down e

-- x in units
abbrev pub units : Float → ℤ
units x = signed (sign_of x) (size_of x)

-- x is finite, has the sign s, and is exactly a units in size
abbrev pub Val : Float → Bool → ℕ → Type 0
Val x s a = HasValue x s a W

-- ---- signs

pub unlike_self : (s : Bool) → unlike s s ≡ false
unlike_self true = refl
unlike_self false = refl

pub signed_not : (t : Bool) (b : ℕ) → signed (not t) b ≡ neg_ℤ (signed t b)
signed_not false b = refl
signed_not true b = sym (neg_ℤ-neg_ℤ (pos b))

-- ---- the number of units in 1

pub W-pos : 0 < W
unfolding W
W-pos = pow_pos 1074

pub W-big : 10 ^ 36 ≤ W
unfolding W
W-big = lit≤ tt

-- ---- what `fits` tells: a finite double is a whole number of units

-- 2 ^ k divides 2 ^ l where it is no larger
split : (k l : ℕ) → k ≤ l → 2 ^ l ≡ 2 ^ (l - k) * 2 ^ k
split k l h = ap (λ (z : ℕ). 2 ^ z) (back k l h) ∙ pow-add 2 (l - k) k
  where
    back : (k l : ℕ) → k ≤ l → l ≡ l - k + k
    back k l h = omega arith

down_divides : (e : ℤ) → down e ≤ 2 ^ 1074 → (r : ℕ) × (2 ^ 1074 ≡ r * down e)
down_divides (pos k) h = (2 ^ 1074, sym (mul-one (2 ^ 1074)))
down_divides (negsuc k) h = (2 ^ (1074 - suc k), split (suc k) 1074 (exponent_le (suc k) 1074 h))

down_low : (s : Bool) (m : ℕ) (e : ℤ) → T (fits binary64 (fin s (suc m) e)) → down e ≤ 2 ^ 1074
unfolding fits
down_low s m e t =
    let odd = eqb (suc m % 2) 1 in
    let short = ltb (suc m) (2 ^ 53) in
    let low = leb (down e) (2 ^ 1074) in
    let high = ltb (suc m * up e) (2 ^ 1024 * down e) in
    leb→le (down e) (2 ^ 1074) (and_r (odd && short) low (and_l (odd && short && low) high t))

whole : (m d r w : ℕ) → 0 < d → w ≡ r * d → m * w / d * d ≡ m * w
whole m d r w D e =
    let f : m * w ≡ m * r * d = ap (λ (z : ℕ). m * z) e ∙ sym (mul_assoc m r d) in
    ap (λ (z : ℕ). z / d * d) f ∙ ap (λ (z : ℕ). z * d) (mul-div_cancel (m * r) D) ∙ sym f

pub val_of : (x : Float) → T (is_finite x) → T (fits binary64 x) → Val x (sign_of x) (size_of x)
unfolding W size_of is_finite
val_of nan f t = absurd f
val_of (inf s) f t = absurd f
val_of (fin s zero e) f t =
    let zeroes : 0 * up e * W ≡ 0 = ap (λ (z : ℕ). z * W) (zero-mul (up e)) ∙ zero-mul W in
    (refl, zeroes ∙ sym (ap (λ (z : ℕ). z / down e * down e) zeroes ∙ ap (λ (z : ℕ). z * down e) (zero-div (down e)) ∙ zero-mul (down e)))
val_of (fin s (suc m) e) f t =
    let r = down_divides e (down_low s m e t) in
    (refl, sym (whole (suc m * up e) (down e) r.0 (2 ^ 1074) (down_pos e) r.1))

-- ---- and back

pub size_val : (x : Float) (s : Bool) (a : ℕ) → Val x s a → size_of x ≡ a
unfolding size_of
size_val nan s a v = absurd v
size_val (inf t) s a v = absurd v
size_val (fin t m e) s a v = ap (λ (z : ℕ). z / down e) v.1 ∙ mul-div_cancel a (down_pos e)

pub sign_val : (x : Float) (s : Bool) (a : ℕ) → Val x s a → sign_of x ≡ s
sign_val nan s a v = absurd v
sign_val (inf t) s a v = absurd v
sign_val (fin t m e) s a v = v.0

pub units_val : (x : Float) (s : Bool) (a : ℕ) → Val x s a → units x ≡ signed s a
units_val x s a v = ap₂ signed (sign_val x s a v) (size_val x s a v)

pub finite_val : (x : Float) (s : Bool) (a : ℕ) → Val x s a → T (is_finite x)
unfolding is_finite
finite_val nan s a v = v
finite_val (inf t) s a v = v
finite_val (fin t m e) s a v = tt

-- ---- operations that are exact

pub neg_val : (x : Float) (s : Bool) (a : ℕ) → Val x s a → Val (neg x) (not s) a
unfolding neg
neg_val nan s a p = p
neg_val (inf u) s a p = p
neg_val (fin u m e) s a p = (ap not p.0, p.1)

pub abs_val : (x : Float) (s : Bool) (a : ℕ) → Val x s a → Val (abs_f x) false a
unfolding abs_f
abs_val nan s a v = v
abs_val (inf t) s a v = v
abs_val (fin t m e) s a v = (refl, v.1)

-- ---- bounds

-- x is finite, a whole number of units, and at most K either way
pub record Within (K : ℕ) (x : Float) : Type 0 where
  pub sign : Bool
  pub size : ℕ
  pub val : Val x sign size
  pub small : size ≤ K * W

abbrev pub within_of : (K : ℕ) (x : Float) → T (fits binary64 x) → T (is_finite x) → size_of x ≤ K * W → Within K x
within_of K x t f h = record { sign = sign_of x; size = size_of x; val = val_of x f t; small = h }

pub within_size : {K : ℕ} {x : Float} → Within K x → size_of x ≤ K * W
within_size {K} {x} p = subst (λ (z : ℕ). z ≤ K * W) (sym (size_val x p.sign p.size p.val)) p.small

-- in units
pub within_units : {K : ℕ} {x : Float} (p : Within K x) → units x ≡ signed p.sign p.size
within_units {K} {x} p = units_val x p.sign p.size p.val

-- a larger bound, by a test of two numerals
abbrev pub widen : {K : ℕ} {x : Float} (L : ℕ) → T (leb K L) → Within K x → Within L x
widen {K} L t p = record { sign = p.sign; size = p.size; val = p.val; small = le_trans p.small (mul-le-mul_right W (leb→le K L t)) }

-- the whole number K, as a double or not
pub whole_val : (s : Bool) (K : ℕ) → Val (fin s K (pos 0)) s (K * W)
whole_val s K = (refl, ap (λ (z : ℕ). z * W) (mul-one K) ∙ sym (mul-one (K * W)))
