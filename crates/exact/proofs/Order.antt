-- Rust's `<`, `<=` and `==` on finite doubles are the order and the equality of their units: `lt_units`, `le_units`, `eq_units`. Before these stand
-- the laws for two floats whose units are known (`lt_val` and so on), and after them bounds. Assumes nothing.
use Rattle.std.specs.Prelude.{◌≡◌, refl, ◌⊎◌, ◌↔◌, [], ◌∷◌, Bool, true, false, not, ◌&&◌, ◌||◌, ℕ, zero, suc, ◌+◌, ◌*◌, ◌≤◌, ◌<◌, T, ltb, eqb, ℤ, pos, neg_ℤ, nat_abs, ◌-ℤ◌, ◌≤ℤ◌, ◌<ℤ◌, Float}
use Rattle.std.proofs.Common.{sym, ap, ap₂, ◌∙◌, subst₂, le_of_lt, lt_of_le_of_lt, not-le_of_lt, zero-mul, mul_comm, mul_assoc, mul_right_comm, add-mul, mul-pos, mul-lt-mul_of_pos_right, lt_of_mul-lt-mul_right, arith, ltb→lt, lt→ltb, leb→le, eqb→eq, T_not}
use Rattle.std.proofs.Math.Path.{subst}
use Rattle.std.proofs.Math.Logic.{inl, inr}
use Rattle.std.specs.Bool.{beq}
use Rattle.std.proofs.Math.Nat.{eq_of_mul-eq-mul_right}
use Rattle.std.proofs.Math.Dec.{not_T}
use Rattle.std.proofs.Math.IntN.{neg_ℤ-neg_ℤ, pos-ne-negsuc}
use Rattle.std.specs.Int.Signed.{≤ℤ_refl, clash_ℤ}
use Rattle.std.specs.Float.{nan, inf, fin, binary64}
use Rattle.std.specs.Float.Ieee.{up, down, fits, lt, eq, le, below, level}
use Rattle.std.specs.Float.Ieee.Bits.{is_true, is_false}
use Rattle.std.specs.Float.Ieee.Fits.{down_pos, and_i, and_l, and_r, eq→eqb}
use Rattle.laws.proofs.RingBase.{Expr, var, num, con, ◌+ᵉ◌, ◌*ᵉ◌, ◌-ᵉ◌, neg, eval, same}
use Rattle.laws.proofs.CertificateBase.{Nonneg, nonneg, not_nonneg, of_le, to_le, of-≤ℤ, <ℤ_or-≤ℤ, hyp, ◌⊞◌}
use Rattle.laws.proofs.Certificate.{of-<ℤ, to-<ℤ, <ℤ_weaken, ≤ℤ_antisym, prove}
use Rattle.laws.specs.Tests.{T-ext}
use Rattle.numbers.specs.Float.{is_finite, abs_f}
use Rattle.exact.specs.Units.{W, W-pos, Val, signed, sign_of, size_of, units, val_of, abs_val, Within, within_of, whole_val}

-- ---- the tests from the units: A / c and B / c are the fractions that lib.Ieee compares, and a / w and b / w are the same

module _ (A B a b w c : ℕ) (p : A * w ≡ a * c) (q : B * w ≡ b * c) (Wp : 0 < w) (Cp : 0 < c) where
  lt_there : A < B → a < b
  lt_there h = lt_of_mul-lt-mul_right c (subst₂ (λ (y z : ℕ). y < z) p q (mul-lt-mul_of_pos_right h Wp))

  lt_back : a < b → A < B
  lt_back h = lt_of_mul-lt-mul_right w (subst₂ (λ (y z : ℕ). y < z) (sym p) (sym q) (mul-lt-mul_of_pos_right h Cp))

  pub ltb_same : ltb A B ≡ ltb a b
  ltb_same = T-ext (ltb A B) (ltb a b) (λ t. lt→ltb a b (lt_there (ltb→lt A B t))) (λ t. lt→ltb A B (lt_back (ltb→lt a b t)))

  eq_there : A ≡ B → a ≡ b
  eq_there e = eq_of_mul-eq-mul_right c Cp a b (sym p ∙ ap (λ (z : ℕ). z * w) e ∙ q)

  eq_back : a ≡ b → A ≡ B
  eq_back e = eq_of_mul-eq-mul_right w Wp A B (p ∙ ap (λ (z : ℕ). z * c) e ∙ sym q)

  eqb_same : eqb A B ≡ eqb a b
  eqb_same = T-ext (eqb A B) (eqb a b) (λ t. eq→eqb (eq_there (eqb→eq A B t))) (λ t. eq→eqb (eq_back (eqb→eq a b t)))

  pub add_same : (A + B) * w ≡ (a + b) * c
  add_same = add-mul A B w ∙ ap₂ (λ (y z : ℕ). y + z) p q ∙ sym (add-mul a b c)

-- X / d is a / w, so X * d' / (d * d') is
pub widen_left : (X a d d' w : ℕ) → X * w ≡ a * d → X * d' * w ≡ a * (d * d')
widen_left X a d d' w p = mul_right_comm X d' w ∙ ap (λ (z : ℕ). z * d') p ∙ mul_assoc a d d'

pub widen_right : (Y b d d' w : ℕ) → Y * w ≡ b * d' → Y * d * w ≡ b * (d * d')
widen_right Y b d d' w p = widen_left Y b d' d w p ∙ ap (λ (z : ℕ). b * z) (mul_comm d' d)

no_units : (w c : ℕ) → 0 * w ≡ 0 * c
no_units w c = zero-mul w ∙ sym (zero-mul c)

pub lt_is : (x y : Float) (s t : Bool) (a b : ℕ) → Val x s a → Val y t b → lt x y ≡ below s a t b
unfolding lt
lt_is nan y s t a b p q = absurd p
lt_is (inf u) y s t a b p q = absurd p
lt_is (fin u m e) nan s t a b p q = absurd q
lt_is (fin u m e) (inf v) s t a b p q = absurd q
lt_is (fin u m e) (fin v n d) s t a b p q =
    ap₂ (λ (y z : Bool). below y (m * up e * down d) z (n * up d * down e)) p.0 q.0 ∙ go s t
  where
    xa : m * up e * down d * W ≡ a * (down e * down d)
    xa = widen_left (m * up e) a (down e) (down d) W p.1

    yb : n * up d * down e * W ≡ b * (down e * down d)
    yb = widen_right (n * up d) b (down e) (down d) W q.1

    cp : 0 < down e * down d
    cp = mul-pos (down_pos e) (down_pos d)

    go : (s t : Bool) → below s (m * up e * down d) t (n * up d * down e) ≡ below s a t b
    go false false = ltb_same (m * up e * down d) (n * up d * down e) a b W (down e * down d) xa yb W-pos cp
    go false true = refl
    go true false =
        ltb_same 0 (m * up e * down d + n * up d * down e) 0 (a + b) W (down e * down d) (no_units W (down e * down d))
        (add_same (m * up e * down d) (n * up d * down e) a b W (down e * down d) xa yb W-pos cp) W-pos cp
    go true true = ltb_same (n * up d * down e) (m * up e * down d) b a W (down e * down d) yb xa W-pos cp

pub eq_is : (x y : Float) (s t : Bool) (a b : ℕ) → Val x s a → Val y t b → eq x y ≡ level s a t b
unfolding eq
eq_is nan y s t a b p q = absurd p
eq_is (inf u) y s t a b p q = absurd p
eq_is (fin u m e) nan s t a b p q = absurd q
eq_is (fin u m e) (inf v) s t a b p q = absurd q
eq_is (fin u m e) (fin v n d) s t a b p q =
    ap₂ (λ (y z : Bool). level y (m * up e * down d) z (n * up d * down e)) p.0 q.0
    ∙ ap₂ (λ (y z : Bool). y && (beq s t || z)) (eqb_same (m * up e * down d) (n * up d * down e) a b W (down e * down d) xa yb W-pos cp)
    (eqb_same (m * up e * down d) 0 a 0 W (down e * down d) xa (no_units W (down e * down d)) W-pos cp)
  where
    xa : m * up e * down d * W ≡ a * (down e * down d)
    xa = widen_left (m * up e) a (down e) (down d) W p.1

    yb : n * up d * down e * W ≡ b * (down e * down d)
    yb = widen_right (n * up d) b (down e) (down d) W q.1

    cp : 0 < down e * down d
    cp = mul-pos (down_pos e) (down_pos d)

-- ---- the order of signed sizes

-- one goal in the variables a and b, from one hypothesis that is the same polynomial
by : (a b : ℕ) (h g : Expr) → Nonneg (eval (pos a ∷ pos b ∷ []) h) → T (same (con (pos 1) *ᵉ g) h) → Nonneg (eval (pos a ∷ pos b ∷ []) g)
by a b h g p t = prove (pos a ∷ pos b ∷ []) (h ∷ []) (p, tt) [] tt 0 g (hyp 0) t

one_more : {a b : ℕ} → a < b → a + 1 ≤ b
one_more {a} {b} h = omega arith

one_less : {a b : ℕ} → a + 1 ≤ b → a < b
one_less {a} {b} h = omega arith

below_nonneg : (s t : Bool) (a b : ℕ) → T (below s a t b) ↔ Nonneg (signed t b -ℤ signed s a -ℤ pos 1)
below_nonneg false false a b = (
  λ u. by a b (var 1 -ᵉ (var 0 +ᵉ num 1)) (var 1 -ᵉ var 0 -ᵉ num 1) (of_le (one_more (ltb→lt a b u))) tt,
  λ n. lt→ltb a b (one_less (to_le (a + 1) b (by a b (var 1 -ᵉ var 0 -ᵉ num 1) (var 1 -ᵉ (var 0 +ᵉ num 1)) n tt))),
)
below_nonneg false true a b = (
  λ u. absurd u,
  λ n. not_nonneg {n = 0}
      (prove (pos a ∷ pos b ∷ []) ((neg (var 1) -ᵉ var 0 -ᵉ num 1) ∷ var 0 ∷ var 1 ∷ []) (n, (nonneg a, (nonneg b, tt))) [] tt 0
      (neg (num 1)) (hyp 0 ⊞ hyp 1 ⊞ hyp 2) tt),
)
below_nonneg true false a b = (
  λ u. by a b (var 0 +ᵉ var 1 -ᵉ num 1) (var 1 -ᵉ neg (var 0) -ᵉ num 1) (of_le (ltb→lt 0 (a + b) u)) tt,
  λ n. lt→ltb 0 (a + b) (to_le 1 (a + b) (by a b (var 1 -ᵉ neg (var 0) -ᵉ num 1) (var 0 +ᵉ var 1 -ᵉ num 1) n tt)),
)
below_nonneg true true a b = (
  λ u. by a b (var 0 -ᵉ (var 1 +ᵉ num 1)) (neg (var 1) -ᵉ neg (var 0) -ᵉ num 1) (of_le (one_more (ltb→lt b a u))) tt,
  λ n. lt→ltb b a (one_less (to_le (b + 1) a (by a b (neg (var 1) -ᵉ neg (var 0) -ᵉ num 1) (var 0 -ᵉ (var 1 +ᵉ num 1)) n tt))),
)

pub below_lt : (s t : Bool) (a b : ℕ) → T (below s a t b) ↔ (signed s a <ℤ signed t b)
below_lt s t a b = let i = below_nonneg s t a b in (λ u. to-<ℤ (i.0 u), λ h. i.1 (of-<ℤ h))

minus_zero : (a b : ℕ) → pos a ≡ neg_ℤ (pos b) → (a ≡ b) × (a ≡ 0)
minus_zero a zero e = (ap nat_abs e, ap nat_abs e)
minus_zero a (suc b) e = absurd (pos-ne-negsuc a b e)

both_zero : (a b : ℕ) → T (eqb a b && eqb a 0) → (a ≡ 0) × (b ≡ 0)
both_zero a b u = let z = eqb→eq a 0 (and_r (eqb a b) (eqb a 0) u) in (z, sym (eqb→eq a b (and_l (eqb a b) (eqb a 0) u)) ∙ z)

pub level_eq : (s t : Bool) (a b : ℕ) → T (level s a t b) ↔ (signed s a ≡ signed t b)
level_eq false false a b =
    (λ u. ap pos (eqb→eq a b (and_l (eqb a b) true u)), λ e. and_i (eqb a b) true (eq→eqb (ap nat_abs e)) tt)
level_eq false true a b = (
  λ u. let z = both_zero a b u in ap pos z.0 ∙ ap (λ (n : ℕ). neg_ℤ (pos n)) (sym z.1),
  λ e. let z = minus_zero a b e in and_i (eqb a b) (eqb a 0) (eq→eqb z.0) (eq→eqb z.1),
)
level_eq true false a b = (
  λ u. let z = both_zero a b u in ap (λ (n : ℕ). neg_ℤ (pos n)) z.0 ∙ ap pos (sym z.1),
  λ e. let z = minus_zero b a (sym e) in and_i (eqb a b) (eqb a 0) (eq→eqb (sym z.0)) (eq→eqb (sym z.0 ∙ z.1)),
)
level_eq true true a b = (
  λ u. ap (λ (n : ℕ). neg_ℤ (pos n)) (eqb→eq a b (and_l (eqb a b) true u)),
  λ e. and_i (eqb a b) true (eq→eqb (ap nat_abs (sym (neg_ℤ-neg_ℤ (pos a)) ∙ ap neg_ℤ e ∙ neg_ℤ-neg_ℤ (pos b)))) tt,
)

or_split : (p q : Bool) → T (p || q) → T p ⊎ T q
or_split true q t = inl tt
or_split false q t = inr t

or_left : (p q : Bool) → T p → T (p || q)
or_left true q t = tt
or_left false q t = absurd t

or_right : (p q : Bool) → T q → T (p || q)
or_right true q t = tt
or_right false q t = t

-- ---- floats whose units are known

module _ (x y : Float) (s t : Bool) (a b : ℕ) (p : Val x s a) (q : Val y t b) where
  pub lt_val : T (lt x y) ↔ (signed s a <ℤ signed t b)
  lt_val =
      let e = lt_is x y s t a b p q in
      let i = below_lt s t a b in
      (λ u. i.0 (subst T e u), λ h. subst T (sym e) (i.1 h))

  pub eq_val : T (eq x y) ↔ (signed s a ≡ signed t b)
  eq_val =
      let e = eq_is x y s t a b p q in
      let i = level_eq s t a b in
      (λ u. i.0 (subst T e u), λ h. subst T (sym e) (i.1 h))

  pub le_val : T (le x y) ↔ (signed s a ≤ℤ signed t b)
  unfolding le
  le_val = (
    λ u. elim (or_split (lt x y) (eq x y) u) [
      | inl h ↦ <ℤ_weaken (lt_val.0 h)
      | inr h ↦ subst (λ (z : ℤ). signed s a ≤ℤ z) (eq_val.0 h) (≤ℤ_refl (signed s a))
    ],
    λ h. elim (<ℤ_or-≤ℤ (signed s a) (signed t b)) [
      | inl k ↦ or_left (lt x y) (eq x y) (lt_val.1 k)
      | inr k ↦ or_right (lt x y) (eq x y) (eq_val.1 (≤ℤ_antisym h k))
    ],
  )

  -- where a test fails, the opposite one holds
  pub not_lt_val : T (not (lt x y)) ↔ (signed t b ≤ℤ signed s a)
  not_lt_val = (
    λ u. elim (<ℤ_or-≤ℤ (signed s a) (signed t b)) [ inl k ↦ absurd (T_not (lt x y) u (lt_val.1 k)) | inr k ↦ k ],
    λ h. not_T (lt x y) (λ u. clash_ℤ (lt_val.0 u) h),
  )

  pub not_le_val : T (not (le x y)) ↔ (signed t b <ℤ signed s a)
  not_le_val = (
    λ u. elim (<ℤ_or-≤ℤ (signed t b) (signed s a)) [ inl k ↦ k | inr k ↦ absurd (T_not (le x y) u (le_val.1 k)) ],
    λ h. not_T (le x y) (λ u. clash_ℤ h (le_val.0 u)),
  )

-- ---- doubles

module _ (x y : Float) (fx : T (is_finite x)) (hx : T (fits binary64 x)) (fy : T (is_finite y)) (hy : T (fits binary64 y)) where
  pub lt_units : T (lt x y) ↔ (units x <ℤ units y)
  lt_units = lt_val x y (sign_of x) (sign_of y) (size_of x) (size_of y) (val_of x fx hx) (val_of y fy hy)

  pub le_units : T (le x y) ↔ (units x ≤ℤ units y)
  le_units = le_val x y (sign_of x) (sign_of y) (size_of x) (size_of y) (val_of x fx hx) (val_of y fy hy)

  pub eq_units : T (eq x y) ↔ (units x ≡ units y)
  eq_units = eq_val x y (sign_of x) (sign_of y) (size_of x) (size_of y) (val_of x fx hx) (val_of y fy hy)

-- ---- bounds

-- above a size, with no minus sign
pub above_pos : (s : Bool) (a b : ℕ) → pos b <ℤ signed s a → (s ≡ false) × (b < a)
above_pos false a b h = (refl, ltb→lt b a h.lt)
above_pos true zero b h = absurd (none (ltb→lt b 0 h.lt))
  where
    none : b < 0 → ⊥
    none h = omega arith
above_pos true (suc a) b h = absurd h.lt

-- what fails `x <= y`, for a y that is not negative, is above it
pub above_of_not_le : (x y : Float) (s : Bool) (a b : ℕ) → Val x s a → Val y false b → T (not (le x y)) → (s ≡ false) × (b < a)
above_of_not_le x y s a b p q t = above_pos s a b ((not_le_val x y s false a b p q).0 t)

finite_of_le : (x : Float) (K : ℕ) → T (le x (fin false K (pos 0))) → T (le (fin true K (pos 0)) x) → T (is_finite x)
unfolding le lt eq is_finite
finite_of_le nan K p q = p
finite_of_le (inf true) K p q = q
finite_of_le (inf false) K p q = p
finite_of_le (fin s m e) K p q = tt

size-le : (s : Bool) (a b : ℕ) → signed s a ≤ℤ pos b → signed true b ≤ℤ signed s a → a ≤ b
size-le false a b h k = leb→le a b h.le
size-le true a b h k = to_le a b (prove (pos a ∷ pos b ∷ []) ((neg (var 0) -ᵉ neg (var 1)) ∷ []) (of-≤ℤ k, tt) [] tt 0 (var 1 -ᵉ var 0) (hyp 0) tt)

-- -K ≤ x ≤ K, as the code tests it
pub within_le : (K : ℕ) (x : Float) → T (fits binary64 x) → T (le x (fin false K (pos 0))) → T (le (fin true K (pos 0)) x) → Within K x
within_le K x t p q =
    let f = finite_of_le x K p q in
    let v = val_of x f t in
    within_of K x t f
    (size-le (sign_of x) (size_of x) (K * W) ((le_val x (fin false K (pos 0)) (sign_of x) false (size_of x) (K * W) v (whole_val false K)).0 p)
    ((le_val (fin true K (pos 0)) x true (sign_of x) (K * W) (size_of x) (whole_val true K) v).0 q))

-- |x| is not above K, as the code tests it; y is K as a double
pub within_abs : (K : ℕ) (x y : Float) → Val y false (K * W) → T (fits binary64 x) → T (is_finite x) → T (not (lt y (abs_f x))) → Within K x
within_abs K x y v t f h =
    let a = abs_val x (sign_of x) (size_of x) (val_of x f t) in
    within_of K x t f (leb→le (size_of x) (K * W) ((not_lt_val y (abs_f x) false false (K * W) (size_of x) v a).0 h).le)

-- what is farther out than a bound of y is below y exactly if it is negative
pub beyond_lt : {K : ℕ} {y : Float} (x : Float) (s : Bool) (n : ℕ) → Val x s n → Within K y → K * W < n → lt x y ≡ s
beyond_lt {K} {y} x s n v z h = lt_is x y s z.sign n z.size v z.val ∙ go s z.sign (lt_of_le_of_lt z.small h)
  where
    some : (a b : ℕ) → b < a → 0 < a + b
    some a b h = omega arith

    go : (s t : Bool) → z.size < n → below s n t z.size ≡ s
    go true true l = is_true (ltb z.size n) (lt→ltb z.size n l)
    go true false l = is_true (ltb 0 (n + z.size)) (lt→ltb 0 (n + z.size) (some n z.size l))
    go false true l = refl
    go false false l = is_false (ltb n z.size) (not_T (ltb n z.size) (λ t. not-le_of_lt l (le_of_lt (ltb→lt n z.size t))))
