-- Inequalities over ℤ by certificates. `Nonneg z` says that z is not negative, so a ≤ b is `Nonneg (b -ℤ a)` and a < b is
-- `Nonneg (b -ℤ a -ℤ pos 1)`. A certificate is a sum of products of what is known not to be negative: hypotheses, squares and naturals; and of
-- equations times anything. `prove` takes one that is the same polynomial as the goal, or as k + 1 times the goal. tools/ring.py finds them. Assumes nothing.
use Rattle.std.specs.Prelude.{◌≡◌, refl, List, [], ◌∷◌, ◌⊎◌, T, ltb, ℤ, pos, negsuc, neg_ℤ, ◌+ℤ◌, ◌*ℤ◌, ◌-ℤ◌, ◌≤ℤ◌, ◌<ℤ◌}
use Rattle.std.proofs.Common.{sym, ap, ◌∙◌, subst, inl, inr, zero-lt-suc, mul-pos, le_of_suc-le-suc, arith, ltb→lt, nltb→le, leb→le, le→leb}
use mathlib.Core.Bool.{Bool, true, false, not}
use Prim.Native.Nat.{ℕ, zero, suc, ◌+◌, ◌-◌, ◌*◌, ◌≤◌, ◌<◌}
use Rattle.std.proofs.Math.IntN.{sub_ℕ, *ℤ-zero, +ℤ_idr, +ℤ_invr}
use Rattle.std.specs.Int.Signed.{lt_z, lt_z_no}
use Rattle.laws.proofs.RingBase.{Expr, con, ◌+ᵉ◌, ◌*ᵉ◌, eval}

pub data Nonneg : ℤ → Type 0 where
  nonneg : (n : ℕ) → Nonneg (pos n)

pub nonneg-+ : {a b : ℤ} → Nonneg a → Nonneg b → Nonneg (a +ℤ b)
nonneg-+ (nonneg m) (nonneg n) = nonneg (m + n)

pub nonneg-* : {a b : ℤ} → Nonneg a → Nonneg b → Nonneg (a *ℤ b)
nonneg-* (nonneg m) (nonneg n) = nonneg (m * n)

pub nonneg_sq : (a : ℤ) → Nonneg (a *ℤ a)
nonneg_sq (pos n) = nonneg (n * n)
nonneg_sq (negsuc n) = nonneg (suc n * suc n)

-- the natural that it is
pub nonneg_is : {z : ℤ} → Nonneg z → (n : ℕ) × (z ≡ pos n)
nonneg_is (nonneg n) = (n, refl)

abbrev IsNonneg : ℤ → Type 0
IsNonneg (pos n) = Unit {0}
IsNonneg (negsuc n) = ⊥

is_nonneg : {z : ℤ} → Nonneg z → IsNonneg z
is_nonneg (nonneg n) = tt

pub not_nonneg : {n : ℕ} → Nonneg (negsuc n) → ⊥
not_nonneg {n} h = is_nonneg h

-- ---- the order of ℕ

sub_is : (a b : ℕ) → a ≤ b → sub_ℕ b a ≡ pos (b - a)
sub_is a b h = go (ltb b a) (ltb→lt b a)
  where
    clash : b < a → ⊥
    clash g = omega arith

    go : (c : Bool) → (T c → b < a) → mathlib.Core.Bool.cond c (negsuc (a - suc b)) (pos (b - a)) ≡ pos (b - a)
    go true k = absurd (clash (k tt))
    go false k = refl

-- pos b -ℤ pos a is stuck on a, and computes at zero and at suc
pub sub_pos : (a b : ℕ) → a ≤ b → pos b -ℤ pos a ≡ pos (b - a)
sub_pos zero b h = ap pos (sub_zero b)
  where
    sub_zero : (b : ℕ) → b + 0 ≡ b - 0
    sub_zero b = omega arith
sub_pos (suc a) b h = sub_is (suc a) b h

pub of_le : {a b : ℕ} → a ≤ b → Nonneg (pos b -ℤ pos a)
of_le {a} {b} h = subst Nonneg (sym (sub_pos a b h)) (nonneg (b - a))

pub to_le : (a b : ℕ) → Nonneg (pos b -ℤ pos a) → a ≤ b
to_le zero b h = Prim.Native.Nat.zero-le
to_le (suc a) b h = go (ltb b (suc a)) (nltb→le b (suc a)) (is_nonneg h)
  where
    go : (c : Bool) → (T (not c) → suc a ≤ b) → IsNonneg (mathlib.Core.Bool.cond c (negsuc (suc a - suc b)) (pos (b - suc a))) → suc a ≤ b
    go true k t = absurd t
    go false k t = k tt

-- ---- a positive factor, and the two signs

pub nonneg_cancel : (k : ℕ) (z : ℤ) → Nonneg (pos (suc k) *ℤ z) → Nonneg z
nonneg_cancel k (pos n) h = nonneg n
nonneg_cancel k (negsuc n) h = absurd (bad (suc k * suc n) (mul-pos (zero-lt-suc k) (zero-lt-suc n)) h)
  where
    bad : (x : ℕ) → 0 < x → Nonneg (neg_ℤ (pos x)) → ⊥
    bad zero p h = omega arith
    bad (suc x) p h = not_nonneg h

-- z ≥ 0 or z < 0
abbrev pub Sign : ℤ → Type 0
Sign z = Nonneg z ⊎ Nonneg (neg_ℤ z -ℤ pos 1)

pub sign : (z : ℤ) → Sign z
sign (pos n) = inl (nonneg n)
sign (negsuc n) = inr (subst Nonneg (ap pos (pred n) ∙ sym (sub_pos 1 (suc n) (zero-lt-suc n))) (nonneg n))
  where
    pred : (n : ℕ) → n ≡ suc n - 1
    pred n = omega arith

-- ---- certificates

infixl 6 ◌⊞◌
infixl 7 ◌⊠◌
pub data Certificate : Type 0 where
  -- hypothesis i
  hyp : ℕ → Certificate
  nat : ℕ → Certificate
  ◌⊞◌ : Certificate → Certificate → Certificate
  ◌⊠◌ : Certificate → Certificate → Certificate
  sq : Expr → Certificate
  -- equation i, times an expression
  eqn : ℕ → Expr → Certificate

abbrev pub nth : List Expr → ℕ → Expr
nth [] n = con (pos 0)
nth (x ∷ xs) zero = x
nth (x ∷ xs) (suc n) = nth xs n

-- the polynomial that a certificate is, over the hypotheses hs and the equations es
abbrev pub expr_of : List Expr → List Expr → Certificate → Expr
expr_of hs es (hyp i) = nth hs i
expr_of hs es (nat n) = con (pos n)
expr_of hs es (a ⊞ b) = expr_of hs es a +ᵉ expr_of hs es b
expr_of hs es (a ⊠ b) = expr_of hs es a *ᵉ expr_of hs es b
expr_of hs es (sq e) = e *ᵉ e
expr_of hs es (eqn i e) = e *ᵉ nth es i

-- the hypotheses' proofs, nested to the right and ended by tt: (h₀, (h₁, tt))
abbrev pub Hyps : List ℤ → List Expr → Type 0
Hyps ρ [] = Unit {0}
Hyps ρ (e ∷ es) = Nonneg (eval ρ e) × Hyps ρ es

-- the equations' proofs, alike: each expression is 0
abbrev pub Eqns : List ℤ → List Expr → Type 0
Eqns ρ [] = Unit {0}
Eqns ρ (e ∷ es) = (eval ρ e ≡ pos 0) × Eqns ρ es

-- a ≡ b as such an equation
pub zero_of : {a b : ℤ} → a ≡ b → a -ℤ b ≡ pos 0
zero_of {a} {b} e = ap (λ (z : ℤ). z -ℤ b) e ∙ +ℤ_invr b

nth_nonneg : (ρ : List ℤ) (hs : List Expr) → Hyps ρ hs → (i : ℕ) → Nonneg (eval ρ (nth hs i))
nth_nonneg ρ [] p i = nonneg 0
nth_nonneg ρ (e ∷ es) p zero = p.0
nth_nonneg ρ (e ∷ es) p (suc i) = nth_nonneg ρ es p.1 i

nth_zero : (ρ : List ℤ) (es : List Expr) → Eqns ρ es → (i : ℕ) → eval ρ (nth es i) ≡ pos 0
nth_zero ρ [] p i = refl
nth_zero ρ (e ∷ es) p zero = p.0
nth_zero ρ (e ∷ es) p (suc i) = nth_zero ρ es p.1 i

pub sound : (ρ : List ℤ) (hs : List Expr) → Hyps ρ hs → (es : List Expr) → Eqns ρ es → (c : Certificate) → Nonneg (eval ρ (expr_of hs es c))
sound ρ hs p es q (hyp i) = nth_nonneg ρ hs p i
sound ρ hs p es q (nat n) = nonneg n
sound ρ hs p es q (a ⊞ b) = nonneg-+ (sound ρ hs p es q a) (sound ρ hs p es q b)
sound ρ hs p es q (a ⊠ b) = nonneg-* (sound ρ hs p es q a) (sound ρ hs p es q b)
sound ρ hs p es q (sq e) = nonneg_sq (eval ρ e)
sound ρ hs p es q (eqn i e) = subst Nonneg (sym (ap (λ (z : ℤ). eval ρ e *ℤ z) (nth_zero ρ es q i) ∙ *ℤ-zero (eval ρ e))) (nonneg 0)

-- ---- the library's order of ℤ

pub of-≤ℤ : {a b : ℤ} → a ≤ℤ b → Nonneg (b -ℤ a)
of-≤ℤ {a = pos a} {b = pos b} h = of_le (leb→le a b h.le)
of-≤ℤ {a = pos a} {b = negsuc b} h = absurd h.le
of-≤ℤ {a = negsuc a} {b = pos b} h = nonneg (b + suc a)
of-≤ℤ {a = negsuc a} {b = negsuc b} h = of_le {a = suc b} {b = suc a} (Prim.Native.Nat.suc-le-suc (leb→le b a h.le))

pub to-≤ℤ : {a b : ℤ} → Nonneg (b -ℤ a) → a ≤ℤ b
to-≤ℤ {a = pos a} {b = pos b} h = record { le = le→leb a b (to_le a b h) }
to-≤ℤ {a = pos zero} {b = negsuc b} h = absurd (not_nonneg (subst Nonneg (+ℤ_idr (negsuc b)) h))
to-≤ℤ {a = pos (suc a)} {b = negsuc b} h = absurd (not_nonneg h)
to-≤ℤ {a = negsuc a} {b = pos b} h = record { le = tt }
to-≤ℤ {a = negsuc a} {b = negsuc b} h = record { le = le→leb b a (le_of_suc-le-suc (to_le (suc b) (suc a) h)) }

pub <ℤ_or-≤ℤ : (a b : ℤ) → (a <ℤ b) ⊎ (b ≤ℤ a)
<ℤ_or-≤ℤ a b = go (lt_z a b) refl
  where
    go : (t : Bool) → lt_z a b ≡ t → (a <ℤ b) ⊎ (b ≤ℤ a)
    go true e = inl (record { lt = subst T (sym e) tt })
    go false e = inr (lt_z_no (subst (λ (t : Bool). T (not t)) (sym e) tt))
