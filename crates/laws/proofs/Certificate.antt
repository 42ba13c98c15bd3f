-- What holds of the definitions of proofs/CertificateBase.antt.
use Rattle.std.specs.Prelude.{◌≡◌, List, [], ◌∷◌, T, ℤ, pos, neg_ℤ, ◌-ℤ◌, ◌≤ℤ◌, ◌<ℤ◌}
use Rattle.std.proofs.Common.{sym, ap, ◌∙◌, subst, inl, inr}
use Prim.Native.Nat.{ℕ, zero, suc, ◌-◌, ◌*◌, ◌≤◌, ◌<◌}
use Rattle.std.specs.Int.Signed.{clash_ℤ}
use Rattle.laws.proofs.Integer.{eq_of_sub}
use Rattle.laws.proofs.RingBase.{Expr, var, con, num, ◌*ᵉ◌, ◌-ᵉ◌, neg, eval, same}
use Rattle.laws.proofs.Ring.{ring}
use Rattle.laws.proofs.CertificateBase.{Nonneg, nonneg_is, not_nonneg, nonneg_cancel, sign, Certificate, hyp, nat, ◌⊞◌, expr_of, Hyps, Eqns, sound, of-≤ℤ, to-≤ℤ, <ℤ_or-≤ℤ}

-- ---- certificates

pub prove : (ρ : List ℤ) (hs : List Expr) → Hyps ρ hs → (es : List Expr) → Eqns ρ es → (k : ℕ) (goal : Expr) (c : Certificate)
    → T (same (con (pos (suc k)) *ᵉ goal) (expr_of hs es c)) → Nonneg (eval ρ goal)
prove ρ hs p es q k goal c t =
    nonneg_cancel k (eval ρ goal) (subst Nonneg (sym (ring ρ (con (pos (suc k)) *ᵉ goal) (expr_of hs es c) t)) (sound ρ hs p es q c))

-- ---- the library's order of ℤ

pub of-<ℤ : {a b : ℤ} → a <ℤ b → Nonneg (b -ℤ a -ℤ pos 1)
of-<ℤ {a} {b} h =
    elim (sign (b -ℤ a -ℤ pos 1)) [
      | inl n ↦ n
      | inr n ↦ clash_ℤ h (to-≤ℤ (prove (a ∷ b ∷ []) ((neg (var 1 -ᵉ var 0 -ᵉ num 1) -ᵉ num 1) ∷ []) (n, tt) [] tt 0 (var 0 -ᵉ var 1) (hyp 0) tt))
    ]

pub to-<ℤ : {a b : ℤ} → Nonneg (b -ℤ a -ℤ pos 1) → a <ℤ b
to-<ℤ {a} {b} n =
    elim (<ℤ_or-≤ℤ a b) [
      | inl h ↦ h
      | inr h ↦ absurd
          (not_nonneg {n = 0}
          (prove (a ∷ b ∷ []) ((var 1 -ᵉ var 0 -ᵉ num 1) ∷ (var 0 -ᵉ var 1) ∷ []) (n, (of-≤ℤ h, tt)) [] tt 0 (neg (num 1)) (hyp 0 ⊞ hyp 1) tt))
    ]

pub <ℤ_weaken : {a b : ℤ} → a <ℤ b → a ≤ℤ b
<ℤ_weaken {a} {b} h = to-≤ℤ (prove (a ∷ b ∷ []) ((var 1 -ᵉ var 0 -ᵉ num 1) ∷ []) (of-<ℤ h, tt) [] tt 0 (var 1 -ᵉ var 0) (hyp 0 ⊞ nat 1) tt)

pub ≤ℤ_antisym : {a b : ℤ} → a ≤ℤ b → b ≤ℤ a → a ≡ b
≤ℤ_antisym {a} {b} h k = go (nonneg_is (of-≤ℤ h)).0 (nonneg_is (of-≤ℤ h)).1
  where
    opposite : a -ℤ b ≡ neg_ℤ (b -ℤ a)
    opposite = ring (a ∷ b ∷ []) (var 0 -ᵉ var 1) (neg (var 1 -ᵉ var 0)) tt

    go : (n : ℕ) → b -ℤ a ≡ pos n → a ≡ b
    go zero e = sym (eq_of_sub b a e)
    go (suc n) e = absurd (not_nonneg (subst Nonneg (opposite ∙ ap neg_ℤ e) (of-≤ℤ {a = b} {b = a} k)))
