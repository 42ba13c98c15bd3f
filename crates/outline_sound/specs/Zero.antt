-- Numbers that are 0: a sum of multiples of numbers that are 0 (`vanishes`; as `prove` is for what is not negative), what is neither above 0 nor below it,
-- and a product one of whose factors is not 0. Assumes nothing.
use Rattle.std.specs.Prelude.{◌≡◌, refl, List, [], ◌∷◌, zero, suc, T, ℤ, pos, negsuc, neg_ℤ, ◌+ℤ◌, ◌*ℤ◌, ◌-ℤ◌}
use Rattle.std.proofs.Common.{sym, ap, ap₂, ◌∙◌, subst, inl, inr, arith}
use Rattle.std.proofs.Math.IntN.{*ℤ-zero}
use Rattle.laws.proofs.RingBase.{Expr, var, num, ◌+ᵉ◌, ◌*ᵉ◌, ◌-ᵉ◌, neg, eval, same}
use Rattle.laws.proofs.Ring.{ring}
use Rattle.laws.proofs.CertificateBase.{Nonneg, nonneg, not_nonneg, of_le, sign, Eqns, hyp, ◌⊞◌, ◌⊠◌}
use Rattle.laws.proofs.Certificate.{prove}

-- multiples of some expressions, added up
abbrev multiples : List Expr → List Expr → Expr
multiples [] es = num 0
multiples (m ∷ ms) [] = num 0
multiples (m ∷ ms) (e ∷ es) = m *ᵉ e +ᵉ multiples ms es

multiples_zero : (ρ : List ℤ) (ms es : List Expr) → Eqns ρ es → eval ρ (multiples ms es) ≡ pos 0
multiples_zero ρ [] es q = refl
multiples_zero ρ (m ∷ ms) [] q = refl
multiples_zero ρ (m ∷ ms) (e ∷ es) q =
    ap₂ (λ (y z : ℤ). eval ρ m *ℤ y +ℤ z) q.0 (multiples_zero ρ ms es q.1) ∙ ap (λ (z : ℤ). z +ℤ pos 0) (*ℤ-zero (eval ρ m))

-- the goal is the same polynomial as ms times the expressions es, which are 0
pub vanishes : (ρ : List ℤ) (es : List Expr) → Eqns ρ es → (goal : Expr) (ms : List Expr) → T (same goal (multiples ms es)) → eval ρ goal ≡ pos 0
vanishes ρ es q goal ms t = ring ρ goal (multiples ms es) t ∙ multiples_zero ρ ms es q

pub zero_by : (z : ℤ) → Nonneg z → Nonneg (neg_ℤ z) → z ≡ pos 0
zero_by (pos zero) p q = refl
zero_by (pos (suc n)) p q = absurd (not_nonneg q)
zero_by (negsuc n) p q = absurd (not_nonneg p)

-- a factor above 0 is left out
pub factor : (k z : ℤ) → Nonneg (k -ℤ pos 1) → Nonneg (k *ℤ z) → Nonneg z
factor k z p h =
    elim (sign z) [
      | inl n ↦ n
      | inr n ↦ absurd
          (not_nonneg {n = 0}
          (prove (k ∷ z ∷ []) ((var 0 -ᵉ num 1) ∷ (var 0 *ᵉ var 1) ∷ (neg (var 1) -ᵉ num 1) ∷ []) (p, (h, (n, tt))) [] tt 0
          (neg (num 1)) (hyp 1 ⊞ hyp 0 ⊠ hyp 2 ⊞ hyp 2 ⊞ hyp 0) tt))
    ]

factor_zero : (k z : ℤ) → Nonneg (k -ℤ pos 1) → k *ℤ z ≡ pos 0 → z ≡ pos 0
factor_zero k z p e =
    zero_by z (factor k z p (subst Nonneg (sym e) (nonneg 0)))
    (factor k (neg_ℤ z) p (subst Nonneg (sym (ring (k ∷ z ∷ []) (var 0 *ᵉ neg (var 1)) (neg (var 0 *ᵉ var 1)) tt ∙ ap neg_ℤ e)) (nonneg 0)))

-- a factor that is not 0 is
pub cancel : (k z : ℤ) → (k ≡ pos 0 → ⊥) → k *ℤ z ≡ pos 0 → z ≡ pos 0
cancel (pos zero) z f e = absurd (f refl)
cancel (pos (suc n)) z f e = factor_zero (pos (suc n)) z (of_le {a = 1} {b = suc n} (omega arith)) e
cancel (negsuc n) z f e =
    factor_zero (pos (suc n)) z (of_le {a = 1} {b = suc n} (omega arith))
    (ring (pos (suc n) ∷ z ∷ []) (var 0 *ᵉ var 1) (neg (neg (var 0) *ᵉ var 1)) tt ∙ ap neg_ℤ e)
