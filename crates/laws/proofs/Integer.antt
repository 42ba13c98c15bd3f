-- Laws of ℤ that the library's lib.IntN leaves out: associativity and distributivity of the product, and what follows. Assumes nothing.
use Rattle.std.specs.Prelude.{◌≡◌, zero, suc, ℤ, pos, neg_ℤ, ◌+ℤ◌, ◌*ℤ◌, ◌-ℤ◌}
use Rattle.std.proofs.Common.{sym, ap, ap₂, ◌∙◌, subst}
use Rattle.std.proofs.Math.IntN.{suc_ℤ, pred_ℤ, one, +ℤ_idl, +ℤ_idr, +ℤ_one, -ℤ_one, +ℤ_assoc, +ℤ_comm, +ℤ_invr, +ℤ_invl, suc_ℤ-+ℤ, pred_ℤ-+ℤ, ℤ_ind, -ℤ-+ℤ_cancel, *ℤ-one, zero-*ℤ, suc_ℤ-*ℤ, pred_ℤ-*ℤ, *ℤ_comm}

-- ---- sums rearranged

pub +ℤ_right_comm : (a b c : ℤ) → a +ℤ b +ℤ c ≡ a +ℤ c +ℤ b
+ℤ_right_comm a b c = +ℤ_assoc a b c ∙ ap (λ (x : ℤ). a +ℤ x) (+ℤ_comm b c) ∙ sym (+ℤ_assoc a c b)

pub +ℤ_left_comm : (a b c : ℤ) → a +ℤ (b +ℤ c) ≡ b +ℤ (a +ℤ c)
+ℤ_left_comm a b c = sym (+ℤ_assoc a b c) ∙ ap (λ (x : ℤ). x +ℤ c) (+ℤ_comm a b) ∙ +ℤ_assoc b a c

pub +ℤ_swap : (a b c d : ℤ) → (a +ℤ b) +ℤ (c +ℤ d) ≡ (a +ℤ c) +ℤ (b +ℤ d)
+ℤ_swap a b c d = +ℤ_assoc a b (c +ℤ d) ∙ ap (λ (x : ℤ). a +ℤ x) (+ℤ_left_comm b c d) ∙ sym (+ℤ_assoc a c (b +ℤ d))

-- ---- induction up and down by one

stepwise : (P : ℤ → Type 0) → P (pos zero) → ((x : ℤ) → P x → P (suc_ℤ x)) → ((x : ℤ) → P x → P (pred_ℤ x)) → (x : ℤ) → P x
stepwise P base up down =
    ℤ_ind P base (λ n h. subst P (sym (+ℤ_one (pos n))) (up (pos n) h)) (λ n h. subst P (sym (-ℤ_one (neg_ℤ (pos n)))) (down (neg_ℤ (pos n)) h))

-- ---- distributivity

pub +ℤ-*ℤ : (a b c : ℤ) → (a +ℤ b) *ℤ c ≡ a *ℤ c +ℤ b *ℤ c
+ℤ-*ℤ a b c = stepwise (λ (x : ℤ). (x +ℤ b) *ℤ c ≡ x *ℤ c +ℤ b *ℤ c) base up down a
  where
    base : (pos zero +ℤ b) *ℤ c ≡ pos zero *ℤ c +ℤ b *ℤ c
    base = ap (λ (x : ℤ). x *ℤ c) (+ℤ_idl b) ∙ sym (ap (λ (x : ℤ). x +ℤ b *ℤ c) (zero-*ℤ c) ∙ +ℤ_idl (b *ℤ c))

    up : (x : ℤ) → (x +ℤ b) *ℤ c ≡ x *ℤ c +ℤ b *ℤ c → (suc_ℤ x +ℤ b) *ℤ c ≡ suc_ℤ x *ℤ c +ℤ b *ℤ c
    up x h =
        ap (λ (y : ℤ). y *ℤ c) (suc_ℤ-+ℤ x b) ∙ suc_ℤ-*ℤ (x +ℤ b) c ∙ ap (λ (y : ℤ). y +ℤ c) h ∙ +ℤ_right_comm (x *ℤ c) (b *ℤ c) c
        ∙ ap (λ (y : ℤ). y +ℤ b *ℤ c) (sym (suc_ℤ-*ℤ x c))

    down : (x : ℤ) → (x +ℤ b) *ℤ c ≡ x *ℤ c +ℤ b *ℤ c → (pred_ℤ x +ℤ b) *ℤ c ≡ pred_ℤ x *ℤ c +ℤ b *ℤ c
    down x h =
        ap (λ (y : ℤ). y *ℤ c) (pred_ℤ-+ℤ x b) ∙ pred_ℤ-*ℤ (x +ℤ b) c ∙ ap (λ (y : ℤ). y -ℤ c) h ∙ +ℤ_right_comm (x *ℤ c) (b *ℤ c) (neg_ℤ c)
        ∙ ap (λ (y : ℤ). y +ℤ b *ℤ c) (sym (pred_ℤ-*ℤ x c))

pub *ℤ-+ℤ : (a b c : ℤ) → a *ℤ (b +ℤ c) ≡ a *ℤ b +ℤ a *ℤ c
*ℤ-+ℤ a b c = *ℤ_comm a (b +ℤ c) ∙ +ℤ-*ℤ b c a ∙ ap₂ (λ (x y : ℤ). x +ℤ y) (*ℤ_comm b a) (*ℤ_comm c a)

-- ---- signs

-- what adds up to zero with a is -a
pub negℤ_unique : (a b : ℤ) → a +ℤ b ≡ pos zero → b ≡ neg_ℤ a
negℤ_unique a b h = sym (+ℤ_idl b) ∙ ap (λ (x : ℤ). x +ℤ b) (sym (+ℤ_invl a)) ∙ +ℤ_assoc (neg_ℤ a) a b ∙ ap (λ (x : ℤ). neg_ℤ a +ℤ x) h ∙ +ℤ_idr (neg_ℤ a)

pub negℤ-*ℤ : (a b : ℤ) → neg_ℤ a *ℤ b ≡ neg_ℤ (a *ℤ b)
negℤ-*ℤ a b = negℤ_unique (a *ℤ b) (neg_ℤ a *ℤ b) (sym (+ℤ-*ℤ a (neg_ℤ a) b) ∙ ap (λ (x : ℤ). x *ℤ b) (+ℤ_invr a) ∙ zero-*ℤ b)

pub *ℤ_negℤ : (a b : ℤ) → a *ℤ neg_ℤ b ≡ neg_ℤ (a *ℤ b)
*ℤ_negℤ a b = *ℤ_comm a (neg_ℤ b) ∙ negℤ-*ℤ b a ∙ ap neg_ℤ (*ℤ_comm b a)

-- ---- products rearranged

pub *ℤ_assoc : (a b c : ℤ) → (a *ℤ b) *ℤ c ≡ a *ℤ (b *ℤ c)
*ℤ_assoc a b c = stepwise (λ (x : ℤ). (x *ℤ b) *ℤ c ≡ x *ℤ (b *ℤ c)) base up down a
  where
    base : (pos zero *ℤ b) *ℤ c ≡ pos zero *ℤ (b *ℤ c)
    base = ap (λ (x : ℤ). x *ℤ c) (zero-*ℤ b) ∙ zero-*ℤ c ∙ sym (zero-*ℤ (b *ℤ c))

    up : (x : ℤ) → (x *ℤ b) *ℤ c ≡ x *ℤ (b *ℤ c) → (suc_ℤ x *ℤ b) *ℤ c ≡ suc_ℤ x *ℤ (b *ℤ c)
    up x h = ap (λ (y : ℤ). y *ℤ c) (suc_ℤ-*ℤ x b) ∙ +ℤ-*ℤ (x *ℤ b) b c ∙ ap (λ (y : ℤ). y +ℤ b *ℤ c) h ∙ sym (suc_ℤ-*ℤ x (b *ℤ c))

    down : (x : ℤ) → (x *ℤ b) *ℤ c ≡ x *ℤ (b *ℤ c) → (pred_ℤ x *ℤ b) *ℤ c ≡ pred_ℤ x *ℤ (b *ℤ c)
    down x h =
        ap (λ (y : ℤ). y *ℤ c) (pred_ℤ-*ℤ x b) ∙ +ℤ-*ℤ (x *ℤ b) (neg_ℤ b) c ∙ ap₂ (λ (y z : ℤ). y +ℤ z) h (negℤ-*ℤ b c) ∙ sym (pred_ℤ-*ℤ x (b *ℤ c))

pub *ℤ_swap : (a b c d : ℤ) → (a *ℤ b) *ℤ (c *ℤ d) ≡ (a *ℤ c) *ℤ (b *ℤ d)
*ℤ_swap a b c d =
    *ℤ_assoc a b (c *ℤ d)
    ∙ ap (λ (x : ℤ). a *ℤ x) (sym (*ℤ_assoc b c d) ∙ ap (λ (x : ℤ). x *ℤ d) (*ℤ_comm b c) ∙ *ℤ_assoc c b d)
    ∙ sym (*ℤ_assoc a c (b *ℤ d))

pub one-*ℤ : (a : ℤ) → pos (suc zero) *ℤ a ≡ a
unfolding one
one-*ℤ a = *ℤ_comm (pos (suc zero)) a ∙ *ℤ-one a

-- a difference that is zero
pub eq_of_sub : (a b : ℤ) → a -ℤ b ≡ pos zero → a ≡ b
eq_of_sub a b h = sym (-ℤ-+ℤ_cancel a b) ∙ ap (λ (x : ℤ). x +ℤ b) h ∙ +ℤ_idl b
