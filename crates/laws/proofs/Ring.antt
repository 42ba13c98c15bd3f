-- What holds of the definitions of proofs/RingBase.antt.
use Rattle.std.specs.Prelude.{◌≡◌, refl, List, [], ◌∷◌, Bool, true, false, T, leb, ℤ, pos, negsuc, neg_ℤ, ◌+ℤ◌, ◌*ℤ◌}
use Rattle.std.proofs.Common.{sym, ap, ap₂, ◌∙◌, subst, eqb→eq}
use Prim.Native.Nat.{ℕ, zero, suc, compare, Ordering}
use Rattle.std.proofs.Math.Dec.{compare_is_eq}
use Rattle.std.proofs.Math.IntN.{+ℤ_idl, +ℤ_idr, +ℤ_assoc, neg_ℤ-+ℤ, zero-*ℤ, *ℤ-zero, *ℤ_comm}
use Rattle.laws.proofs.Integer.{+ℤ_left_comm, +ℤ_swap, +ℤ-*ℤ, *ℤ-+ℤ, negℤ-*ℤ, *ℤ_assoc, *ℤ_swap, one-*ℤ, eq_of_sub}
use Rattle.laws.proofs.RingBase.{Expr, var, con, ◌+ᵉ◌, ◌*ᵉ◌, neg, value_at, eval, Poly, nil, term, then_by, compare_m, insert_m, mul_m, into, add_p, mul_t, mul_p, neg_p, normal, is_zero, same}

-- ---- each step keeps the value

compare_eq : (x y : ℕ) → compare x y ≡ Ordering.eq → x ≡ y
compare_eq x y e = eqb→eq x y (subst (λ (o : Ordering). T (compare_is_eq o)) (sym e) tt)

-- the orderings are told apart
abbrev IsEq : Ordering → Type 0
IsEq Ordering.lt = ⊥
IsEq Ordering.eq = Unit {0}
IsEq Ordering.gt = ⊥

then_by_eq : (o c : Ordering) → then_by o c ≡ Ordering.eq → (o ≡ Ordering.eq) × (c ≡ Ordering.eq)
then_by_eq Ordering.lt c e = absurd (subst IsEq (sym e) tt)
then_by_eq Ordering.eq c e = (refl, e)
then_by_eq Ordering.gt c e = absurd (subst IsEq (sym e) tt)

compare_m_eq : (xs ys : List ℕ) (o : Ordering) → compare_m xs ys o ≡ Ordering.eq → (o ≡ Ordering.eq) × (xs ≡ ys)
compare_m_eq [] [] o e = (e, refl)
compare_m_eq [] (y ∷ ys) o e = absurd (subst IsEq (sym e) tt)
compare_m_eq (x ∷ xs) [] o e = absurd (subst IsEq (sym e) tt)
compare_m_eq (x ∷ xs) (y ∷ ys) o e =
    let h = compare_m_eq xs ys (then_by o (compare x y)) e in
    let g = then_by_eq o (compare x y) h.0 in
    (g.0, ap₂ (λ (a : ℕ) (b : List ℕ). a ∷ b) (compare_eq x y g.1) h.1)

module _ (ρ : List ℤ) where
  abbrev eval_m : List ℕ → ℤ
  eval_m [] = pos 1
  eval_m (x ∷ xs) = value_at ρ x *ℤ eval_m xs

  abbrev eval_p : Poly → ℤ
  eval_p nil = pos 0
  eval_p (term c m p) = c *ℤ eval_m m +ℤ eval_p p

  insert_m_ok : (x : ℕ) (m : List ℕ) → eval_m (insert_m x m) ≡ value_at ρ x *ℤ eval_m m
  insert_m_ok x [] = refl
  insert_m_ok x (y ∷ ys) = step (leb x y) (insert_m_ok x ys)
    where
      step : (b : Bool) → eval_m (insert_m x ys) ≡ value_at ρ x *ℤ eval_m ys
          → eval_m (elim b [ true ↦ x ∷ y ∷ ys | false ↦ y ∷ insert_m x ys ]) ≡ value_at ρ x *ℤ (value_at ρ y *ℤ eval_m ys)
      step true h = refl
      step false h =
          ap (λ (z : ℤ). value_at ρ y *ℤ z) h ∙ sym (*ℤ_assoc (value_at ρ y) (value_at ρ x) (eval_m ys))
          ∙ ap (λ (z : ℤ). z *ℤ eval_m ys) (*ℤ_comm (value_at ρ y) (value_at ρ x)) ∙ *ℤ_assoc (value_at ρ x) (value_at ρ y) (eval_m ys)

  mul_m_ok : (m n : List ℕ) → eval_m (mul_m m n) ≡ eval_m m *ℤ eval_m n
  mul_m_ok [] n = sym (one-*ℤ (eval_m n))
  mul_m_ok (x ∷ xs) n = insert_m_ok x (mul_m xs n) ∙ ap (λ (z : ℤ). value_at ρ x *ℤ z) (mul_m_ok xs n) ∙ sym (*ℤ_assoc (value_at ρ x) (eval_m xs) (eval_m n))

  into_ok : (c : ℤ) (m : List ℕ) (k : Poly → Poly) (v : ℤ) → ((q : Poly) → eval_p (k q) ≡ v +ℤ eval_p q)
      → (q : Poly) → eval_p (into c m k q) ≡ (c *ℤ eval_m m +ℤ v) +ℤ eval_p q
  into_ok c m k v H nil = ap (λ (z : ℤ). c *ℤ eval_m m +ℤ z) (H nil) ∙ sym (+ℤ_assoc (c *ℤ eval_m m) v (pos 0))
  into_ok c m k v H (term d n q) = step (compare_m m n Ordering.eq) refl (into_ok c m k v H q)
    where
      step : (o : Ordering) → compare_m m n Ordering.eq ≡ o → eval_p (into c m k q) ≡ (c *ℤ eval_m m +ℤ v) +ℤ eval_p q
          → eval_p (elim o [ Ordering.lt ↦ term c m (k (term d n q)) | Ordering.eq ↦ term (c +ℤ d) m (k q) | Ordering.gt ↦ term d n (into c m k q) ])
          ≡ (c *ℤ eval_m m +ℤ v) +ℤ (d *ℤ eval_m n +ℤ eval_p q)
      step Ordering.lt e h = ap (λ (z : ℤ). c *ℤ eval_m m +ℤ z) (H (term d n q)) ∙ sym (+ℤ_assoc (c *ℤ eval_m m) v (d *ℤ eval_m n +ℤ eval_p q))
      step Ordering.eq e h =
          ap₂ (λ (y z : ℤ). y +ℤ z) (+ℤ-*ℤ c d (eval_m m) ∙ ap (λ (l : List ℕ). c *ℤ eval_m m +ℤ d *ℤ eval_m l) (compare_m_eq m n Ordering.eq e).1) (H q)
          ∙ +ℤ_swap (c *ℤ eval_m m) (d *ℤ eval_m n) v (eval_p q)
      step Ordering.gt e h = ap (λ (z : ℤ). d *ℤ eval_m n +ℤ z) h ∙ +ℤ_left_comm (d *ℤ eval_m n) (c *ℤ eval_m m +ℤ v) (eval_p q)

  add_p_ok : (p q : Poly) → eval_p (add_p p q) ≡ eval_p p +ℤ eval_p q
  add_p_ok nil q = sym (+ℤ_idl (eval_p q))
  add_p_ok (term c m p) q = into_ok c m (add_p p) (eval_p p) (add_p_ok p) q

  mul_t_ok : (c : ℤ) (m : List ℕ) (q : Poly) → eval_p (mul_t c m q) ≡ (c *ℤ eval_m m) *ℤ eval_p q
  mul_t_ok c m nil = sym (*ℤ-zero (c *ℤ eval_m m))
  mul_t_ok c m (term d n q) =
      ap₂ (λ (y z : ℤ). y +ℤ z) (ap (λ (z : ℤ). (c *ℤ d) *ℤ z) (mul_m_ok m n) ∙ *ℤ_swap c d (eval_m m) (eval_m n)) (mul_t_ok c m q)
      ∙ sym (*ℤ-+ℤ (c *ℤ eval_m m) (d *ℤ eval_m n) (eval_p q))

  mul_p_ok : (p q : Poly) → eval_p (mul_p p q) ≡ eval_p p *ℤ eval_p q
  mul_p_ok nil q = sym (zero-*ℤ (eval_p q))
  mul_p_ok (term c m p) q =
      add_p_ok (mul_t c m q) (mul_p p q) ∙ ap₂ (λ (y z : ℤ). y +ℤ z) (mul_t_ok c m q) (mul_p_ok p q) ∙ sym (+ℤ-*ℤ (c *ℤ eval_m m) (eval_p p) (eval_p q))

  neg_p_ok : (p : Poly) → eval_p (neg_p p) ≡ neg_ℤ (eval_p p)
  neg_p_ok nil = refl
  neg_p_ok (term c m p) = ap₂ (λ (y z : ℤ). y +ℤ z) (negℤ-*ℤ c (eval_m m)) (neg_p_ok p) ∙ sym (neg_ℤ-+ℤ (c *ℤ eval_m m) (eval_p p))

  normal_ok : (a : Expr) → eval_p (normal a) ≡ eval ρ a
  normal_ok (var i) = +ℤ_idr (pos 1 *ℤ (value_at ρ i *ℤ pos 1)) ∙ one-*ℤ (value_at ρ i *ℤ pos 1) ∙ *ℤ_comm (value_at ρ i) (pos 1) ∙ one-*ℤ (value_at ρ i)
  normal_ok (con c) = +ℤ_idr (c *ℤ pos 1) ∙ *ℤ_comm c (pos 1) ∙ one-*ℤ c
  normal_ok (a +ᵉ b) = add_p_ok (normal a) (normal b) ∙ ap₂ (λ (y z : ℤ). y +ℤ z) (normal_ok a) (normal_ok b)
  normal_ok (a *ᵉ b) = mul_p_ok (normal a) (normal b) ∙ ap₂ (λ (y z : ℤ). y *ℤ z) (normal_ok a) (normal_ok b)
  normal_ok (neg a) = neg_p_ok (normal a) ∙ ap neg_ℤ (normal_ok a)

  is_zero_ok : (p : Poly) → T (is_zero p) → eval_p p ≡ pos 0
  is_zero_ok nil t = refl
  is_zero_ok (term (pos zero) m p) t = ap (λ (z : ℤ). z +ℤ eval_p p) (zero-*ℤ (eval_m m)) ∙ +ℤ_idl (eval_p p) ∙ is_zero_ok p t
  is_zero_ok (term (pos (suc c)) m p) t = absurd t
  is_zero_ok (term (negsuc c) m p) t = absurd t

  -- equal polynomials have equal values
  pub ring : (a b : Expr) → T (same a b) → eval ρ a ≡ eval ρ b
  ring a b t =
      eq_of_sub (eval ρ a) (eval ρ b)
      (sym (add_p_ok (normal a) (neg_p (normal b)) ∙ ap₂ (λ (y z : ℤ). y +ℤ z) (normal_ok a) (neg_p_ok (normal b) ∙ ap neg_ℤ (normal_ok b)))
      ∙ is_zero_ok (add_p (normal a) (neg_p (normal b))) t)
