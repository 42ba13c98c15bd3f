-- A solver for polynomial identities over ℤ, by computation: `ring ρ a b tt` proves `eval ρ a ≡ eval ρ b`, for two expressions a and b
-- in the variables ρ, wherever a - b has only zero coefficients. tools/ring.py writes such calls. Assumes nothing.
-- A polynomial is a list of terms, a coefficient and a monomial each; a monomial is the sorted list of its variables.
-- Only equality of monomials matters for soundness: the order of terms decides no more than whether like terms meet.
use Rattle.std.specs.Prelude.{List, [], ◌∷◌, Bool, true, false, leb, ℤ, pos, negsuc, neg_ℤ, ◌+ℤ◌, ◌*ℤ◌}
use Prim.Native.Nat.{ℕ, zero, suc, compare, Ordering}

infixl 6 ◌+ᵉ◌ ◌-ᵉ◌
infixl 7 ◌*ᵉ◌
-- an expression: var i is entry i of the list of variables, con a constant
pub data Expr : Type 0 where
  var : ℕ → Expr
  con : ℤ → Expr
  ◌+ᵉ◌ : Expr → Expr → Expr
  ◌*ᵉ◌ : Expr → Expr → Expr
  neg : Expr → Expr

abbrev pub ◌-ᵉ◌ : Expr → Expr → Expr
a -ᵉ b = a +ᵉ neg b

-- a numeral
abbrev pub num : ℕ → Expr
num n = con (pos n)

-- entry n of the list of variables; past its end it is 0
abbrev pub value_at : List ℤ → ℕ → ℤ
value_at [] n = pos 0
value_at (x ∷ xs) zero = x
value_at (x ∷ xs) (suc n) = value_at xs n

-- what an expression stands for
abbrev pub eval : List ℤ → Expr → ℤ
eval ρ (var i) = value_at ρ i
eval ρ (con c) = c
eval ρ (a +ᵉ b) = eval ρ a +ℤ eval ρ b
eval ρ (a *ᵉ b) = eval ρ a *ℤ eval ρ b
eval ρ (neg a) = neg_ℤ (eval ρ a)

-- ---- polynomials

-- no term, or c * m and then the rest
pub data Poly : Type 0 where
  nil : Poly
  term : ℤ → List ℕ → Poly → Poly

-- the first of two comparisons that tells
abbrev pub then_by : Ordering → Ordering → Ordering
then_by Ordering.lt c = Ordering.lt
then_by Ordering.eq c = c
then_by Ordering.gt c = Ordering.gt

-- monomials compared by degree, then by the first variable that differs; o is what the variables so far told
abbrev pub compare_m : List ℕ → List ℕ → Ordering → Ordering
compare_m [] [] o = o
compare_m [] (y ∷ ys) o = Ordering.lt
compare_m (x ∷ xs) [] o = Ordering.gt
compare_m (x ∷ xs) (y ∷ ys) o = compare_m xs ys (then_by o (compare x y))

-- a variable put in its place
abbrev pub insert_m : ℕ → List ℕ → List ℕ
insert_m x [] = x ∷ []
insert_m x (y ∷ ys) = elim (leb x y) [ true ↦ x ∷ y ∷ ys | false ↦ y ∷ insert_m x ys ]

-- the product of two monomials
abbrev pub mul_m : List ℕ → List ℕ → List ℕ
mul_m [] m = m
mul_m (x ∷ xs) m = insert_m x (mul_m xs m)

-- c * m merged into a polynomial; k merges what comes after c * m into the rest
abbrev pub into : ℤ → List ℕ → (Poly → Poly) → Poly → Poly
into c m k nil = term c m (k nil)
into c m k (term d n q) =
    elim (compare_m m n Ordering.eq) [
      | Ordering.lt ↦ term c m (k (term d n q))
      | Ordering.eq ↦ term (c +ℤ d) m (k q)
      | Ordering.gt ↦ term d n (into c m k q)
    ]

abbrev pub add_p : Poly → Poly → Poly
add_p nil = λ q. q
add_p (term c m p) = into c m (add_p p)

-- c * m times a polynomial
abbrev pub mul_t : ℤ → List ℕ → Poly → Poly
mul_t c m nil = nil
mul_t c m (term d n q) = term (c *ℤ d) (mul_m m n) (mul_t c m q)

abbrev pub mul_p : Poly → Poly → Poly
mul_p nil q = nil
mul_p (term c m p) q = add_p (mul_t c m q) (mul_p p q)

abbrev pub neg_p : Poly → Poly
neg_p nil = nil
neg_p (term c m p) = term (neg_ℤ c) m (neg_p p)

-- an expression multiplied out
abbrev pub normal : Expr → Poly
normal (var i) = term (pos 1) (i ∷ []) nil
normal (con c) = term c [] nil
normal (a +ᵉ b) = add_p (normal a) (normal b)
normal (a *ᵉ b) = mul_p (normal a) (normal b)
normal (neg a) = neg_p (normal a)

-- every coefficient is 0
abbrev pub is_zero : Poly → Bool
is_zero nil = true
is_zero (term (pos zero) m p) = is_zero p
is_zero (term (pos (suc c)) m p) = false
is_zero (term (negsuc c) m p) = false

-- the test of `ring`
abbrev pub same : Expr → Expr → Bool
same a b = is_zero (add_p (normal a) (neg_p (normal b)))
