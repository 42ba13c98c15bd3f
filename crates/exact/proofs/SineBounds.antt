-- The arithmetic of the sine theorem, in whole numbers: from how close each rounded step is to the exact one, that the exact cross product is
-- above a third of the product of the exact lengths. Errors are taken crudely, 10 ^ -4 for each 2 ^ -53: sin 20 degrees is 0.342, so there is
-- room. No numeral is above 38 digits, which is as far as `omega` reads. Assumes nothing.
use Rattle.std.specs.Prelude.{◌≡◌, List, [], ◌∷◌, Bool, true, false, ℕ, suc, ◌+◌, ◌*◌, ◌^◌, ◌≤◌, ◌<◌, T, ℤ, pos, ◌+ℤ◌, ◌*ℤ◌, ◌-ℤ◌}
use Rattle.std.proofs.Common.{sym, ap, ◌∙◌, subst, le_trans, le_of_eq, le_of_suc-le-suc, lt_of_le_of_lt, add_comm, suc-mul, mul-suc, mul_comm, mul_assoc, mul-le-mul, mul-le-mul_right, add-mul, mul-pos, arith}
use Rattle.std.proofs.Math.Nat.{mul-mul-mul_comm}
use Rattle.laws.proofs.RingBase.{Expr, var, con, num, ◌+ᵉ◌, ◌*ᵉ◌, ◌-ᵉ◌, neg, eval, same}
use Rattle.laws.proofs.CertificateBase.{Nonneg, nonneg, of_le, Certificate, hyp, nat, ◌⊞◌, ◌⊠◌, eqn, expr_of, zero_of}
use Rattle.laws.proofs.Certificate.{prove}
use Rattle.laws.proofs.Examples.{cauchy}
use Rattle.numbers.specs.Isqrt.{square_lt}
use Rattle.exact.proofs.Rounding.{Close, close_scale}
use Rattle.exact.specs.Units.{W, W-big, signed}

-- ---- general patterns

-- a x ≤ b y and c z ≤ d v: the products
pub mul_le : (x y z v a b c d : ℕ) → a * x ≤ b * y → c * z ≤ d * v → a * c * (x * z) ≤ b * d * (y * v)
mul_le x y z v a b c d h k = le_trans (le_of_eq (mul-mul-mul_comm a c x z)) (le_trans (mul-le-mul h k) (le_of_eq (mul-mul-mul_comm b y d v)))

pub le_of_sq : (x y : ℕ) → x * x ≤ y * y → x ≤ y
le_of_sq x y h = le_of_suc-le-suc (square_lt x (suc y) (lt_of_le_of_lt h more))
  where
    more : y * y < suc y * suc y
    more = omega (arith, suc-mul y (suc y), mul-suc y y)

-- x is n within 10 ^ -4
abbrev pub Rel : ℕ → ℕ → Type 0
Rel x n = (10000 * x ≤ 10001 * n) × (9999 * n ≤ 10000 * x)

-- and within u besides
abbrev pub RelAnd : ℕ → ℕ → ℕ → Type 0
RelAnd x n u = (10000 * x ≤ 10001 * n + 10000 * u) × (9999 * n ≤ 10000 * x + 10000 * u)

pub rel : (x n : ℕ) → Close x n n → Rel x n
rel x n h = omega arith

pub rel_and : (x n u : ℕ) → Close x n (n + 2 ^ 52 * u) → RelAnd x n u
rel_and x n u h = (over h.0, under h.1)
  where
    -- apart: with both in reach `omega` meets numbers of more than 38 digits
    over : 2 ^ 53 * x ≤ 2 ^ 53 * n + (n + 2 ^ 52 * u) → 10000 * x ≤ 10001 * n + 10000 * u
    over h = omega arith

    under : 2 ^ 53 * n ≤ 2 ^ 53 * x + (n + 2 ^ 52 * u) → 9999 * n ≤ 10000 * x + 10000 * u
    under h = omega arith

-- ---- a length. w₀ and w₁ are the exact sides, g₀ and g₁ the rounded ones; p₀ and p₁ the rounded squares, s their rounded sum, L its root

-- L is above 10 ^ -13
abbrev pub Long : ℕ → Type 0
Long L = W ≤ 10 ^ 13 * L

-- one unit is far below the product of two lengths
pub unit_below : (L M : ℕ) → Long L → Long M → 10 ^ 10 * W ≤ L * M
unit_below L M h k = go (W * W) (L * M) (mul-le-mul_right W W-big) (le_trans (mul-le-mul h k) (le_of_eq (mul-mul-mul_comm (10 ^ 13) L (10 ^ 13) M)))
  where
    go : (y z : ℕ) → 10 ^ 36 * W ≤ y → y ≤ 10 ^ 26 * z → 10 ^ 10 * W ≤ z
    go y z a b = omega arith

square_rel : (g w : ℕ) → Rel g w → 9997 * (w * w) ≤ 10000 * (g * g)
square_rel g w r = go (w * w) (g * g) (mul_le w g w g 9999 10000 9999 10000 r.1 r.1)
  where
    go : (y z : ℕ) → 99980001 * y ≤ 100000000 * z → 9997 * y ≤ 10000 * z
    go y z h = omega arith

scaled_sum : (s p₀ p₁ : ℕ) → Close s (p₀ + p₁) (p₀ + p₁) → Close (s * W) (p₀ * W + p₁ * W) (p₀ * W + p₁ * W)
scaled_sum s p₀ p₁ h = subst (λ (z : ℕ). Close (s * W) z z) (add-mul p₀ p₁ W) (close_scale s (p₀ + p₁) (p₀ + p₁) W h)

pub length_law : (w₀ w₁ g₀ g₁ p₀ p₁ s L : ℕ) → Rel g₀ w₀ → Rel g₁ w₁ → RelAnd (p₀ * W) (g₀ * g₀) W → RelAnd (p₁ * W) (g₁ * g₁) W
    → Close s (p₀ + p₁) (p₀ + p₁) → 9999 * (s * W) ≤ 10000 * (L * L) → Long L → 9985 * (w₀ * w₀ + w₁ * w₁) ≤ 10000 * (L * L)
length_law w₀ w₁ g₀ g₁ p₀ p₁ s L r₀ r₁ c₀ c₁ cs q l =
    last (w₀ * w₀) (w₁ * w₁) (g₀ * g₀) (g₁ * g₁) (L * L) (square_rel g₀ w₀ r₀) (square_rel g₁ w₁ r₁)
    (rounded (g₀ * g₀) (g₁ * g₁) (p₀ * W) (p₁ * W) (s * W) (L * L) c₀ c₁
    (rel (s * W) (p₀ * W + p₁ * W) (scaled_sum s p₀ p₁ cs)) q (unit_below L L l l))
  where
    rounded : (A₀ A₁ P₀ P₁ S Q : ℕ) → RelAnd P₀ A₀ W → RelAnd P₁ A₁ W → Rel S (P₀ + P₁) → 9999 * S ≤ 10000 * Q → 10 ^ 10 * W ≤ Q → 9990 * (A₀ + A₁) ≤ 10000 * Q
    rounded A₀ A₁ P₀ P₁ S Q a b c d e = omega arith

    last : (a b c d q : ℕ) → 9997 * a ≤ 10000 * c → 9997 * b ≤ 10000 * d → 9990 * (c + d) ≤ 10000 * q → 9985 * (a + b) ≤ 10000 * q
    last a b c d q h k l = omega arith

-- and a side whose computed length passes the test is not short
pub side_law : (w₀ w₁ g₀ g₁ p₀ p₁ s L : ℕ) → Rel g₀ w₀ → Rel g₁ w₁ → RelAnd (p₀ * W) (g₀ * g₀) W → RelAnd (p₁ * W) (g₁ * g₁) W
    → Close s (p₀ + p₁) (p₀ + p₁) → L * L ≤ 2 * (s * W) → Long L → W * W ≤ 10 ^ 28 * (w₀ * w₀ + w₁ * w₁)
side_law w₀ w₁ g₀ g₁ p₀ p₁ s L r₀ r₁ c₀ c₁ cs q l =
    last (W * W) (L * L) (w₀ * w₀ + w₁ * w₁) (le_trans (mul-le-mul l l) (le_of_eq (mul-mul-mul_comm (10 ^ 13) L (10 ^ 13) L)))
    (rounded (w₀ * w₀) (w₁ * w₁) (g₀ * g₀) (g₁ * g₁) (p₀ * W) (p₁ * W) (s * W) (L * L)
    (mul_le g₀ w₀ g₀ w₀ 10000 10001 10000 10001 r₀.0 r₀.0) (mul_le g₁ w₁ g₁ w₁ 10000 10001 10000 10001 r₁.0 r₁.0)
    c₀.0 c₁.0 (rel (s * W) (p₀ * W + p₁ * W) (scaled_sum s p₀ p₁ cs)).0 q)
    (mul-le-mul_right W W-big)
  where
    rounded : (B₀ B₁ A₀ A₁ P₀ P₁ S Q : ℕ) → 100000000 * A₀ ≤ 100020001 * B₀ → 100000000 * A₁ ≤ 100020001 * B₁
        → 10000 * P₀ ≤ 10001 * A₀ + 10000 * W → 10000 * P₁ ≤ 10001 * A₁ + 10000 * W → 10000 * S ≤ 10001 * (P₀ + P₁) → Q ≤ 2 * S → Q ≤ 4 * (B₀ + B₁) + 8 * W
    rounded B₀ B₁ A₀ A₁ P₀ P₁ S Q a b c d e f = omega arith

    last : (X Q Z : ℕ) → X ≤ 10 ^ 26 * Q → Q ≤ 4 * Z + 8 * W → 10 ^ 36 * W ≤ X → X ≤ 10 ^ 28 * Z
    last X Q Z a b c = omega arith

-- ---- the quotient. y is the rounded product of the lengths L and M, d the rounded cross product, r the rounded quotient, K the bound that it exceeds

pub quotient_law : (L M y d r K : ℕ) → RelAnd (y * W) (L * M) W → 10 ^ 10 * W ≤ L * M → RelAnd (r * y) (d * W) y → K < r → 342 * W ≤ 1000 * K
    → 3418 * (L * M) ≤ 10000 * (d * W)
quotient_law L M y d r K a b c h k =
    go (L * M) (y * W) (K * y) (r * y) (d * W) a b c (le_trans (le_of_eq (sym (suc-mul K y))) (mul-le-mul_right y h))
    (le_trans (le_of_eq (ap (λ (z : ℕ). 342 * z) (mul_comm y W) ∙ sym (mul_assoc 342 W y))) (le_trans (mul-le-mul_right y k) (le_of_eq (mul_assoc 1000 K y))))
  where
    go : (N y_w KY r_y d_w : ℕ) → RelAnd y_w N W → 10 ^ 10 * W ≤ N → RelAnd r_y d_w y → KY + y ≤ r_y → 342 * y_w ≤ 1000 * KY → 3418 * N ≤ 10000 * d_w
    go N y_w KY r_y d_w a b c d e = omega arith

-- ---- the cross product. w and k are two exact sides, g and h the rounded ones, c their rounded product

-- c * W is x within 4 * 10 ^ -4, and within W besides
abbrev pub Apart : ℕ → ℕ → Type 0
Apart x c = (10000 * (c * W) ≤ 10004 * x + 10000 * W) × (9996 * x ≤ 10000 * (c * W) + 10000 * W)

pub product_law : (w k g h c : ℕ) → Rel g w → Rel h k → RelAnd (c * W) (g * h) W → Apart (w * k) c
product_law w k g h c r q l =
    go (w * k) (g * h) (c * W) (mul_le g w h k 10000 10001 10000 10001 r.0 q.0) (mul_le w g k h 9999 10000 9999 10000 r.1 q.1) l
  where
    go : (x y z : ℕ) → 100000000 * y ≤ 100020001 * x → 99980001 * x ≤ 100000000 * y → RelAnd z y W
        → (10000 * z ≤ 10004 * x + 10000 * W) × (9996 * x ≤ 10000 * z + 10000 * W)
    go x y z a b c = omega arith

-- the two products together are below twice the product of the lengths
pub products_below : (w₀ w₁ k₀ k₁ L M : ℕ) → 9985 * (w₀ * w₀ + w₁ * w₁) ≤ 10000 * (L * L) → 9985 * (k₀ * k₀ + k₁ * k₁) ≤ 10000 * (M * M)
    → w₀ * k₁ + w₁ * k₀ ≤ 2 * (L * M)
products_below w₀ w₁ k₀ k₁ L M h k =
    le_of_sq (w₀ * k₁ + w₁ * k₀) (2 * (L * M))
    (le_trans (cauchy w₀ k₁ w₁ k₀)
    (go ((w₀ * w₀ + w₁ * w₁) * (k₁ * k₁ + k₀ * k₀)) (L * L * (M * M)) (2 * (L * M) * (2 * (L * M)))
    (mul-mul-mul_comm 2 (L * M) 2 (L * M) ∙ ap (λ (z : ℕ). 4 * z) (mul-mul-mul_comm L M L M))
    (mul_le (w₀ * w₀ + w₁ * w₁) (L * L) (k₁ * k₁ + k₀ * k₀) (M * M) 9985 10000 9985 10000 h
    (le_trans (le_of_eq (ap (λ (z : ℕ). 9985 * z) (add_comm (k₁ * k₁) (k₀ * k₀)))) k))))
  where
    go : (a b c : ℕ) → c ≡ 4 * b → 99700225 * a ≤ 100000000 * b → a ≤ c
    go a b c e h = omega arith

-- with its sign: x is the exact size of a product, c the rounded one
pub signed_near : (s : Bool) (x c : ℕ) → Apart x c
    → Nonneg (pos 4 *ℤ pos x +ℤ pos 10000 *ℤ pos W +ℤ pos 10000 *ℤ (signed s x -ℤ signed s c *ℤ pos W))
    × Nonneg (pos 4 *ℤ pos x +ℤ pos 10000 *ℤ pos W +ℤ pos 10000 *ℤ (signed s c *ℤ pos W -ℤ signed s x))
signed_near s x c h = go s
  where
    ρ : List ℤ
    ρ = pos x ∷ pos c ∷ pos W ∷ []

    hs : List Expr
    hs =
        (num 10004 *ᵉ var 0 +ᵉ num 10000 *ᵉ var 2 -ᵉ num 10000 *ᵉ (var 1 *ᵉ var 2))
        ∷ (num 10000 *ᵉ (var 1 *ᵉ var 2) +ᵉ num 10000 *ᵉ var 2 -ᵉ num 9996 *ᵉ var 0) ∷ []

    by : (goal : Expr) (c : Certificate) → T (same (con (pos 1) *ᵉ goal) (expr_of hs [] c)) → Nonneg (eval ρ goal)
    by goal c t = prove ρ hs (of_le h.0, (of_le h.1, tt)) [] tt 0 goal c t

    over : Expr → Expr → Expr
    over X Z = num 4 *ᵉ var 0 +ᵉ num 10000 *ᵉ var 2 +ᵉ num 10000 *ᵉ (X -ᵉ Z *ᵉ var 2)

    under : Expr → Expr → Expr
    under X Z = num 4 *ᵉ var 0 +ᵉ num 10000 *ᵉ var 2 +ᵉ num 10000 *ᵉ (Z *ᵉ var 2 -ᵉ X)

    go : (s : Bool) → Nonneg (pos 4 *ℤ pos x +ℤ pos 10000 *ℤ pos W +ℤ pos 10000 *ℤ (signed s x -ℤ signed s c *ℤ pos W))
        × Nonneg (pos 4 *ℤ pos x +ℤ pos 10000 *ℤ pos W +ℤ pos 10000 *ℤ (signed s c *ℤ pos W -ℤ signed s x))
    go false = (by (over (var 0) (var 1)) (hyp 0) tt, by (under (var 0) (var 1)) (hyp 1) tt)
    go true = (by (over (neg (var 0)) (neg (var 1))) (hyp 1) tt, by (under (neg (var 0)) (neg (var 1))) (hyp 0) tt)

-- X and Y are the exact products, of the sizes x and y, and c₁ and c₂ the rounded ones; w is the exact difference of those and d the
-- rounded one; N is the product of the lengths
pub cross_law : (X Y c₁ c₂ : ℤ) (x y w d N : ℕ)
    → Nonneg (pos 4 *ℤ pos x +ℤ pos 10000 *ℤ pos W +ℤ pos 10000 *ℤ (X -ℤ c₁ *ℤ pos W))
    → Nonneg (pos 4 *ℤ pos y +ℤ pos 10000 *ℤ pos W +ℤ pos 10000 *ℤ (c₂ *ℤ pos W -ℤ Y))
    → 10000 * d ≤ 10001 * w → 3418 * N ≤ 10000 * (d * W) → x + y ≤ 2 * N → 10000 * W ≤ N → pos w ≡ c₁ -ℤ c₂
    → Nonneg (pos 1000 *ℤ (X -ℤ Y) -ℤ pos 340 *ℤ pos N)
cross_law X Y c₁ c₂ x y w d N h₀ h₁ h₂ h₃ h₄ h₅ e =
    let e_x = var 0 in let e_y = var 1 in let e₁ = var 2 in let e₂ = var 3 in let e_w = var 4 in
    let ex = var 5 in let ey = var 6 in let ew = var 7 in let ed = var 8 in let e_n = var 9 in
    prove (X ∷ Y ∷ c₁ ∷ c₂ ∷ pos W ∷ pos x ∷ pos y ∷ pos w ∷ pos d ∷ pos N ∷ [])
    ((num 4 *ᵉ ex +ᵉ num 10000 *ᵉ e_w +ᵉ num 10000 *ᵉ (e_x -ᵉ e₁ *ᵉ e_w))
    ∷ (num 4 *ᵉ ey +ᵉ num 10000 *ᵉ e_w +ᵉ num 10000 *ᵉ (e₂ *ᵉ e_w -ᵉ e_y))
    ∷ (num 10001 *ᵉ ew -ᵉ num 10000 *ᵉ ed) ∷ (num 10000 *ᵉ (ed *ᵉ e_w) -ᵉ num 3418 *ᵉ e_n) ∷ (num 2 *ᵉ e_n -ᵉ (ex +ᵉ ey)) ∷ (e_n -ᵉ num 10000 *ᵉ e_w) ∷ e_w ∷ e_n ∷ [])
    (h₀, (h₁, (of_le h₂, (of_le h₃, (of_le h₄, (of_le h₅, (nonneg W, (nonneg N, tt))))))))
    ((ew -ᵉ (e₁ -ᵉ e₂)) ∷ []) (zero_of e, tt) 100009
    (num 1000 *ᵉ (e_x -ᵉ e_y) -ᵉ num 340 *ᵉ e_n)
    (nat 10001 ⊠ (hyp 0 ⊞ hyp 1) ⊞ nat 10000 ⊠ (hyp 2 ⊠ hyp 6) ⊞ nat 10000 ⊠ hyp 3 ⊞ nat 40004 ⊠ hyp 4 ⊞ nat 20002 ⊠ hyp 5 ⊞ nat 76590 ⊠ hyp 7
    ⊞ eqn 0 (neg (num 100010000 *ᵉ e_w)))
    tt

-- ---- the claim, from a cross product p of at least 0.34 L M

pub sine_law : (p L M Q R : ℕ) → 0 < L * M → 340 * (L * M) ≤ 1000 * p → 9985 * Q ≤ 10000 * (L * L) → 9985 * R ≤ 10000 * (M * M)
    → (0 < p) × (Q * R < 9 * (p * p))
sine_law p L M Q R some h q r =
    let P = positive p (L * M) some h in (
      P,
      go (Q * R) (L * L * (M * M)) (L * M * (L * M)) (p * p) (mul-mul-mul_comm L L M M) (mul_le Q (L * L) R (M * M) 9985 10000 9985 10000 q r)
          (mul_le (L * M) p (L * M) p 340 1000 340 1000 h h) (mul-pos P P),
    )
  where
    positive : (p x : ℕ) → 0 < x → 340 * x ≤ 1000 * p → 0 < p
    positive p x a b = omega arith

    go : (a b c d : ℕ) → b ≡ c → 99700225 * a ≤ 100000000 * b → 115600 * c ≤ 1000000 * d → 0 < d → a < 9 * d
    go a b c d e h k l = omega arith
