-- What it means that neighbours fold back: a to b and b to c have a point in common other than b exactly if `folds_back a b c` (`folds_shares`). Where a is b or b is
-- c they have b only, and `folds_back` is false. And what code can test in place of the scalar product: once the orientation is 0, b is above or below both a and c in x or
-- in y (`folds_extreme`). Assumes nothing.
use Rattle.std.specs.Prelude.{◌≡◌, Bool, true, false, ◌&&◌, ◌||◌, ◌⊎◌, ◌↔◌, ℕ, zero, suc, ◌+◌, ◌*◌, ◌-◌, ◌≤◌, ◌<◌, T, eqb, ℤ, negsuc, neg_ℤ, nat_abs, ◌+ℤ◌, ◌*ℤ◌, ◌-ℤ◌, ◌<ℤ◌}
use Rattle.std.proofs.Math.Path.{refl}
use Rattle.std.proofs.Common.{sym, ap, ap₂, ◌∙◌, subst, arith, mul-pos, zero-lt-suc, eqb→eq}
use Rattle.std.proofs.Math.Logic.{inl, inr}
use mathlib.Core.List.{List, [], ◌∷◌}
use Rattle.std.proofs.Math.IntN.{pos}
use Rattle.std.specs.Int.Signed.{lt_z, lt_z_yes}
use Rattle.std.specs.Float.Ieee.Fits.{and_i, and_l, and_r, eq→eqb}
use Rattle.laws.proofs.Integer.{eq_of_sub}
use Rattle.laws.proofs.RingBase.{Expr, var, num, ◌+ᵉ◌, ◌*ᵉ◌, ◌-ᵉ◌, neg}
use Rattle.laws.proofs.CertificateBase.{Nonneg, nonneg, nonneg_is, nonneg-+, nonneg_sq, not_nonneg, to_le, of-≤ℤ, <ℤ_or-≤ℤ, sign, hyp, nat, ◌⊞◌, ◌⊠◌}
use Rattle.laws.proofs.Certificate.{of-<ℤ, <ℤ_weaken}
use Rattle.laws.proofs.CertificateBase.{sq, eqn, zero_of}
use Rattle.laws.proofs.Certificate.{prove}
use Rattle.exact.specs.Corner.{Vector, cross}
use Rattle.outline_orientation.specs.Orient.{way, orient}
use Rattle.outline_sound.specs.Sound.{scalar_product, folds_back}
use Rattle.outline_sound.specs.Zero.{vanishes, cancel}
use Rattle.outline_sound.specs.OverlapLaws.{Level, Weights}
use Rattle.laws.specs.Tests.{T-ext}
use Rattle.outline_sound.specs.MeetsLaws.{along, Shares, shares_of, weights_of, xᵉ, yᵉ, orientᵉ}

-- ---- the statement

-- a point in common other than b
pub record SharesMore (a b c : Vector) : Type 0 where
  pub point : Shares a b b c
  pub other : (along point.n point.j b.x c.x ≡ pos point.n *ℤ b.x)
      × (along point.n point.j b.y c.y ≡ pos point.n *ℤ b.y) → ⊥

-- the two parts of `folds_back`
pub record Folds (a b c : Vector) : Type 0 where
  pub level : orient a b c ≡ pos 0
  pub back : scalar_product (way a b) (way b c) <ℤ pos 0

zero_abs : (z : ℤ) → T (eqb (nat_abs z) 0) ↔ (z ≡ pos 0)
zero_abs z = (λ t. there z (eqb→eq (nat_abs z) 0 t), λ e. eq→eqb (ap nat_abs e))
  where
    none : (n : ℕ) → suc n ≡ 0 → ⊥
    none n e = omega arith

    there : (z : ℤ) → nat_abs z ≡ 0 → z ≡ pos 0
    there (pos n) e = ap pos e
    there (negsuc n) e = absurd (none n e)

pub folds_parts : (a b c : Vector) → T (folds_back a b c) ↔ Folds a b c
unfolding folds_back
folds_parts a b c =
    let l = eqb (nat_abs (orient a b c)) 0 in
    let k = lt_z (scalar_product (way a b) (way b c)) (pos 0) in (
      λ t. record { level = (zero_abs (orient a b c)).0 (and_l l k t); back = lt_z_yes (and_r l k t) },
      λ h. and_i l k ((zero_abs (orient a b c)).1 h.level) h.back.lt,
    )

-- j n-ths of the way from u to v is u itself exactly if j times the way is 0
stays : (n j : ℕ) → j ≤ n → (u v : ℤ) → (along n j u v ≡ pos n *ℤ u) ↔ (pos j *ℤ (v -ℤ u) ≡ pos 0)
stays n j h u v = (
  λ e. vanishes ρ ((var 0 *ᵉ var 3 +ᵉ var 1 *ᵉ var 4 -ᵉ var 2 *ᵉ var 3) ∷ sumᵉ ∷ []) (zero_of e, (zero_of sums, tt)) (var 1 *ᵉ (var 4 -ᵉ var 3))
      (num 1 ∷ neg (var 3) ∷ []) tt,
  λ e. eq_of_sub _ _
      (vanishes ρ ((var 1 *ᵉ (var 4 -ᵉ var 3)) ∷ sumᵉ ∷ []) (e, (zero_of sums, tt)) (var 0 *ᵉ var 3 +ᵉ var 1 *ᵉ var 4 -ᵉ var 2 *ᵉ var 3)
      (num 1 ∷ var 3 ∷ []) tt),
)
  where
    ρ : List ℤ
    ρ = pos (n - j) ∷ pos j ∷ pos n ∷ u ∷ v ∷ []

    sumᵉ : Expr
    sumᵉ = var 0 +ᵉ var 1 -ᵉ var 2

    sums : pos (n - j) +ℤ pos j ≡ pos n
    sums = ap pos (back n j h)
      where
        back : (n j : ℕ) → j ≤ n → n - j + j ≡ n
        back n j h = omega arith

-- ---- three places as variables, 0 to 5; the weights from 6 on

abbrev three : Vector → Vector → Vector → List ℤ → List ℤ
three a b c rest = a.x ∷ a.y ∷ b.x ∷ b.y ∷ c.x ∷ c.y ∷ rest

-- the way from b to a and from b to c, x and y each
abbrev ux : Expr
ux = xᵉ 0 -ᵉ xᵉ 1

abbrev uy : Expr
uy = yᵉ 0 -ᵉ yᵉ 1

abbrev wx : Expr
wx = xᵉ 2 -ᵉ xᵉ 1

abbrev wy : Expr
wy = yᵉ 2 -ᵉ yᵉ 1

abbrev dotᵉ : Expr
dotᵉ = (xᵉ 1 -ᵉ xᵉ 0) *ᵉ (xᵉ 2 -ᵉ xᵉ 1) +ᵉ (yᵉ 1 -ᵉ yᵉ 0) *ᵉ (yᵉ 2 -ᵉ yᵉ 1)

-- ---- from folding back to the point: u and w being these ways, u·w weighs a and b, and u·u weighs b and c

module _ (a b c : Vector) (h : Folds a b c) where
  squared : Nonneg (scalar_product (way b a) (way b a))
  unfolding scalar_product
  squared = nonneg-+ (nonneg_sq (a.x -ℤ b.x)) (nonneg_sq (a.y -ℤ b.y))

  product : Nonneg (neg_ℤ (scalar_product (way a b) (way b c)))
  product =
      let z = scalar_product (way a b) (way b c) in
      prove (z ∷ []) ((num 0 -ᵉ var 0 -ᵉ num 1) ∷ []) (of-<ℤ h.back, tt) [] tt 0 (neg (var 0)) (hyp 0 ⊞ nat 1) tt

  folds_level_x : neg_ℤ (scalar_product (way a b) (way b c)) *ℤ a.x +ℤ scalar_product (way b a) (way b a) *ℤ b.x
      ≡ neg_ℤ (scalar_product (way a b) (way b c)) *ℤ b.x +ℤ scalar_product (way b a) (way b a) *ℤ c.x
  unfolding scalar_product orient cross
  folds_level_x =
      eq_of_sub _ _
      (vanishes (three a b c []) (orientᵉ 0 1 2 ∷ []) (h.level, tt)
      (neg dotᵉ *ᵉ xᵉ 0 +ᵉ (ux *ᵉ ux +ᵉ uy *ᵉ uy) *ᵉ xᵉ 1 -ᵉ (neg dotᵉ *ᵉ xᵉ 1 +ᵉ (ux *ᵉ ux +ᵉ uy *ᵉ uy) *ᵉ xᵉ 2)) (neg uy ∷ []) tt)

  folds_level_y : neg_ℤ (scalar_product (way a b) (way b c)) *ℤ a.y +ℤ scalar_product (way b a) (way b a) *ℤ b.y
      ≡ neg_ℤ (scalar_product (way a b) (way b c)) *ℤ b.y +ℤ scalar_product (way b a) (way b a) *ℤ c.y
  unfolding scalar_product orient cross
  folds_level_y =
      eq_of_sub _ _
      (vanishes (three a b c []) (orientᵉ 0 1 2 ∷ []) (h.level, tt)
      (neg dotᵉ *ᵉ yᵉ 0 +ᵉ (ux *ᵉ ux +ᵉ uy *ᵉ uy) *ᵉ yᵉ 1 -ᵉ (neg dotᵉ *ᵉ yᵉ 1 +ᵉ (ux *ᵉ ux +ᵉ uy *ᵉ uy) *ᵉ yᵉ 2)) (ux ∷ []) tt)

  -- it is not b: else u·u times w would be 0, and (u·w)² is at most (u·u)·(w·w)
  folds_other : scalar_product (way b a) (way b a) *ℤ (c.x -ℤ b.x) ≡ pos 0 → scalar_product (way b a) (way b a) *ℤ (c.y -ℤ b.y) ≡ pos 0 → ⊥
  unfolding scalar_product
  folds_other x y =
      not_nonneg {n = 0}
      (prove (three a b c []) ((num 0 -ᵉ dotᵉ -ᵉ num 1) ∷ []) (of-<ℤ h.back, tt)
      (((ux *ᵉ ux +ᵉ uy *ᵉ uy) *ᵉ wx) ∷ ((ux *ᵉ ux +ᵉ uy *ᵉ uy) *ᵉ wy) ∷ []) (x, (y, tt)) 0
      (neg (num 1)) (hyp 0 ⊠ hyp 0 ⊞ nat 2 ⊠ hyp 0 ⊞ sq (ux *ᵉ wy -ᵉ uy *ᵉ wx) ⊞ eqn 0 (neg wx) ⊞ eqn 1 (neg wy)) tt)

  pub folds_more : SharesMore a b c
  unfolding shares_of
  folds_more =
      let A = nonneg_is squared in
      let B = nonneg_is product in
      let some : 1 ≤ B.0 =
      to_le 1 B.0
      (prove (scalar_product (way a b) (way b c) ∷ pos B.0 ∷ []) ((num 0 -ᵉ var 0 -ᵉ num 1) ∷ []) (of-<ℤ h.back, tt) ((neg (var 0) -ᵉ var 1) ∷ [])
      (zero_of B.1, tt) 0 (var 1 -ᵉ num 1) (hyp 0 ⊞ eqn 0 (neg (num 1))) tt) in
      record {
        point = shares_of a b b c (weights A.0 B.0 some) (over a.x b.x c.x A.1 B.1 folds_level_x)
            (over a.y b.y c.y A.1 B.1 folds_level_y);
        other = λ e. folds_other
            (ap (λ (z : ℤ). z *ℤ (c.x -ℤ b.x)) A.1 ∙ (stays (B.0 + A.0) A.0 (omega arith) b.x c.x).0 e.0)
            (ap (λ (z : ℤ). z *ℤ (c.y -ℤ b.y)) A.1 ∙ (stays (B.0 + A.0) A.0 (omega arith) b.y c.y).0 e.1);
      }
    where
      weights : (i j : ℕ) → 1 ≤ j → Weights j i j i
      weights i j h = record { some = omega arith; even = refl }

      over : {p q : ℤ} {i j : ℕ} (u v w : ℤ) → p ≡ pos i → q ≡ pos j → q *ℤ u +ℤ p *ℤ v ≡ q *ℤ v +ℤ p *ℤ w → Level j i j i u v v w
      over u v w ep eq e = ap₂ (λ (y z : ℤ). y *ℤ u +ℤ z *ℤ v) (sym eq) (sym ep) ∙ e ∙ ap₂ (λ (y z : ℤ). y *ℤ v +ℤ z *ℤ w) eq ep

-- ---- from the point to folding back

square_zero : (z : ℤ) → Nonneg (neg_ℤ (z *ℤ z)) → z ≡ pos 0
square_zero z h = go z h
  where
    bad : (x : ℕ) → 0 < x → Nonneg (neg_ℤ (pos x)) → ⊥
    bad zero p h = omega arith
    bad (suc x) p h = not_nonneg h

    go : (z : ℤ) → Nonneg (neg_ℤ (z *ℤ z)) → z ≡ pos 0
    go (pos zero) h = refl
    go (pos (suc n)) h = absurd (bad (suc n * suc n) (mul-pos (zero-lt-suc n) (zero-lt-suc n)) h)
    go (negsuc n) h = absurd (bad (suc n * suc n) (mul-pos (zero-lt-suc n) (zero-lt-suc n)) h)

module _ (a b c : Vector) (i' i j' j : ℕ) (w : Weights i' i j' j) (x : Level i' i j' j a.x b.x b.x c.x)
    (y : Level i' i j' j a.y b.y b.y c.y) (other : (pos j *ℤ (c.x -ℤ b.x) ≡ pos 0) × (pos j *ℤ (c.y -ℤ b.y) ≡ pos 0) → ⊥) where
  -- i', i, j', j are the variables 6 to 9
  abbrev ρ : List ℤ
  ρ = three a b c (pos i' ∷ pos i ∷ pos j' ∷ pos j ∷ [])

  abbrev known : List Expr
  known =
      (var 6 *ᵉ xᵉ 0 +ᵉ var 7 *ᵉ xᵉ 1 -ᵉ (var 8 *ᵉ xᵉ 1 +ᵉ var 9 *ᵉ xᵉ 2)) ∷ (var 6 *ᵉ yᵉ 0 +ᵉ var 7 *ᵉ yᵉ 1 -ᵉ (var 8 *ᵉ yᵉ 1 +ᵉ var 9 *ᵉ yᵉ 2))
      ∷ (var 6 +ᵉ var 7 -ᵉ (var 8 +ᵉ var 9)) ∷ []

  -- i' is not 0: else the point would be b
  from_a : pos i' ≡ pos 0 → ⊥
  from_a e =
      other (
        vanishes ρ (var 6 ∷ known) (e, (zero_of x, (zero_of y, (zero_of (ap pos w.even), tt)))) (var 9 *ᵉ wx)
            (ux ∷ neg (num 1) ∷ num 0 ∷ xᵉ 1 ∷ []) tt,
        vanishes ρ (var 6 ∷ known) (e, (zero_of x, (zero_of y, (zero_of (ap pos w.even), tt)))) (var 9 *ᵉ wy)
            (uy ∷ num 0 ∷ neg (num 1) ∷ yᵉ 1 ∷ []) tt,
      )

  more_level : orient a b c ≡ pos 0
  unfolding orient cross
  more_level =
      cancel (pos i') _ from_a
      (vanishes ρ known (zero_of x, (zero_of y, (zero_of (ap pos w.even), tt))) (var 6 *ᵉ orientᵉ 0 1 2)
      (neg wy ∷ wx ∷ (xᵉ 1 *ᵉ wy -ᵉ yᵉ 1 *ᵉ wx) ∷ []) tt)

  more_back : scalar_product (way a b) (way b c) <ℤ pos 0
  unfolding scalar_product
  more_back =
      elim (<ℤ_or-≤ℤ (scalar_product (way a b) (way b c)) (pos 0)) [
        | inl h ↦ h
        | inr h ↦ absurd
            (other (
              square_zero (pos j *ℤ (c.x -ℤ b.x))
                  (prove ρ (var 6 ∷ var 9 ∷ (dotᵉ -ᵉ num 0) ∷ []) (nonneg i', (nonneg j, (of-≤ℤ h, tt))) known
                  (zero_of x, (zero_of y, (zero_of (ap pos w.even), tt))) 0 (neg (var 9 *ᵉ wx *ᵉ (var 9 *ᵉ wx)))
                  (sq (var 9 *ᵉ wy) ⊞ hyp 0 ⊠ hyp 1 ⊠ hyp 2 ⊞ eqn 0 (var 9 *ᵉ wx) ⊞ eqn 1 (var 9 *ᵉ wy)
                  ⊞ eqn 2 (neg (var 9 *ᵉ (xᵉ 1 *ᵉ wx +ᵉ yᵉ 1 *ᵉ wy)))) tt),
              square_zero (pos j *ℤ (c.y -ℤ b.y))
                  (prove ρ (var 6 ∷ var 9 ∷ (dotᵉ -ᵉ num 0) ∷ []) (nonneg i', (nonneg j, (of-≤ℤ h, tt))) known
                  (zero_of x, (zero_of y, (zero_of (ap pos w.even), tt))) 0 (neg (var 9 *ᵉ wy *ᵉ (var 9 *ᵉ wy)))
                  (sq (var 9 *ᵉ wx) ⊞ hyp 0 ⊠ hyp 1 ⊠ hyp 2 ⊞ eqn 0 (var 9 *ᵉ wx) ⊞ eqn 1 (var 9 *ᵉ wy)
                  ⊞ eqn 2 (neg (var 9 *ᵉ (xᵉ 1 *ᵉ wx +ᵉ yᵉ 1 *ᵉ wy)))) tt),
            ))
      ]

pub more_folds : (a b c : Vector) → SharesMore a b c → Folds a b c
more_folds a b c h =
    let s = h.point in
    let o : (pos s.j *ℤ (c.x -ℤ b.x) ≡ pos 0) × (pos s.j *ℤ (c.y -ℤ b.y) ≡ pos 0) → ⊥ =
    λ e. h.other ((stays s.n s.j s.second b.x c.x).1 e.0, (stays s.n s.j s.second b.y c.y).1 e.1) in
    record {
      level = more_level a b c _ _ _ _ (weights_of s) s.x s.y o;
      back = more_back a b c _ _ _ _ (weights_of s) s.x s.y o;
    }

-- ---- in place of the scalar product

-- v is above both u and w, or below both
unfoldable pub is_extreme : ℤ → ℤ → ℤ → Bool
is_extreme u v w = (lt_z u v && lt_z w v) || (lt_z v u && lt_z v w)

-- the step to v and the step from v go opposite ways
extreme_steps : (u v w : ℤ) → T (is_extreme u v w) ↔ Nonneg (neg_ℤ ((v -ℤ u) *ℤ (w -ℤ v)) -ℤ pos 1)
unfolding is_extreme
extreme_steps u v w = (there, back)
  where
    goal : Expr
    goal = neg ((var 1 -ᵉ var 0) *ᵉ (var 2 -ᵉ var 1)) -ᵉ num 1

    split : (p q r s : Bool) → T ((p && q) || (r && s)) → (T p × T q) ⊎ (T r × T s)
    split true true r s t = inl (tt, tt)
    split true false r s t = inr (and_l r s t, and_r r s t)
    split false q r s t = inr (and_l r s t, and_r r s t)

    left : (p q r s : Bool) → T p → T q → T ((p && q) || (r && s))
    left true true r s t u = tt
    left true false r s t u = absurd u
    left false q r s t u = absurd t

    right : (p q r s : Bool) → T r → T s → T ((p && q) || (r && s))
    right true true r s t u = tt
    right true false r s t u = and_i r s t u
    right false q r s t u = and_i r s t u

    there : T (is_extreme u v w) → Nonneg (neg_ℤ ((v -ℤ u) *ℤ (w -ℤ v)) -ℤ pos 1)
    there t =
        elim (split (lt_z u v) (lt_z w v) (lt_z v u) (lt_z v w) t) [
          | inl h ↦ prove (u ∷ v ∷ w ∷ []) ((var 1 -ᵉ var 0 -ᵉ num 1) ∷ (var 1 -ᵉ var 2 -ᵉ num 1) ∷ [])
              (of-<ℤ (lt_z_yes {a = u} {b = v} h.0), (of-<ℤ (lt_z_yes {a = w} {b = v} h.1), tt)) [] tt 0 goal (hyp 0 ⊠ hyp 1 ⊞ hyp 0 ⊞ hyp 1) tt
          | inr h ↦ prove (u ∷ v ∷ w ∷ []) ((var 0 -ᵉ var 1 -ᵉ num 1) ∷ (var 2 -ᵉ var 1 -ᵉ num 1) ∷ [])
              (of-<ℤ (lt_z_yes {a = v} {b = u} h.0), (of-<ℤ (lt_z_yes {a = v} {b = w} h.1), tt)) [] tt 0 goal (hyp 0 ⊠ hyp 1 ⊞ hyp 0 ⊞ hyp 1) tt
        ]

    -- neither step goes down, or neither goes up
    ups : Nonneg (neg_ℤ ((v -ℤ u) *ℤ (w -ℤ v)) -ℤ pos 1) → Nonneg (v -ℤ u) → Nonneg (w -ℤ v) → ⊥
    ups n p q =
        not_nonneg {n = 0}
        (prove (u ∷ v ∷ w ∷ []) (goal ∷ (var 1 -ᵉ var 0) ∷ (var 2 -ᵉ var 1) ∷ []) (n, (p, (q, tt))) [] tt 0 (neg (num 1)) (hyp 0 ⊞ hyp 1 ⊠ hyp 2) tt)

    downs : Nonneg (neg_ℤ ((v -ℤ u) *ℤ (w -ℤ v)) -ℤ pos 1) → Nonneg (u -ℤ v) → Nonneg (v -ℤ w) → ⊥
    downs n p q =
        not_nonneg {n = 0}
        (prove (u ∷ v ∷ w ∷ []) (goal ∷ (var 0 -ᵉ var 1) ∷ (var 1 -ᵉ var 2) ∷ []) (n, (p, (q, tt))) [] tt 0 (neg (num 1)) (hyp 0 ⊞ hyp 1 ⊠ hyp 2) tt)

    back : Nonneg (neg_ℤ ((v -ℤ u) *ℤ (w -ℤ v)) -ℤ pos 1) → T (is_extreme u v w)
    back n =
        elim (<ℤ_or-≤ℤ u v) [
          | inl h ↦ elim (<ℤ_or-≤ℤ w v) [
            | inl k ↦ left (lt_z u v) (lt_z w v) (lt_z v u) (lt_z v w) h.lt k.lt
            | inr k ↦ absurd (ups n (of-≤ℤ (<ℤ_weaken h)) (of-≤ℤ k))
          ]
          | inr h ↦ elim (<ℤ_or-≤ℤ v w) [
            | inl k ↦ elim (<ℤ_or-≤ℤ v u) [
              | inl l ↦ right (lt_z u v) (lt_z w v) (lt_z v u) (lt_z v w) l.lt k.lt
              | inr l ↦ absurd (ups n (of-≤ℤ l) (of-≤ℤ (<ℤ_weaken k)))
            ]
            | inr k ↦ absurd (downs n (of-≤ℤ h) (of-≤ℤ k))
          ]
        ]

-- in one line: the scalar product of e and f is below 0 exactly if that of their x's is or that of their y's is
module _ (ex ey fx fy : ℤ) (level : ex *ℤ fy -ℤ ey *ℤ fx ≡ pos 0) where
  abbrev opposite : ℤ → ℤ → Type 0
  opposite e f = Nonneg (neg_ℤ (e *ℤ f) -ℤ pos 1)

  abbrev steps : List ℤ
  steps = ex ∷ ey ∷ fx ∷ fy ∷ []

  xsᵉ : Expr
  xsᵉ = var 0 *ᵉ var 2

  ysᵉ : Expr
  ysᵉ = var 1 *ᵉ var 3

  one_opposite : (ex *ℤ fx +ℤ ey *ℤ fy) <ℤ pos 0 → opposite ex fx ⊎ opposite ey fy
  unfolding xsᵉ ysᵉ
  one_opposite h =
      elim (sign (ex *ℤ fx)) [
        | inl n ↦ inr (prove steps ((num 0 -ᵉ (xsᵉ +ᵉ ysᵉ) -ᵉ num 1) ∷ xsᵉ ∷ []) (of-<ℤ h, (n, tt)) [] tt 0 (neg ysᵉ -ᵉ num 1) (hyp 0 ⊞ hyp 1) tt)
        | inr n ↦ inl n
      ]

  opposite_x : opposite ex fx → (ex *ℤ fx +ℤ ey *ℤ fy) <ℤ pos 0
  unfolding xsᵉ ysᵉ
  opposite_x n =
      elim (<ℤ_or-≤ℤ (ex *ℤ fx +ℤ ey *ℤ fy) (pos 0)) [
        | inl h ↦ h
        | inr h ↦ absurd
            (not_nonneg {n = 0}
            (prove steps ((neg xsᵉ -ᵉ num 1) ∷ (xsᵉ +ᵉ ysᵉ -ᵉ num 0) ∷ []) (n, (of-≤ℤ h, tt)) ((var 0 *ᵉ var 3 -ᵉ var 1 *ᵉ var 2) ∷ []) (level, tt) 0
            (neg (num 1)) (hyp 0 ⊠ hyp 0 ⊞ hyp 0 ⊠ hyp 1 ⊞ nat 2 ⊠ hyp 0 ⊞ hyp 1 ⊞ sq (var 0 *ᵉ var 3) ⊞ eqn 0 (neg (var 0 *ᵉ var 3))) tt))
      ]

  opposite_y : opposite ey fy → (ex *ℤ fx +ℤ ey *ℤ fy) <ℤ pos 0
  unfolding xsᵉ ysᵉ
  opposite_y n =
      elim (<ℤ_or-≤ℤ (ex *ℤ fx +ℤ ey *ℤ fy) (pos 0)) [
        | inl h ↦ h
        | inr h ↦ absurd
            (not_nonneg {n = 0}
            (prove steps ((neg ysᵉ -ᵉ num 1) ∷ (xsᵉ +ᵉ ysᵉ -ᵉ num 0) ∷ []) (n, (of-≤ℤ h, tt)) ((var 0 *ᵉ var 3 -ᵉ var 1 *ᵉ var 2) ∷ []) (level, tt) 0
            (neg (num 1)) (hyp 0 ⊠ hyp 0 ⊞ hyp 0 ⊠ hyp 1 ⊞ nat 2 ⊠ hyp 0 ⊞ hyp 1 ⊞ sq (var 1 *ᵉ var 2) ⊞ eqn 0 (var 1 *ᵉ var 2)) tt))
      ]

-- the orientation at b is that of the two ways
orient_ways : (a b c : Vector) → orient a b c ≡ pos 0 → (b.x -ℤ a.x) *ℤ (c.y -ℤ b.y) -ℤ (b.y -ℤ a.y) *ℤ (c.x -ℤ b.x) ≡ pos 0
unfolding orient cross
orient_ways a b c e =
    vanishes (three a b c []) (orientᵉ 0 1 2 ∷ []) (e, tt) ((xᵉ 1 -ᵉ xᵉ 0) *ᵉ (yᵉ 2 -ᵉ yᵉ 1) -ᵉ (yᵉ 1 -ᵉ yᵉ 0) *ᵉ (xᵉ 2 -ᵉ xᵉ 1)) (num 1 ∷ []) tt

-- THE TEST FOR CODE: once the orientation is 0, b is above or below both a and c in x or in y.
pub folds_extreme : (a b c : Vector)
    → folds_back a b c ≡ (eqb (nat_abs (orient a b c)) 0 && (is_extreme a.x b.x c.x || is_extreme a.y b.y c.y))
unfolding folds_back scalar_product
folds_extreme a b c = go (eqb (nat_abs (orient a b c)) 0) refl
  where
    X : Bool
    X = is_extreme a.x b.x c.x

    Y : Bool
    Y = is_extreme a.y b.y c.y

    or_split : (p q : Bool) → T (p || q) → T p ⊎ T q
    or_split true q t = inl tt
    or_split false q t = inr t

    or_left : (p q : Bool) → T p → T (p || q)
    or_left true q t = tt
    or_left false q t = absurd t

    or_right : (p q : Bool) → T q → T (p || q)
    or_right true q t = tt
    or_right false q t = t

    go : (l : Bool) → eqb (nat_abs (orient a b c)) 0 ≡ l → (l && lt_z (scalar_product (way a b) (way b c)) (pos 0)) ≡ (l && (X || Y))
    go false e = refl
    go true e =
        let level = orient_ways a b c ((zero_abs (orient a b c)).0 (subst T (sym e) tt)) in
        let ex = b.x -ℤ a.x in
        let ey = b.y -ℤ a.y in
        let fx = c.x -ℤ b.x in
        let fy = c.y -ℤ b.y in
        T-ext (lt_z (scalar_product (way a b) (way b c)) (pos 0)) (X || Y)
        (λ t. elim (one_opposite ex ey fx fy level (lt_z_yes t)) [
          | inl n ↦ or_left X Y ((extreme_steps a.x b.x c.x).1 n)
          | inr n ↦ or_right X Y ((extreme_steps a.y b.y c.y).1 n)
        ])
        (λ t. elim (or_split X Y t) [
          | inl h ↦ (opposite_x ex ey fx fy level ((extreme_steps a.x b.x c.x).0 h)).lt
          | inr h ↦ (opposite_y ex ey fx fy level ((extreme_steps a.y b.y c.y).0 h)).lt
        ])
