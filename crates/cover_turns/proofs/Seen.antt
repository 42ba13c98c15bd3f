-- Triangles and quads that turn left, with their corners seen from a point: u and v stand for the ways to them, and `cross u v` is above 0 where the point is left of the
-- step from u to v. Which steps count is told by whether u and v are high.
use Rattle.std.specs.Prelude.{◌≡◌, refl, Bool, true, false, cond, List, [], ◌∷◌, T, not, ℕ, zero, suc, ◌+◌, ◌*◌, ℤ, pos, negsuc, neg_ℤ, ◌+ℤ◌, ◌-ℤ◌}
use Rattle.std.proofs.Common.{subst, inl, inr}
use Rattle.std.specs.Int.Signed.{lt_z, lt_z_yes, lt_z_no}
use Rattle.laws.proofs.RingBase.{Expr, var, num, ◌+ᵉ◌, ◌*ᵉ◌, ◌-ᵉ◌, neg}
use Rattle.laws.proofs.Ring.{ring}
use Rattle.laws.proofs.CertificateBase.{Nonneg, not_nonneg, of-≤ℤ, sign, hyp, nat, sq, eqn, ◌⊞◌, ◌⊠◌}
use Rattle.laws.proofs.Certificate.{of-<ℤ, prove}
use Rattle.exact.specs.Corner.{Vector, cross}
use Rattle.cover_turns.specs.Turn.{crossing}

-- ---- signs

abbrev pub Above : ℤ → Type 0
Above z = Nonneg (z -ℤ pos 1)

abbrev pub NotAbove : ℤ → Type 0
NotAbove z = Nonneg (neg_ℤ z)

abbrev pub Below : ℤ → Type 0
Below z = Nonneg (neg_ℤ z -ℤ pos 1)

-- above 0 where t, and not above it where not
abbrev pub Height : Bool → ℤ → Type 0
Height true z = Above z
Height false z = NotAbove z

module _ (z : ℤ) where
  pub above_yes : T (lt_z (pos 0) z) → Above z
  above_yes t = prove (z ∷ []) ((var 0 -ᵉ num 0 -ᵉ num 1) ∷ []) (of-<ℤ {a = pos 0} {b = z} (lt_z_yes t), tt) [] tt 0 (var 0 -ᵉ num 1) (hyp 0) tt

  pub above_no : T (not (lt_z (pos 0) z)) → NotAbove z
  above_no t = prove (z ∷ []) ((num 0 -ᵉ var 0) ∷ []) (of-≤ℤ {a = z} {b = pos 0} (lt_z_no t), tt) [] tt 0 (neg (var 0)) (hyp 0) tt

  pub below_yes : T (lt_z z (pos 0)) → Below z
  below_yes t = prove (z ∷ []) ((num 0 -ᵉ var 0 -ᵉ num 1) ∷ []) (of-<ℤ {a = z} {b = pos 0} (lt_z_yes t), tt) [] tt 0 (neg (var 0) -ᵉ num 1) (hyp 0) tt

  pub below_no : T (not (lt_z z (pos 0))) → Nonneg z
  below_no t = prove (z ∷ []) ((var 0 -ᵉ num 0) ∷ []) (of-≤ℤ {a = pos 0} {b = z} (lt_z_no t), tt) [] tt 0 (var 0) (hyp 0) tt

  pub clash : Above z → NotAbove z → ⊥
  clash h k = not_nonneg {n = 0} (prove (z ∷ []) ((var 0 -ᵉ num 1) ∷ neg (var 0) ∷ []) (h, (k, tt)) [] tt 0 (neg (num 1)) (hyp 0 ⊞ hyp 1) tt)

  pub clash_below : Above z → Below z → ⊥
  clash_below h k =
      not_nonneg {n = 1} (prove (z ∷ []) ((var 0 -ᵉ num 1) ∷ (neg (var 0) -ᵉ num 1) ∷ []) (h, (k, tt)) [] tt 0 (neg (num 2)) (hyp 0 ⊞ hyp 1) tt)

  weaker : Above z → Nonneg z
  weaker h = prove (z ∷ []) ((var 0 -ᵉ num 1) ∷ []) (h, tt) [] tt 0 (var 0) (hyp 0 ⊞ nat 1) tt

  weaker_below : Below z → NotAbove z
  weaker_below h = prove (z ∷ []) ((neg (var 0) -ᵉ num 1) ∷ []) (h, tt) [] tt 0 (neg (var 0)) (hyp 0 ⊞ nat 1) tt

  doubly : Nonneg (neg_ℤ (neg_ℤ z)) → Nonneg z
  doubly h = prove (z ∷ []) (neg (neg (var 0)) ∷ []) (h, tt) [] tt 0 (var 0) (hyp 0) tt

level_is : (z : ℤ) → Nonneg z → NotAbove z → z ≡ pos 0
level_is (pos zero) h k = refl
level_is (pos (suc n)) h k = absurd (not_nonneg k)
level_is (negsuc n) h k = absurd (not_nonneg h)

-- not below 0, since that cannot be
unless_below : (z : ℤ) → (Below z → ⊥) → Nonneg z
unless_below z never = elim (sign z) [ inl h ↦ h | inr h ↦ absurd (never h) ]

-- ---- one step up and one down

-- the count is 1 and the point is inside, or it is 0 and the point is not strictly inside
pub data Counted (In Out : Type 0) : ℤ → Type 0 where
  inside : In → Counted In Out (pos 1)
  outside : Out → Counted In Out (pos 0)

-- the step up is x, and the step down y
up_down : {In Out : Type 0} (x y : ℤ) → (NotAbove x → Below y → ⊥) → (Above x → Nonneg y → In) → (NotAbove x → Out) → (Below y → Out)
    → Counted In Out (crossing false true x +ℤ crossing true false y)
up_down {In} {Out} x y never within right_of_x right_of_y = by (lt_z (pos 0) x) (above_yes x) (above_no x) (lt_z y (pos 0)) (below_yes y) (below_no y)
  where
    by : (s : Bool) → (T s → Above x) → (T (not s) → NotAbove x) → (t : Bool) → (T t → Below y) → (T (not t) → Nonneg y)
        → Counted In Out (cond s (pos 1) (pos 0) +ℤ cond t (negsuc 0) (pos 0))
    by true f g true h i = outside (right_of_y (h tt))
    by true f g false h i = inside (within (f tt) (i tt))
    by false f g true h i = absurd (never (g tt) (h tt))
    by false f g false h i = outside (right_of_x (g tt))

-- ---- corners as variables: x and y of corner k are the variables 2 k and 2 k + 1

abbrev crossᵉ : ℕ → ℕ → Expr
crossᵉ i j = var (2 * i) *ᵉ var (2 * j + 1) -ᵉ var (2 * i + 1) *ᵉ var (2 * j)

abbrev yᵉ : ℕ → Expr
yᵉ i = var (2 * i + 1)

-- twice the area of a triangle
abbrev pub area : Vector → Vector → Vector → ℤ
area u v w = cross u v +ℤ cross v w +ℤ cross w u

abbrev areaᵉ : ℕ → ℕ → ℕ → Expr
areaᵉ i j k = crossᵉ i j +ᵉ crossᵉ j k +ᵉ crossᵉ k i

abbrev aboveᵉ : Expr → Expr
aboveᵉ e = e -ᵉ num 1

abbrev belowᵉ : Expr → Expr
belowᵉ e = neg e -ᵉ num 1

flip_below : (u v : Vector) → Below (cross u v) → Above (cross v u)
unfolding cross
flip_below u v h =
    prove (u.x ∷ u.y ∷ v.x ∷ v.y ∷ []) (belowᵉ (crossᵉ 0 1) ∷ []) (h, tt) [] tt 0 (aboveᵉ (crossᵉ 1 0)) (hyp 0) tt

area_on : (u v w : Vector) → Above (area u v w) → Above (area v w u)
unfolding cross
area_on u v w h =
    prove (u.x ∷ u.y ∷ v.x ∷ v.y ∷ w.x ∷ w.y ∷ []) (aboveᵉ (areaᵉ 0 1 2) ∷ []) (h, tt) [] tt 0 (aboveᵉ (areaᵉ 1 2 0)) (hyp 0) tt

flip_nonneg : (u v : Vector) → Nonneg (cross u v) → NotAbove (cross v u)
unfolding cross
flip_nonneg u v h = prove (u.x ∷ u.y ∷ v.x ∷ v.y ∷ []) (crossᵉ 0 1 ∷ []) (h, tt) [] tt 0 (neg (crossᵉ 1 0)) (hyp 0) tt

-- ---- three corners

module _ (u v w : Vector) where
  abbrev three : List ℤ
  three = u.x ∷ u.y ∷ v.x ∷ v.y ∷ w.x ∷ w.y ∷ []

  -- only w is high: not both right of or on the step up to it, and right of the step down
  high_never : Above (area u v w) → NotAbove u.y → NotAbove v.y → Above w.y → NotAbove (cross v w) → Below (cross w u) → ⊥
  unfolding cross
  high_never d hu hv hw b c =
      not_nonneg {n = 0}
      (prove three (aboveᵉ (areaᵉ 0 1 2) ∷ aboveᵉ (yᵉ 2) ∷ neg (yᵉ 0) ∷ neg (yᵉ 1) ∷ belowᵉ (crossᵉ 2 0) ∷ neg (crossᵉ 1 2) ∷ [])
      (d, (hw, (hu, (hv, (c, (b, tt)))))) [] tt 0 (neg (num 1))
      ((hyp 0 ⊞ nat 1) ⊠ hyp 1 ⊞ hyp 0 ⊞ hyp 5 ⊠ (hyp 1 ⊞ nat 1 ⊞ hyp 2) ⊞ (hyp 4 ⊞ nat 1) ⊠ (hyp 1 ⊞ nat 1 ⊞ hyp 3)) tt)

  -- and where neither, not right of the third side
  high_third : NotAbove u.y → NotAbove v.y → Above w.y → Nonneg (cross v w) → Nonneg (cross w u) → Nonneg (cross u v)
  unfolding cross
  high_third hu hv hw b c =
      unless_below (cross u v) λ a.
      not_nonneg {n = 0}
      (prove three (belowᵉ (crossᵉ 0 1) ∷ aboveᵉ (yᵉ 2) ∷ crossᵉ 1 2 ∷ neg (yᵉ 0) ∷ crossᵉ 2 0 ∷ neg (yᵉ 1) ∷ [])
      (a, (hw, (b, (hu, (c, (hv, tt)))))) [] tt 0 (neg (num 1))
      (hyp 0 ⊠ (hyp 1 ⊞ nat 1) ⊞ hyp 2 ⊠ hyp 3 ⊞ hyp 4 ⊠ hyp 5 ⊞ hyp 1) tt)

  -- only w is low: not both right of the step down to it, and right of or on the step up
  low_never : Above (area u v w) → Above u.y → Above v.y → NotAbove w.y → Below (cross v w) → NotAbove (cross w u) → ⊥
  unfolding cross
  low_never d hu hv hw b c =
      not_nonneg {n = 0}
      (prove three (aboveᵉ (areaᵉ 0 1 2) ∷ aboveᵉ (yᵉ 0) ∷ aboveᵉ (yᵉ 1) ∷ neg (yᵉ 2) ∷ belowᵉ (crossᵉ 1 2) ∷ neg (crossᵉ 2 0) ∷ [])
      (d, (hu, (hv, (hw, (b, (c, tt)))))) [] tt 0 (neg (num 1))
      (hyp 3 ⊠ (hyp 0 ⊞ nat 1) ⊞ (hyp 4 ⊞ nat 1) ⊠ (hyp 1 ⊞ hyp 3) ⊞ hyp 4 ⊞ hyp 5 ⊠ (hyp 2 ⊞ nat 1 ⊞ hyp 3)) tt)

  -- and where left of the step up and not right of the step down, not right of the third side
  low_third : Above u.y → Above v.y → NotAbove w.y → Nonneg (cross v w) → Above (cross w u) → Nonneg (cross u v)
  unfolding cross
  low_third hu hv hw b c =
      unless_below (cross u v) λ a.
      not_nonneg {n = 0}
      (prove three (belowᵉ (crossᵉ 0 1) ∷ neg (yᵉ 2) ∷ crossᵉ 1 2 ∷ aboveᵉ (yᵉ 0) ∷ aboveᵉ (crossᵉ 2 0) ∷ aboveᵉ (yᵉ 1) ∷ [])
      (a, (hw, (b, (hu, (c, (hv, tt)))))) [] tt 0 (neg (num 1))
      (hyp 0 ⊠ hyp 1 ⊞ hyp 2 ⊠ (hyp 3 ⊞ nat 1) ⊞ hyp 4 ⊠ hyp 5 ⊞ hyp 4 ⊞ hyp 5 ⊞ hyp 1) tt)

  -- v is on the level of the point, and neither neighbour is high: not left of both steps
  level_never : v.y ≡ pos 0 → NotAbove u.y → NotAbove w.y → Above (cross u v) → Above (cross v w) → ⊥
  unfolding cross
  level_never e hu hw a b =
      not_nonneg {n = 0}
      (prove three (neg (yᵉ 0) ∷ neg (yᵉ 2) ∷ aboveᵉ (crossᵉ 0 1) ∷ aboveᵉ (crossᵉ 1 2) ∷ []) (hu, (hw, (a, (b, tt))))
      (yᵉ 1 ∷ []) (e, tt) 0 (neg (num 1))
      (hyp 2 ⊠ hyp 3 ⊞ hyp 2 ⊞ hyp 3 ⊞ sq (var 2) ⊠ (hyp 0 ⊠ hyp 1)
      ⊞ eqn 0 (neg (var 0 *ᵉ var 2 *ᵉ var 5 -ᵉ var 0 *ᵉ var 3 *ᵉ var 4 +ᵉ var 1 *ᵉ var 2 *ᵉ var 4))) tt)

  -- left of all three sides
  abbrev pub Inner3 : Type 0
  Inner3 = Above (cross u v) × Above (cross v w) × Above (cross w u)

  -- right of none
  abbrev pub Within3 : Type 0
  Within3 = Nonneg (cross u v) × Nonneg (cross v w) × Nonneg (cross w u)

  -- not where all three corners are high, or none is
  all_high3 : Above u.y → Above v.y → Above w.y → Inner3 → ⊥
  unfolding cross
  all_high3 hu hv hw i =
      not_nonneg {n = 2}
      (prove three
      (aboveᵉ (yᵉ 0) ∷ aboveᵉ (yᵉ 1) ∷ aboveᵉ (yᵉ 2) ∷ aboveᵉ (crossᵉ 0 1) ∷ aboveᵉ (crossᵉ 1 2) ∷ aboveᵉ (crossᵉ 2 0) ∷ [])
      (hu, (hv, (hw, (i.0, (i.1, (i.2, tt)))))) [] tt 0 (neg (num 3))
      (hyp 3 ⊠ hyp 2 ⊞ hyp 3 ⊞ hyp 2 ⊞ (hyp 4 ⊠ hyp 0 ⊞ hyp 4 ⊞ hyp 0) ⊞ (hyp 5 ⊠ hyp 1 ⊞ hyp 5 ⊞ hyp 1)) tt)

all_low3 : (u v w : Vector) → NotAbove u.y → NotAbove v.y → NotAbove w.y → Inner3 u v w → ⊥
unfolding cross
all_low3 u v w hu hv hw i =
    elim (sign w.y) [
      | inl h ↦ level_never v w u (level_is w.y h hw) hv hu i.1 i.2
      | inr h ↦ not_nonneg {n = 0}
          (prove (three u v w) (neg (yᵉ 0) ∷ neg (yᵉ 1) ∷ belowᵉ (yᵉ 2) ∷ aboveᵉ (crossᵉ 0 1) ∷ aboveᵉ (crossᵉ 1 2) ∷ aboveᵉ (crossᵉ 2 0) ∷ [])
          (hu, (hv, (h, (i.0, (i.1, (i.2, tt)))))) [] tt 0 (neg (num 1))
          (hyp 3 ⊠ (hyp 2 ⊞ nat 1) ⊞ hyp 2 ⊞ (hyp 4 ⊞ nat 1) ⊠ hyp 0 ⊞ (hyp 5 ⊞ nat 1) ⊠ hyp 1) tt)
    ]

-- ---- the count of a triangle

counted_as : {In Out In' Out' : Type 0} {y : ℤ} (z : ℤ) → (In → In') → (Out → Out') → y ≡ z → Counted In Out y → Counted In' Out' z
counted_as {In} {Out} {In'} {Out'} z f g e c = subst (Counted In' Out') e (by c)
  where
    by : {x : ℤ} → Counted In Out x → Counted In' Out' x
    by (inside i) = inside (f i)
    by (outside o) = outside (g o)

abbrev pub Counted3 : Vector → Vector → Vector → ℤ → Type 0
Counted3 u v w z = Counted (Within3 u v w) (Inner3 u v w → ⊥) z

abbrev pub count3 : Bool → Bool → Bool → Vector → Vector → Vector → ℤ
count3 i j k u v w = crossing i j (cross u v) +ℤ crossing j k (cross v w) +ℤ crossing k i (cross w u)

module _ (u v w : Vector) where
  one_high3 : Above (area u v w) → NotAbove u.y → NotAbove v.y → Above w.y → Counted3 u v w (count3 false false true u v w)
  one_high3 d hu hv hw =
      counted_as (count3 false false true u v w) (λ i. i) (λ o. o)
      (ring (crossing false true (cross v w) ∷ crossing true false (cross w u) ∷ []) (var 0 +ᵉ var 1) (num 0 +ᵉ var 0 +ᵉ var 1) tt)
      (up_down (cross v w) (cross w u) (high_never u v w d hu hv hw)
      (λ b c. (high_third u v w hu hv hw (weaker (cross v w) b) c, weaker (cross v w) b, c))
      (λ b i. clash (cross v w) i.1 b) (λ c i. clash_below (cross w u) i.2 c))

  one_low3 : Above (area u v w) → Above u.y → Above v.y → NotAbove w.y → Counted3 u v w (count3 true true false u v w)
  one_low3 d hu hv hw =
      counted_as (count3 true true false u v w) (λ i. i) (λ o. o)
      (ring (crossing false true (cross w u) ∷ crossing true false (cross v w) ∷ []) (var 0 +ᵉ var 1) (num 0 +ᵉ var 1 +ᵉ var 0) tt)
      (up_down (cross w u) (cross v w) (λ c b. low_never u v w d hu hv hw b c)
      (λ c b. (low_third u v w hu hv hw b c, b, weaker (cross w u) c))
      (λ c i. clash (cross w u) i.2 c) (λ b i. clash_below (cross v w) i.1 b))

-- the corners taken in turn
turned3 : (i j k : Bool) (u v w : Vector) → Counted3 u v w (count3 i j k u v w) → Counted3 v w u (count3 j k i v w u)
turned3 i j k u v w c =
    counted_as (count3 j k i v w u) (λ i. (i.1, i.2, i.0)) (λ o i. o (i.2, i.0, i.1))
    (ring (crossing i j (cross u v) ∷ crossing j k (cross v w) ∷ crossing k i (cross w u) ∷ []) (var 0 +ᵉ var 1 +ᵉ var 2) (var 1 +ᵉ var 2 +ᵉ var 0) tt) c

-- A triangle that turns left is gone round once or not at all: once where the point is left of all three sides, and where once, right of none.
pub triangle_seen : (i j k : Bool) (u v w : Vector) → Above (area u v w) → Height i u.y → Height j v.y → Height k w.y → Counted3 u v w (count3 i j k u v w)
triangle_seen false false false u v w h hu hv hw = outside (all_low3 u v w hu hv hw)
triangle_seen true true true u v w h hu hv hw = outside (all_high3 u v w hu hv hw)
triangle_seen false false true u v w h hu hv hw = one_high3 u v w h hu hv hw
triangle_seen true true false u v w h hu hv hw = one_low3 u v w h hu hv hw
triangle_seen true false false u v w h hu hv hw =
    turned3 false true false w u v (turned3 false false true v w u (one_high3 v w u (area_on u v w h) hv hw hu))
triangle_seen false true false u v w h hu hv hw = turned3 false false true w u v (one_high3 w u v (area_on v w u (area_on u v w h)) hw hu hv)
triangle_seen false true true u v w h hu hv hw = turned3 true false true w u v (turned3 true true false v w u (one_low3 v w u (area_on u v w h) hv hw hu))
triangle_seen true false true u v w h hu hv hw = turned3 true true false w u v (one_low3 w u v (area_on v w u (area_on u v w h)) hw hu hv)

-- ---- four corners

-- the quad turns left at all four corners
pub record Convex (a b c d : Vector) : Type 0 where
  pub at_a : Above (area d a b)
  pub at_b : Above (area a b c)
  pub at_c : Above (area b c d)
  pub at_d : Above (area c d a)

convex_turned : {a b c d : Vector} → Convex a b c d → Convex b c d a
convex_turned h = record { at_a = h.at_b; at_b = h.at_c; at_c = h.at_d; at_d = h.at_a }

module _ (a b c d : Vector) where
  abbrev four : List ℤ
  four = a.x ∷ a.y ∷ b.x ∷ b.y ∷ c.x ∷ c.y ∷ d.x ∷ d.y ∷ []

  -- left of all four sides
  abbrev pub Inner4 : Type 0
  Inner4 = Above (cross a b) × Above (cross b c) × Above (cross c d) × Above (cross d a)

  -- right of none
  abbrev pub Within4 : Type 0
  Within4 = Nonneg (cross a b) × Nonneg (cross b c) × Nonneg (cross c d) × Nonneg (cross d a)

  module _ (h : Convex a b c d) where
    -- what is in the triangle b c d is not right of the sides that meet it at b and at d
    side_in : Nonneg (cross b c) → Nonneg (cross d b) → Nonneg (cross a b)
    unfolding cross
    side_in x y =
        unless_below (cross a b) λ z.
        not_nonneg {n = 0}
        (prove four
        (belowᵉ (crossᵉ 0 1) ∷ aboveᵉ (areaᵉ 1 2 3) ∷ crossᵉ 3 1 ∷ aboveᵉ (areaᵉ 0 1 2) ∷ crossᵉ 1 2 ∷ aboveᵉ (areaᵉ 3 0 1) ∷ [])
        (z, (h.at_c, (y, (h.at_b, (x, (h.at_a, tt)))))) [] tt 0 (neg (num 1))
        (hyp 0 ⊠ (hyp 1 ⊞ nat 1) ⊞ hyp 2 ⊠ (hyp 3 ⊞ nat 1) ⊞ hyp 4 ⊠ (hyp 5 ⊞ nat 1) ⊞ hyp 1) tt)

    side_out : Nonneg (cross c d) → Nonneg (cross d b) → Nonneg (cross d a)
    unfolding cross
    side_out x y =
        unless_below (cross d a) λ z.
        not_nonneg {n = 0}
        (prove four
        (belowᵉ (crossᵉ 3 0) ∷ aboveᵉ (areaᵉ 1 2 3) ∷ crossᵉ 2 3 ∷ aboveᵉ (areaᵉ 3 0 1) ∷ crossᵉ 3 1 ∷ aboveᵉ (areaᵉ 2 3 0) ∷ [])
        (z, (h.at_c, (x, (h.at_a, (y, (h.at_d, tt)))))) [] tt 0 (neg (num 1))
        (hyp 0 ⊠ (hyp 1 ⊞ nat 1) ⊞ hyp 2 ⊠ (hyp 3 ⊞ nat 1) ⊞ hyp 4 ⊠ (hyp 5 ⊞ nat 1) ⊞ hyp 1) tt)

    -- opposite corners both high and the others not
    alternate_never : Above a.y → NotAbove b.y → Above c.y → NotAbove d.y → ⊥
    unfolding cross
    alternate_never ha hb hc hd =
        not_nonneg {n = 1}
        (prove four
        (aboveᵉ (yᵉ 0) ∷ neg (yᵉ 1) ∷ aboveᵉ (yᵉ 2) ∷ neg (yᵉ 3) ∷ aboveᵉ (areaᵉ 3 0 1) ∷ aboveᵉ (areaᵉ 0 1 2) ∷ aboveᵉ (areaᵉ 1 2 3)
        ∷ aboveᵉ (areaᵉ 2 3 0) ∷ [])
        (ha, (hb, (hc, (hd, (h.at_a, (h.at_b, (h.at_c, (h.at_d, tt)))))))) [] tt 0 (neg (num 2))
        (hyp 6 ⊠ hyp 0 ⊞ hyp 6 ⊞ hyp 0 ⊞ (hyp 4 ⊠ hyp 2 ⊞ hyp 4 ⊞ hyp 2) ⊞ (hyp 5 ⊞ nat 1) ⊠ hyp 3 ⊞ (hyp 7 ⊞ nat 1) ⊠ hyp 1) tt)

  -- not left of all four sides where c and d are above the level and a and b not below it, nor the other way round
  far_high : Above c.y → Above d.y → Nonneg a.y → Nonneg b.y → Inner4 → ⊥
  unfolding cross
  far_high hc hd ha hb i =
      not_nonneg {n = 0}
      (prove four
      (yᵉ 0 ∷ yᵉ 1 ∷ aboveᵉ (yᵉ 2) ∷ aboveᵉ (yᵉ 3) ∷ aboveᵉ (crossᵉ 0 1) ∷ aboveᵉ (crossᵉ 1 2) ∷ aboveᵉ (crossᵉ 2 3) ∷ aboveᵉ (crossᵉ 3 0) ∷ [])
      (ha, (hb, (hc, (hd, (i.0, (i.1, (i.2, (i.3, tt)))))))) [] tt 0 (neg (num 1))
      (hyp 4 ⊠ (hyp 2 ⊞ nat 1) ⊠ (hyp 3 ⊞ nat 1) ⊞ hyp 2 ⊠ (hyp 3 ⊞ nat 1) ⊞ hyp 3 ⊞ (hyp 5 ⊞ nat 1) ⊠ hyp 0 ⊠ (hyp 3 ⊞ nat 1)
      ⊞ (hyp 6 ⊞ nat 1) ⊠ hyp 0 ⊠ hyp 1 ⊞ (hyp 7 ⊞ nat 1) ⊠ hyp 1 ⊠ (hyp 2 ⊞ nat 1)) tt)

  far_low : Below c.y → Below d.y → NotAbove a.y → NotAbove b.y → Inner4 → ⊥
  unfolding cross
  far_low hc hd ha hb i =
      not_nonneg {n = 0}
      (prove four
      (neg (yᵉ 0) ∷ neg (yᵉ 1) ∷ belowᵉ (yᵉ 2) ∷ belowᵉ (yᵉ 3) ∷ aboveᵉ (crossᵉ 0 1) ∷ aboveᵉ (crossᵉ 1 2) ∷ aboveᵉ (crossᵉ 2 3) ∷ aboveᵉ (crossᵉ 3 0) ∷ [])
      (ha, (hb, (hc, (hd, (i.0, (i.1, (i.2, (i.3, tt)))))))) [] tt 0 (neg (num 1))
      (hyp 4 ⊠ (hyp 2 ⊞ nat 1) ⊠ (hyp 3 ⊞ nat 1) ⊞ hyp 2 ⊠ (hyp 3 ⊞ nat 1) ⊞ hyp 3 ⊞ (hyp 5 ⊞ nat 1) ⊠ hyp 0 ⊠ (hyp 3 ⊞ nat 1)
      ⊞ (hyp 6 ⊞ nat 1) ⊠ hyp 0 ⊠ hyp 1 ⊞ (hyp 7 ⊞ nat 1) ⊠ hyp 1 ⊠ (hyp 2 ⊞ nat 1)) tt)

  all_high4 : Above a.y → Above b.y → Above c.y → Above d.y → Inner4 → ⊥
  all_high4 ha hb hc hd = far_high hc hd (weaker a.y ha) (weaker b.y hb)

  all_low4 : NotAbove a.y → NotAbove b.y → NotAbove c.y → NotAbove d.y → Inner4 → ⊥
  all_low4 ha hb hc hd i =
      elim (sign c.y) [
        | inl x ↦ level_never b c d (level_is c.y x hc) hb hd i.1 i.2
        | inr x ↦ elim (sign d.y) [
          | inl y ↦ level_never c d a (level_is d.y y hd) hc ha i.2 i.3
          | inr y ↦ far_low x y ha hb i
        ]
      ]

-- ---- the count of a quad

abbrev pub Counted4 : Vector → Vector → Vector → Vector → ℤ → Type 0
Counted4 a b c d z = Counted (Within4 a b c d) (Inner4 a b c d → ⊥) z

abbrev pub count4 : Bool → Bool → Bool → Bool → Vector → Vector → Vector → Vector → ℤ
count4 i j k l a b c d = crossing i j (cross a b) +ℤ crossing j k (cross b c) +ℤ crossing k l (cross c d) +ℤ crossing l i (cross d a)

module _ (a b c d : Vector) (h : Convex a b c d) where
  -- in the triangle b c d
  in_triangle : Nonneg (cross b c) → Nonneg (cross c d) → Nonneg (cross d b) → Within4 a b c d
  in_triangle x y z = (side_in a b c d h x z, x, y, side_out a b c d h y z)

  one_high4 : NotAbove a.y → NotAbove b.y → Above c.y → NotAbove d.y → Counted4 a b c d (count4 false false true false a b c d)
  one_high4 ha hb hc hd =
      counted_as (count4 false false true false a b c d) (λ i. i) (λ o. o)
      (ring (crossing false true (cross b c) ∷ crossing true false (cross c d) ∷ []) (var 0 +ᵉ var 1) (num 0 +ᵉ var 0 +ᵉ var 1 +ᵉ num 0) tt)
      (up_down (cross b c) (cross c d) (high_never d b c (area_on c d b (area_on b c d h.at_c)) hd hb hc)
      (λ x y. in_triangle (weaker (cross b c) x) y (high_third d b c hd hb hc (weaker (cross b c) x) y))
      (λ x i. clash (cross b c) i.1 x) (λ y i. clash_below (cross c d) i.2 y))

  one_low4 : Above a.y → Above b.y → NotAbove c.y → Above d.y → Counted4 a b c d (count4 true true false true a b c d)
  one_low4 ha hb hc hd =
      counted_as (count4 true true false true a b c d) (λ i. i) (λ o. o)
      (ring (crossing false true (cross c d) ∷ crossing true false (cross b c) ∷ []) (var 0 +ᵉ var 1) (num 0 +ᵉ var 1 +ᵉ var 0 +ᵉ num 0) tt)
      (up_down (cross c d) (cross b c) (λ y x. low_never d b c (area_on c d b (area_on b c d h.at_c)) hd hb hc x y)
      (λ y x. in_triangle x (weaker (cross c d) y) (low_third d b c hd hb hc x y))
      (λ y i. clash (cross c d) i.2 y) (λ x i. clash_below (cross b c) i.1 x))

  two_high4 : NotAbove a.y → NotAbove b.y → Above c.y → Above d.y → Counted4 a b c d (count4 false false true true a b c d)
  two_high4 ha hb hc hd =
      counted_as (count4 false false true true a b c d) (λ i. i) (λ o. o)
      (ring (crossing false true (cross b c) ∷ crossing true false (cross d a) ∷ []) (var 0 +ᵉ var 1) (num 0 +ᵉ var 0 +ᵉ num 0 +ᵉ var 1) tt)
      (up_down (cross b c) (cross d a) never within
      (λ x i. clash (cross b c) i.1 x) (λ y i. clash_below (cross d a) i.3 y))
    where
      never : NotAbove (cross b c) → Below (cross d a) → ⊥
      never x y =
          elim (sign (cross d b)) [
            | inl z ↦ high_never a b d (area_on d a b h.at_a) ha hb hd (flip_nonneg d b z) y
            | inr z ↦ low_never c d b (area_on b c d h.at_c) hc hd hb z x
          ]

      within : Above (cross b c) → Nonneg (cross d a) → Within4 a b c d
      within x y =
          elim (sign (cross d b)) [
            | inl z ↦ in_triangle (weaker (cross b c) x) (low_third c d b hc hd hb z x) z
            | inr z ↦
                let w = weaker (cross b d) (flip_below d b z) in
                (high_third a b d ha hb hd w y, weaker (cross b c) x, side_in c d a b (convex_turned (convex_turned h)) y w, y)
          ]

-- the corners taken in turn
turned4 : (i j k l : Bool) (a b c d : Vector) → Counted4 b c d a (count4 j k l i b c d a) → Counted4 a b c d (count4 i j k l a b c d)
turned4 i j k l a b c d c' =
    counted_as (count4 i j k l a b c d) (λ r. (r.3, r.0, r.1, r.2)) (λ o r. o (r.1, r.2, r.3, r.0))
    (ring (crossing i j (cross a b) ∷ crossing j k (cross b c) ∷ crossing k l (cross c d) ∷ crossing l i (cross d a) ∷ [])
    (var 1 +ᵉ var 2 +ᵉ var 3 +ᵉ var 0) (var 0 +ᵉ var 1 +ᵉ var 2 +ᵉ var 3) tt) c'

-- A quad that turns left is gone round once or not at all: once where the point is left of all four sides, and where once, right of none.
module _ (a b c d : Vector) (h : Convex a b c d) where
  abbrev b' : Convex b c d a
  b' = convex_turned h

  abbrev c' : Convex c d a b
  c' = convex_turned b'

  abbrev d' : Convex d a b c
  d' = convex_turned c'

  pub quad_seen : (i j k l : Bool) → Height i a.y → Height j b.y → Height k c.y → Height l d.y → Counted4 a b c d (count4 i j k l a b c d)
  quad_seen false false false false ha hb hc hd = outside (all_low4 a b c d ha hb hc hd)
  quad_seen true true true true ha hb hc hd = outside (all_high4 a b c d ha hb hc hd)
  quad_seen true false true false ha hb hc hd = absurd (alternate_never a b c d h ha hb hc hd)
  quad_seen false true false true ha hb hc hd = absurd (alternate_never b c d a b' hb hc hd ha)
  quad_seen false false true false ha hb hc hd = one_high4 a b c d h ha hb hc hd
  quad_seen false false false true ha hb hc hd = turned4 false false false true a b c d (one_high4 b c d a b' hb hc hd ha)
  quad_seen true false false false ha hb hc hd =
      turned4 true false false false a b c d (turned4 false false false true b c d a (one_high4 c d a b c' hc hd ha hb))
  quad_seen false true false false ha hb hc hd =
      turned4 false true false false a b c d
      (turned4 true false false false b c d a (turned4 false false false true c d a b (one_high4 d a b c d' hd ha hb hc)))
  quad_seen true true false true ha hb hc hd = one_low4 a b c d h ha hb hc hd
  quad_seen true true true false ha hb hc hd = turned4 true true true false a b c d (one_low4 b c d a b' hb hc hd ha)
  quad_seen false true true true ha hb hc hd =
      turned4 false true true true a b c d (turned4 true true true false b c d a (one_low4 c d a b c' hc hd ha hb))
  quad_seen true false true true ha hb hc hd =
      turned4 true false true true a b c d
      (turned4 false true true true b c d a (turned4 true true true false c d a b (one_low4 d a b c d' hd ha hb hc)))
  quad_seen false false true true ha hb hc hd = two_high4 a b c d h ha hb hc hd
  quad_seen true false false true ha hb hc hd = turned4 true false false true a b c d (two_high4 b c d a b' hb hc hd ha)
  quad_seen true true false false ha hb hc hd =
      turned4 true true false false a b c d (turned4 true false false true b c d a (two_high4 c d a b c' hc hd ha hb))
  quad_seen false true true false ha hb hc hd =
      turned4 false true true false a b c d
      (turned4 true true false false b c d a (turned4 true false false true c d a b (two_high4 d a b c d' hd ha hb hc)))
