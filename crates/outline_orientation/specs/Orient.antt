-- The orientation of three points, exactly, in squares of a unit; and how the two sums tell its sign. Definitions, then laws. Assumes nothing.
use mathlib.Core.Bool.{Bool, true, false}
use Rattle.std.specs.Prelude.{List, [], ◌∷◌, ◌↔◌, ◌≡◌, refl, ℕ, zero, suc, ◌-◌, ◌<◌, ltb, eqb, ◌==◌, ℤ, pos, negsuc, neg_ℤ, nat_abs, ◌+ℤ◌, ◌*ℤ◌, ◌-ℤ◌, ◌<ℤ◌, replicate}
use Rattle.std.proofs.Common.{sym, ap, ap₂, ◌∙◌, arith, ltb-true, ltb-false, ltb→lt, lt→ltb}
use Rattle.std.proofs.Math.IntN.{pos-ne-negsuc}
use Rattle.std.specs.declared.cmp.Ordering.{Ordering}
use Rattle.std.specs.declared.cmp.Ordering.TheVariants.{Less, Equal, Greater}
use Rattle.std.specs.Ordering.{is_eq, is_lt, is_gt, ordering_index}
use Rattle.laws.proofs.RingBase.{var, num, ◌+ᵉ◌, ◌*ᵉ◌, ◌-ᵉ◌, neg}
use Rattle.laws.proofs.Ring.{ring}
use Rattle.laws.proofs.CertificateBase.{sub_pos}
use Rattle.exact.specs.Units.{units}
use Rattle.exact.specs.Corner.{Vector, cross}
use Rattle.outline.specs.declared.Point.{Point}
use Rattle.outline_orientation.specs.declared.Coordinates.{Coordinates}
use Rattle.outline_orientation.specs.Limbs.{order, order_number, value, Small}
use Rattle.outline_orientation.specs.Sums.{IsCoordinates, DifferenceGrown, crossed, integer_is}

-- a point in units
abbrev pub in_units : Point → Vector
in_units p = record { x = units p.x; y = units p.y }

-- the way from a to b
abbrev pub way : Vector → Vector → Vector
way a b = record { x = b.x -ℤ a.x; y = b.y -ℤ a.y }

-- twice the area of the triangle a b c: above 0 where c is left of the line from a to b, below 0 where it is right of it, 0 where it is on it
unfoldable pub orient : Vector → Vector → Vector → ℤ
orient a b c = cross (way a b) (way a c)

-- 0 on the line, 1 to the left, 2 to the right
unfoldable pub side_number : ℤ → ℕ
side_number (pos zero) = 0
side_number (pos (suc n)) = 1
side_number (negsuc n) = 2

-- six products and no difference
pub orient_is : (a b c : Point) →
    (units a.x *ℤ units b.y -ℤ units a.y *ℤ units b.x)
    +ℤ (units b.x *ℤ units c.y -ℤ units b.y *ℤ units c.x)
    +ℤ (units c.x *ℤ units a.y -ℤ units c.y *ℤ units a.x) ≡ orient (in_units a) (in_units b) (in_units c)
unfolding orient cross
orient_is a b c =
    ring (units a.x ∷ units a.y ∷ units b.x ∷ units b.y ∷ units c.x ∷ units c.y ∷ [])
    ((var 0 *ᵉ var 3 -ᵉ var 1 *ᵉ var 2) +ᵉ (var 2 *ᵉ var 5 -ᵉ var 3 *ᵉ var 4) +ᵉ (var 4 *ᵉ var 1 -ᵉ var 5 *ᵉ var 0))
    ((var 2 -ᵉ var 0) *ᵉ (var 5 -ᵉ var 1) -ᵉ (var 3 -ᵉ var 1) *ᵉ (var 4 -ᵉ var 0)) tt

-- how an orientation compares with 0
module _ (o : Ordering) where
  pub is_level : is_eq o ≡ eqb (order_number o) 0
  is_level = elim o as (λ x. is_eq x ≡ eqb (order_number x) 0) [ Less ↦ refl | Equal ↦ refl | Greater ↦ refl ]

  pub is_left : is_gt o ≡ eqb (order_number o) 1
  is_left = elim o as (λ x. is_gt x ≡ eqb (order_number x) 1) [ Less ↦ refl | Equal ↦ refl | Greater ↦ refl ]

  pub is_right : is_lt o ≡ eqb (order_number o) 2
  is_right = elim o as (λ x. is_lt x ≡ eqb (order_number x) 2) [ Less ↦ refl | Equal ↦ refl | Greater ↦ refl ]

  -- what `==` tests at orderings
  pub is_same : (p : Ordering) → (ordering_index o == ordering_index p) ≡ eqb (order_number o) (order_number p)
  is_same p = elim o as (λ x. (ordering_index x == ordering_index p) ≡ eqb (order_number x) (order_number p)) [
    | Less ↦ elim p as (λ y. (0 == ordering_index y) ≡ eqb 2 (order_number y)) [ Less ↦ refl | Equal ↦ refl | Greater ↦ refl ]
    | Equal ↦ elim p as (λ y. (1 == ordering_index y) ≡ eqb 0 (order_number y)) [ Less ↦ refl | Equal ↦ refl | Greater ↦ refl ]
    | Greater ↦ elim p as (λ y. (2 == ordering_index y) ≡ eqb 1 (order_number y)) [ Less ↦ refl | Equal ↦ refl | Greater ↦ refl ]
  ]

-- what each answer says
pub on_line_lem : (z : ℤ) → (side_number z ≡ 0) ↔ (z ≡ pos 0)
unfolding side_number
on_line_lem (pos zero) = (λ e. refl, λ e. refl)
on_line_lem (pos (suc n)) = (λ e. absurd (omega arith), λ e. absurd (no (ap nat_abs e)))
  where
    no : suc n ≡ 0 → ⊥
    no e = omega arith
on_line_lem (negsuc n) = (λ e. absurd (omega arith), λ e. absurd (pos-ne-negsuc 0 n (sym e)))

pub to_left : (z : ℤ) → (side_number z ≡ 1) ↔ (pos 0 <ℤ z)
unfolding side_number
to_left (pos zero) = (λ e. absurd (omega arith), λ h. absurd h.lt)
to_left (pos (suc n)) = (λ e. record { lt = lt→ltb 0 (suc n) (omega arith) }, λ h. refl)
to_left (negsuc n) = (λ e. absurd (omega arith), λ h. absurd h.lt)

pub to_right : (z : ℤ) → (side_number z ≡ 2) ↔ (z <ℤ pos 0)
unfolding side_number
to_right (pos zero) = (λ e. absurd (omega arith), λ h. absurd h.lt)
to_right (pos (suc n)) = (λ e. absurd (omega arith), λ h. absurd (no (ltb→lt (suc n) 0 h.lt)))
  where
    no : suc n < 0 → ⊥
    no h = omega arith
to_right (negsuc n) = (λ e. record { lt = tt }, λ h. refl)

-- ---- the order of two numbers is the sign of their difference

above : (n : ℕ) → 0 < n → 1 ≡ side_number (pos n)
unfolding side_number
above zero h = absurd (omega arith)
above (suc n) h = refl

below : (n : ℕ) → 0 < n → 2 ≡ side_number (neg_ℤ (pos n))
unfolding side_number
below zero h = absurd (omega arith)
below (suc n) h = refl

level : 0 ≡ side_number (pos 0)
unfolding side_number
level = refl

pub order_is : (p n : ℕ) → order p n ≡ side_number (pos p -ℤ pos n)
unfolding order
order_is p n = go (ltb n p) refl (ltb p n) refl
  where
    go : (x : Bool) → ltb n p ≡ x → (y : Bool) → ltb p n ≡ y
        → mathlib.Core.Bool.cond {A = ℕ} x 1 (mathlib.Core.Bool.cond y 2 0) ≡ side_number (pos p -ℤ pos n)
    go true e y f =
        let h = ltb-true n p e in
        above (p - n) (omega arith) ∙ ap side_number (sym (sub_pos n p (omega arith)))
    go false e true f =
        let h = ltb-true p n f in
        below (n - p) (omega arith)
        ∙ ap side_number (ap neg_ℤ (sym (sub_pos p n (omega arith))) ∙ ring (pos p ∷ pos n ∷ []) (neg (var 1 -ᵉ var 0)) (var 0 -ᵉ var 1) tt)
    go false e false f =
        let h : p - n ≡ 0 = omega (arith, ltb-false n p e, ltb-false p n f) in
        level ∙ ap side_number (sym (sub_pos n p (omega (arith, ltb-false p n f)) ∙ ap pos h))

-- ---- the sums start at 0

pub small_zeros : (n m : ℕ) → Small m (replicate n 0)
small_zeros zero m i = omega arith
small_zeros (suc n) m zero = omega arith
small_zeros (suc n) m (suc i) = small_zeros n m i

value_zeros : (n : ℕ) → value (replicate n 0) ≡ 0
unfolding value
value_zeros zero = refl
value_zeros (suc n) = omega (arith, value_zeros n)

-- ---- the three cross products added up

pub crossed_is : (a b : Point) (p q : Coordinates) → IsCoordinates a p → IsCoordinates b q
    → crossed p q ≡ units a.x *ℤ units b.y -ℤ units a.y *ℤ units b.x
crossed_is a b p q f g =
    ap₂ (λ (y z : ℤ). y -ℤ z)
    (ap₂ (λ (y z : ℤ). y *ℤ z) (integer_is a.x p.x f.at_x) (integer_is b.y q.y g.at_y))
    (ap₂ (λ (y z : ℤ). y *ℤ z) (integer_is a.y p.y f.at_y) (integer_is b.x q.x g.at_x))

pub side_is : {s t u v x y : List ℕ} {k : ℕ} (a b c : Point) (p q r : Coordinates) → IsCoordinates a p → IsCoordinates b q → IsCoordinates c r
    → DifferenceGrown (replicate 77 0) (replicate 77 0) s t (crossed p q) k → DifferenceGrown s t u v (crossed q r) k → DifferenceGrown u v x y (crossed r p) k
    → order (value x) (value y) ≡ side_number (orient (in_units a) (in_units b) (in_units c))
side_is {s} {t} {u} {v} {x} {y} {k} a b c p q r f g h i j l =
    order_is (value x) (value y)
    ∙ ap side_number
    (l.more
    ∙ ap (λ (z : ℤ). z +ℤ crossed r p) j.more
    ∙ ap (λ (z : ℤ). z +ℤ crossed q r +ℤ crossed r p) i.more
    ∙ ap (λ (z : ℕ). pos z -ℤ pos z +ℤ crossed p q +ℤ crossed q r +ℤ crossed r p) (value_zeros 77)
    ∙ ring (crossed p q ∷ crossed q r ∷ crossed r p ∷ []) (num 0 -ᵉ num 0 +ᵉ var 0 +ᵉ var 1 +ᵉ var 2) (var 0 +ᵉ var 1 +ᵉ var 2) tt
    ∙ ap₂ (λ (y z : ℤ). y +ℤ z) (ap₂ (λ (y z : ℤ). y +ℤ z) (crossed_is a b p q f g) (crossed_is b c q r g h)) (crossed_is c a r p h f)
    ∙ orient_is a b c)
