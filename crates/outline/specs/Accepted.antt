-- What the refusals 1 to 4 leave of an outline: `Accepted`. And `loop_within`: where the outline's floats are doubles, every point of every loop
-- is within 1,000. Assumes nothing.
use Rattle.std.specs.Prelude.{Bool, true, false, ◌||◌, cond, List, ◌≡◌, refl, ℕ, zero, suc, ◌+◌, ◌-◌, ◌*◌, min, ◌≤◌, ◌<◌, T, ltb, length, get_or, drop, Float}
use Rattle.std.proofs.Common.{sym, ap, ◌∙◌, subst, le_of_eq, lt_of_lt_of_le, arith, ltb-true, length-take, length-drop, get_or-drop, get_or-take}
use Rattle.std.proofs.lemmas.Bool.{not-false}
use Rattle.std.specs.Float.{nan, binary64}
use Rattle.std.specs.Float.Ieee.{fits, of_bits}
use Rattle.laws.specs.Tests.{neither}
use Rattle.numbers.specs.Float.{is_finite}
use Rattle.exact.specs.Units.{W, Val, Within}
use Rattle.exact.proofs.Order.{within_abs}
use Rattle.outline.specs.declared.Point.{Point}
use Rattle.outline.specs.Outline.{Outline, hole_length, hole_start, hole_at, loop_at, points, point_at, point_after}
use Rattle.outline.specs.Outline.{first_of, not_finite, farthest, beyond}
use Rattle.outline.specs.Outline.{misshapen, point_refusal}

-- ---- what owning floats of type f64 tells: they are doubles

abbrev pub AllFit : List Float → Type 0
AllFit xs = (i : ℕ) → i < length xs → T (fits binary64 (get_or xs i nan))

pub record OutlineFits (o : Outline) : Type 0 where
  pub outer : AllFit o.outer
  pub holes : AllFit o.holes

pub record PointFits (p : Point) : Type 0 where
  pub x : T (fits binary64 p.x)
  pub y : T (fits binary64 p.y)

-- x is at most K either way, and y at most L
pub record PointWithin (K L : ℕ) (p : Point) : Type 0 where
  pub x : Within K p.x
  pub y : Within L p.y

-- ---- what is refused with no number

-- refusal 1; then 2 and 3 of every loop; then 4
pub record Accepted (o : Outline) : Type 0 where
  pub shape : misshapen o ≡ false
  pub three : (k : ℕ) → k ≤ length o.lens → 3 ≤ points (loop_at o k)
  pub finite : (k i : ℕ) → k ≤ length o.lens → i < length (loop_at o k) → is_finite (get_or (loop_at o k) i nan) ≡ true
  pub near : (k i : ℕ) → k ≤ length o.lens → i < length (loop_at o k) → beyond (get_or (loop_at o k) i nan) ≡ false

pub cond_zero : (b : Bool) (m n : ℕ) → cond b (suc m) n ≡ 0 → (b ≡ false) × (n ≡ 0)
cond_zero true m n e = absurd (omega arith)
cond_zero false m n e = (refl, e)

pub first_zero : (a b : ℕ) → first_of a b ≡ 0 → (a ≡ 0) × (b ≡ 0)
first_zero zero b e = (refl, e)
first_zero (suc a) b e = absurd (omega arith)

-- where coordinate i of hole k stands in the holes' list
record InHoles (o : Outline) (k i : ℕ) : Type 0 where
  there : 2 * hole_start o.lens k + i < length o.holes
  same : get_or (hole_at o k) i nan ≡ get_or o.holes (2 * hole_start o.lens k + i) nan

in_holes : (o : Outline) (k i : ℕ) → i < length (hole_at o k) → InHoles o k i
unfolding hole_at
in_holes o k i h =
    let m = 2 * hole_length o.lens k in
    let d = 2 * hole_start o.lens k in
    let long = length-take m (drop d o.holes) ∙ ap (min m) (length-drop d o.holes) in
    let g : i < min m (length o.holes - d) = lt_of_lt_of_le h (le_of_eq long) in
    record { there = omega arith; same = get_or-take m (drop d o.holes) i nan (omega arith) ∙ get_or-drop d o.holes i nan }

-- what every coordinate of the lists has, every loop's has
pub each : (o : Outline) (P : Float → Type 0)
    → ((i : ℕ) → i < length o.outer → P (get_or o.outer i nan)) → ((i : ℕ) → i < length o.holes → P (get_or o.holes i nan))
    → (k i : ℕ) → i < length (loop_at o k) → P (get_or (loop_at o k) i nan)
unfolding loop_at
each o P outer holes zero i h = outer i h
each o P outer holes (suc k) i h = let a = in_holes o k i h in subst P (sym a.same) (holes (2 * hole_start o.lens k + i) a.there)

-- ---- the points of an accepted outline of doubles

farthest_val : Val farthest false (1000 * W)
unfolding of_bits W
farthest_val = (refl, refl)

coordinate_within : (x : Float) → T (fits binary64 x) → is_finite x ≡ true → beyond x ≡ false → Within 1000 x
coordinate_within x t f e = within_abs 1000 x farthest farthest_val t (rw f tt) (rw e tt)

-- a query's point that isn't refused is within 1,000
pub point_within : (p : Point) → PointFits p → point_refusal p ≡ 0 → PointWithin 1000 1000 p
unfolding point_refusal
point_within p f e =
    let some = cond_zero (not_finite p.x || not_finite p.y) 2 _ e in
    let finite = neither (not_finite p.x) (not_finite p.y) some.0 in
    let near = neither (beyond p.x) (beyond p.y) (cond_zero (beyond p.x || beyond p.y) 3 0 some.1).0 in
    record {
      x = coordinate_within p.x f.x (not-false _ finite.0) near.0;
      y = coordinate_within p.y f.y (not-false _ finite.1) near.1;
    }

-- every point of a loop is within 1,000
abbrev pub LoopWithin : List Float → Type 0
LoopWithin s = (i : ℕ) → i < points s → PointWithin 1000 1000 (point_at s i)

pub loop_within : (o : Outline) → OutlineFits o → Accepted o → (k : ℕ) → k ≤ length o.lens → LoopWithin (loop_at o k)
unfolding point_at
loop_within o f a k h i l = record { x = one (2 * i) (omega arith); y = one (2 * i + 1) (omega arith) }
  where
    one : (j : ℕ) → j < length (loop_at o k) → Within 1000 (get_or (loop_at o k) j nan)
    one j g = coordinate_within _ (each o (λ x. T (fits binary64 x)) f.outer f.holes k j g) (a.finite k j h g) (a.near k j h g)

-- and so is the one after it
pub after_within : (s : List Float) → LoopWithin s → (i : ℕ) → i < points s → PointWithin 1000 1000 (point_after s i)
unfolding point_after
after_within s w i h = next (ltb (i + 1) (points s)) (ltb-true (i + 1) (points s))
  where
    next : (b : Bool) → (b ≡ true → i + 1 < points s) → PointWithin 1000 1000 (point_at s (cond b (i + 1) 0))
    next true g = w (i + 1) (g refl)
    next false g = w 0 (omega arith)
