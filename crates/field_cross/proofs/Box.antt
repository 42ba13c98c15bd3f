-- The bounding box of an outline that is not refused: its coordinates are within 1,000, and its sides within 4,000, a crude bound. Assumes
-- nothing.
use Rattle.std.specs.Prelude.{◌≡◌, refl, Bool, true, false, ◌||◌, cond, List, ◌⊎◌, ℕ, suc, ◌+◌, ◌*◌, ◌≤◌, ◌<◌, length, Float}
use Rattle.std.proofs.Common.{sym, ◌∙◌, subst, true≢false, inl, inr, zero-le, arith}
use Rattle.std.specs.Float.{nan, inf, fin}
use Rattle.std.specs.Float.Ieee.{is_nan, lt, le, eq}
use Rattle.laws.specs.Loop.{for_up_keeps}
use Rattle.laws.specs.Tests.{neither}
use Rattle.numbers.specs.Float.{◌⊖◌, infinity_f, neg_infinity_f, min_f, max_f}
use Rattle.exact.specs.Units.{W, Within}
use Rattle.exact.proofs.Operations.{sub_law, sum_within}
use Rattle.outline.specs.declared.Point.{Point}
use Rattle.outline.specs.Accepted.{cond_zero, OutlineFits, Accepted, LoopWithin, loop_within}
use Rattle.outline.specs.Outline.{loop_at, Outline, hole_at, points, point_at}
use Rattle.field_cross.specs.declared.Bounds.{Bounds}
use Rattle.field_cross.specs.Grid.{no_bounds, widened, bounds_turn, loop_bounds, hole_bounds, bounds, bounds_refusal}

-- ---- the loops

pub outer_near : (o : Outline) → OutlineFits o → Accepted o → LoopWithin o.outer
unfolding loop_at
outer_near o held a = loop_within o held a 0 zero-le

pub hole_near : (o : Outline) → OutlineFits o → Accepted o → (k : ℕ) → k < length o.lens → LoopWithin (hole_at o k)
unfolding loop_at
hole_near o held a k h = loop_within o held a (suc k) h

-- ---- the box

-- a bound that is still infinite, or within 1,000
abbrev Low : Float → Type 0
Low x = (x ≡ infinity_f) ⊎ Within 1000 x

abbrev High : Float → Type 0
High x = (x ≡ neg_infinity_f) ⊎ Within 1000 x

record Boxed (b : Bounds) : Type 0 where
  xmin : Low b.xmin
  xmax : High b.xmax
  ymin : Low b.ymin
  ymax : High b.ymax

-- min and max answer one of the two
either : (P : Float → Type 0) (a : Bool) (x y : Float) → P x → P y → P (cond a x y)
either P true x y p q = p
either P false x y p q = q

min_either : (P : Float → Type 0) (x y : Float) → P x → P y → P (min_f x y)
unfolding min_f
min_either P x y p q = either P (is_nan x) y (cond (lt y x) y x) q (either P (lt y x) y x q p)

max_either : (P : Float → Type 0) (x y : Float) → P x → P y → P (max_f x y)
unfolding max_f
max_either P x y p q = either P (is_nan x) y (cond (lt x y) y x) q (either P (lt x y) y x q p)

widened_boxed : (p : Point) (b : Bounds) → Within 1000 p.x → Within 1000 p.y → Boxed b → Boxed (widened p b)
unfolding widened
widened_boxed p b x y h = record {
  xmin = min_either Low b.xmin p.x h.xmin (inr x);
  xmax = max_either High b.xmax p.x h.xmax (inr x);
  ymin = min_either Low b.ymin p.y h.ymin (inr y);
  ymax = max_either High b.ymax p.y h.ymax (inr y);
}

loop_boxed : (s : List Float) (b : Bounds) → LoopWithin s → Boxed b → Boxed (loop_bounds s b)
unfolding loop_bounds
loop_boxed s b near start =
    for_up_keeps (λ (i : ℕ) (b : Bounds). Boxed b) (points s) (bounds_turn s) b start
    (λ i b h boxed. widened_boxed (point_at s i) b (near i h).x (near i h).y boxed)

bounds_boxed : (o : Outline) → OutlineFits o → Accepted o → Boxed (bounds o)
unfolding bounds
bounds_boxed o held a =
    for_up_keeps (λ (k : ℕ) (b : Bounds). Boxed b) (length o.lens) (hole_bounds o) (loop_bounds o.outer no_bounds)
    (loop_boxed o.outer no_bounds (outer_near o held a) (record { xmin = inl refl; xmax = inl refl; ymin = inl refl; ymax = inl refl }))
    (λ k b h boxed. loop_boxed (hole_at o k) b (hole_near o held a k h) boxed)

-- a box with a width has two ends within 1,000
le_top : (x : Float) → High x → le x infinity_f ≡ true
unfolding le lt eq
le_top x (inl e) = subst (λ (z : Float). le z infinity_f ≡ true) (sym e) refl
le_top nan (inr w) = absurd w.val
le_top (inf s) (inr w) = absurd w.val
le_top (fin s m e) (inr w) = refl

bottom_le : (x : Float) → Within 1000 x → le neg_infinity_f x ≡ true
unfolding le lt eq
bottom_le nan w = absurd w.val
bottom_le (inf s) w = absurd w.val
bottom_le (fin s m e) w = refl

ends : (low high : Float) → Low low → High high → le high low ≡ false → Within 1000 low × Within 1000 high
ends low high (inl e) h t = absurd (true≢false (sym (le_top high h) ∙ subst (λ (z : Float). le high z ≡ false) e t))
ends low high (inr l) (inl e) t = absurd (true≢false (sym (bottom_le low l) ∙ subst (λ (z : Float). le z low ≡ false) e t))
ends low high (inr l) (inr h) t = (l, h)

pub box_side : (low high : Float) → Within 1000 low → Within 1000 high → Within 4000 (high ⊖ low)
box_side low high l h = sum_within 2000 (sub_law h l tt tt) (double h.size l.size W h.small l.small)
  where
    double : (a b w : ℕ) → a ≤ 1000 * w → b ≤ 1000 * w → a + b ≤ 2000 * w
    double a b w h l = omega arith

-- the box of an outline that is not refused
pub record Box (b : Bounds) : Type 0 where
  pub xmin : Within 1000 b.xmin
  pub ymin : Within 1000 b.ymin
  pub width : Within 4000 (b.xmax ⊖ b.xmin)
  pub height : Within 4000 (b.ymax ⊖ b.ymin)

pub box : (o : Outline) → OutlineFits o → Accepted o → bounds_refusal (bounds o) ≡ 0 → Box (bounds o)
unfolding bounds_refusal
box o held a e =
    let b = bounds o in
    let boxed = bounds_boxed o held a in
    let two = neither (le b.xmax b.xmin) (le b.ymax b.ymin)
    (cond_zero (le b.xmax b.xmin || le b.ymax b.ymin) 6 0 e).0 in
    let x = ends b.xmin b.xmax boxed.xmin boxed.xmax two.0 in
    let y = ends b.ymin b.ymax boxed.ymin boxed.ymax two.1 in
    record { xmin = x.0; ymin = y.0; width = box_side b.xmin b.xmax x.0 x.1; height = box_side b.ymin b.ymax y.0 y.1 }
