-- What `contains` accepts, of an accepted outline of doubles, lies within 1,001 to both sides and within 1,000 up and down: `inside`, the last
-- statement. No edge straddles the height of a point farther up or down, and the ray from one farther right meets none. The ray from one farther
-- left meets every edge that straddles its height, and in a ring these are even in number. Assumes nothing.
use Rattle.std.specs.Prelude.{Bool, not, ◌&&◌, List, ◌≡◌, refl, ℕ, ◌*◌, ◌≤◌, ◌<◌, T, leb, length, Float}
use Rattle.std.proofs.Math.Bool.{true, false}
use Rattle.std.proofs.Common.{true≢false, sym, ap, ap₂, ◌∙◌, subst, zero-le, leb-true, leb-false}
use Rattle.std.specs.Float.Ieee.{unlike, lt}
use Rattle.laws.specs.Tests.{both, and_true, and_false}
use Rattle.numbers.specs.Float.{◌⊕◌, ◌⊖◌, ◌⊗◌, ◌⊘◌, is_finite}
use Rattle.exact.specs.Units.{W, Val, sign_of, size_of, val_of, Within, within_of}
use Rattle.exact.proofs.Order.{beyond_lt}
use Rattle.exact.proofs.Blend.{slope, blend}
use Rattle.outline.specs.declared.Point.{Point}
use Rattle.outline.specs.Outline.{Outline, loop_at, points, point_at, point_after, outline_refusal}
use Rattle.outline.specs.Queries.{ray_crosses, polygon_turn, point_in_polygon, contains}
use Rattle.outline.specs.Parity.{odd_up, odd_same, odd_none, odd_ring}
use Rattle.outline.specs.Accepted.{OutlineFits, PointFits, PointWithin, LoopWithin, loop_within, after_within}
use Rattle.outline.proofs.Accepted.{accepted}

-- ---- one edge from a to b

-- the edge has one end above p's height and one not above
abbrev straddles : Point → Point → Point → Bool
straddles p a b = unlike (lt p.y a.y) (lt p.y b.y)

-- where the line through a and b is at p's height
abbrev meet : Point → Point → Point → Float
meet p a b = a.x ⊕ (p.y ⊖ a.y) ⊘ (b.y ⊖ a.y) ⊗ (b.x ⊖ a.x)

-- p is too far up or down
high_meets : (p a b : Point) (s : Bool) (n : ℕ) → Val p.y s n → 1000 * W < n → PointWithin 1000 1000 a → PointWithin 1000 1000 b
    → ray_crosses p a b ≡ false
unfolding ray_crosses
high_meets p a b s n v h A B =
    ap (λ (z : Bool). z && lt p.x (meet p a b)) (ap₂ unlike (beyond_lt p.y s n v A.y h) (beyond_lt p.y s n v B.y h) ∙ own s)
  where
    own : (s : Bool) → unlike s s ≡ false
    own true = refl
    own false = refl

-- p is too far to a side, the left one where s is true
side_meets : (p a b : Point) (s : Bool) (n : ℕ) → Val p.x s n → 1001 * W < n → Within 1000 p.y
    → PointWithin 1000 1000 a → PointWithin 1000 1000 b → ray_crosses p a b ≡ (straddles p a b && s)
unfolding ray_crosses
side_meets p a b s n v h Y A B = go (straddles p a b) refl
  where
    go : (u : Bool) → straddles p a b ≡ u → (u && lt p.x (meet p a b)) ≡ (u && s)
    go true e =
        let t = slope p.y a.y b.y Y A.y B.y (subst T (sym e) tt) in
        beyond_lt p.x s n v (blend _ a.x b.x t A.x B.x) h
    go false e = refl

-- ---- one loop

module _ (p : Point) (s : List Float) (w : LoopWithin s) where
  too_high : (n : Bool) (m : ℕ) → Val p.y n m → 1000 * W < m → point_in_polygon p s ≡ false
  unfolding point_in_polygon
  too_high n m v h = odd_none (points s) _ (λ i l. high_meets p (point_at s i) (point_after s i) n m v h (w i l) (after_within s w i l))

  too_far : (left : Bool) (m : ℕ) → Val p.x left m → 1001 * W < m → Within 1000 p.y → point_in_polygon p s ≡ false
  unfolding point_in_polygon point_after
  too_far left m v h Y =
      odd_same (points s) _ (λ i. straddles p (point_at s i) (point_after s i) && left)
      (λ i l. side_meets p (point_at s i) (point_after s i) left m v h Y (w i l) (after_within s w i l)) ∙ even left
    where
      even : (left : Bool) → odd_up (points s) (λ i. straddles p (point_at s i) (point_after s i) && left) ≡ false
      even true =
          odd_same (points s) _ _ (λ i l. and_true (straddles p (point_at s i) (point_after s i)))
          ∙ odd_ring (points s) (λ i. lt p.y (point_at s i).y)
      even false = odd_none (points s) _ (λ i l. and_false (straddles p (point_at s i) (point_after s i)))

  in_polygon : PointFits p → is_finite p.x ≡ true → is_finite p.y ≡ true → point_in_polygon p s ≡ true → PointWithin 1001 1000 p
  in_polygon f nx ny e = height (leb (size_of p.y) (1000 * W)) refl
    where
      is : {b : Bool} → b ≡ true → T b
      is e = subst T (sym e) tt

      no : {A : Type 0} → point_in_polygon p s ≡ false → A
      no g = absurd (true≢false (sym e ∙ g))

      side : Within 1000 p.y → (b : Bool) → leb (size_of p.x) (1001 * W) ≡ b → PointWithin 1001 1000 p
      side Y true g = record { x = within_of 1001 p.x f.x (is nx) (leb-true _ _ g); y = Y }
      side Y false g = no (too_far (sign_of p.x) (size_of p.x) (val_of p.x (is nx) f.x) (leb-false _ _ g) Y)

      height : (b : Bool) → leb (size_of p.y) (1000 * W) ≡ b → PointWithin 1001 1000 p
      height true g = side (within_of 1000 p.y f.y (is ny) (leb-true _ _ g)) (leb (size_of p.x) (1001 * W)) refl
      height false g = no (too_high (sign_of p.y) (size_of p.y) (val_of p.y (is ny) f.y) (leb-false _ _ g))

-- ---- the theorem

-- INSIDE MEANS WITHIN 1,001. Of an outline that no refusal stops, what `contains` accepts is at most 1,001 to either side and 1,000 up or down.
pub inside : (o : Outline) (p : Point) → OutlineFits o → outline_refusal o ≡ 0 → PointFits p → is_finite p.x ≡ true → is_finite p.y ≡ true
    → contains o p ≡ true → PointWithin 1001 1000 p
unfolding contains loop_at
inside o p fits taken f nx ny e =
    in_polygon p o.outer (loop_within o fits (accepted o taken) 0 zero-le) f nx ny (both (point_in_polygon p o.outer) _ e).0
