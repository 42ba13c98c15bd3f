-- The ray from a point and a box: what the three tests decide, and `ray_none`: where they say that the ray misses the box, no segment in it is crossed.
-- Assumes nothing.
use Rattle.std.specs.Prelude.{Bool, not, ◌&&◌, ◌||◌, List, ◌≡◌, ℕ, ◌+◌, ◌*◌, ◌≤◌, ◌<◌, T, leb, length, Float}
use Rattle.std.proofs.Math.Bool.{true, false}
use Rattle.std.proofs.Common.{true≢false, sym, ap₂, ◌∙◌, subst, arith, leb-true, leb-false}
use Rattle.std.proofs.Math.Path.{refl, ap}
use Rattle.std.specs.Float.{nan, inf, fin}
use Rattle.std.specs.Float.Ieee.{binary64, fits, unlike, is_nan, lt}
use Rattle.std.specs.Float.Ieee.Bits.{is_true}
use Rattle.std.specs.Float.Ieee.Fits.{sub-fits}
use Rattle.numbers.specs.Float.{◌⊕◌, ◌⊖◌, ◌⊗◌, ◌⊘◌, is_finite}
use Rattle.exact.specs.Units.{W, Val, sign_of, size_of, unlike_self, val_of, Within, within_of}
use Rattle.exact.proofs.Order.{beyond_lt}
use Rattle.exact.proofs.Keeps.{add_within, sub_within}
use Rattle.exact.proofs.PartLaws.{part_within, part_most, slope_part}
use Rattle.outline.specs.declared.Point.{Point}
use Rattle.outline.specs.Outline.{points, point_at, point_after}
use Rattle.outline.specs.Queries.{ray_crosses, polygon_turn}
use Rattle.outline.specs.Accepted.{PointFits, PointWithin, after_within}
use Rattle.outline_blocks.specs.declared.Extent.{Extent}
use Rattle.outline_blocks.specs.Blocks.{reach_of, is_farther, block_end, LoopDrawn, ExtentWithin, block_extent, Covers, ray_misses}
use Rattle.outline_blocks.proofs.BetweenLaws.{BlockPlace}
use Rattle.outline_blocks.proofs.BlockLaws.{block_there, block_covers, block_filed}
use Rattle.outline_blocks.proofs.OrderLaws.{lt_cut}
use Rattle.outline_blocks.proofs.ReachLaws.{within_number, lt_false_of_le, reach_1, reach_2, reach_3, reach_fits_1}
use Rattle.outline_blocks.proofs.ReachLaws.{point_fits, after_fits, block_within}

-- ---- the tests as the code takes them

module _ (p : Point) (e : Extent) where
  pub misses_above : lt p.y e.ymin ≡ true → true ≡ ray_misses p e
  unfolding ray_misses
  misses_above h = rw h refl

  pub misses_below : not (lt p.y e.ymax) ≡ true → true ≡ ray_misses p e
  unfolding ray_misses
  misses_below h = rw h (sym (either (lt p.y e.ymin)))
    where
      either : (b : Bool) → b || true ≡ true
      either true = refl
      either false = refl

  pub misses_left : lt p.y e.ymin ≡ false → not (lt p.y e.ymax) ≡ false → not (lt p.x e.xmax) ≡ ray_misses p e
  unfolding ray_misses
  misses_left h k = rw (h, k) refl

-- ---- a box that the ray misses

-- a height that an edge straddles is within 1,000
straddled_within : (y u v : Float) → T (fits binary64 y) → Within 1000 u → Within 1000 v → T (unlike (lt y u) (lt y v)) → Within 1000 y
unfolding lt is_finite
straddled_within nan u v f p q h = absurd h
straddled_within (inf s) u v f p q h = absurd (subst T (ap₂ unlike (infinite s u p) (infinite s v q) ∙ unlike_self s) h)
  where
    infinite : {K : ℕ} (s : Bool) (x : Float) → Within K x → lt (inf s) x ≡ s
    infinite s nan p = absurd p.val
    infinite s (inf t) p = absurd p.val
    infinite s (fin t m e) p = refl
straddled_within (fin s m e) u v f p q h = decide (leb (size_of y) (1000 * W)) refl
  where
    y : Float
    y = fin s m e

    val : Val y (sign_of y) (size_of y)
    val = val_of y tt f

    decide : (b : Bool) → leb (size_of y) (1000 * W) ≡ b → Within 1000 y
    decide true g = within_of 1000 y f tt (leb-true _ _ g)
    decide false g =
        let far = leb-false _ _ g in
        absurd (subst T (ap₂ unlike (beyond_lt y (sign_of y) (size_of y) val p far) (beyond_lt y (sign_of y) (size_of y) val q far) ∙ unlike_self (sign_of y)) h)

-- y ≤ r ≤ m, and x isn't below m: so x isn't below y
none_above : (x y r m : Float) → is_nan r ≡ false → is_nan m ≡ false → lt r y ≡ false → lt m r ≡ false → lt x m ≡ false → lt x y ≡ false
none_above x y r m R M h k l = decide (lt x y) refl
  where
    decide : (t : Bool) → lt x y ≡ t → t ≡ false
    decide true g = absurd (subst T l (lt_cut x r m M (lt_cut x y r R (subst T (sym g) tt) h) k))
    decide false g = refl

module _ (p a b : Point) (e : Extent) {K : ℕ} (f : PointFits p) (F : PointFits a) (G : PointFits b) (A : PointWithin 1000 1000 a) (B : PointWithin 1000 1000 b)
    (E : ExtentWithin K e) (c : Covers e a b) where
  abbrev above_a : Bool
  above_a = lt p.y a.y

  abbrev above_b : Bool
  above_b = lt p.y b.y

  abbrev meet : Float
  meet = a.x ⊕ (p.y ⊖ a.y) ⊘ (b.y ⊖ a.y) ⊗ (b.x ⊖ a.x)

  -- the box is above p: so both ends are
  all_above : T (lt p.y e.ymin) → (above_a ≡ true) × (above_b ≡ true)
  unfolding is_farther
  all_above h =
      let r = reach_2 A B in
      let low = lt_cut p.y e.ymin (reach_of 2 a b) (within_number _ r.within) h c.ymin in (
        is_true _ (lt_cut p.y (reach_of 2 a b) a.y (within_number _ A.y) low (lt_false_of_le A.y r.within r.first)),
        is_true _ (lt_cut p.y (reach_of 2 a b) b.y (within_number _ B.y) low (lt_false_of_le B.y r.within r.second)),
      )

  -- the box isn't above p: so neither end is
  none_higher : lt p.y e.ymax ≡ false → (above_a ≡ false) × (above_b ≡ false)
  unfolding is_farther
  none_higher h =
      let r = reach_3 A B in
      let R = within_number _ r.within in
      let M = within_number _ E.ymax in (
        none_above p.y a.y (reach_of 3 a b) e.ymax R M (lt_false_of_le r.within A.y r.first) c.ymax h,
        none_above p.y b.y (reach_of 3 a b) e.ymax R M (lt_false_of_le r.within B.y r.second) c.ymax h,
      )

  -- the box isn't to the right of p: so an edge that straddles p's height isn't
  none_right : lt p.x e.xmax ≡ false → T (unlike above_a above_b) → lt p.x meet ≡ false
  unfolding is_farther
  none_right h s =
      let r = reach_1 A B in
      let t = slope_part (straddled_within p.y a.y b.y f.y A.y B.y s) A.y B.y s in
      let w = sub_within tt tt B.x A.x in
      let d = sub-fits binary64 b.x a.x in
      let most = part_most tt A.x t d w (reach_fits_1 a b F G) r.within r.first r.step in
      let M = add_within tt tt A.x (part_within tt t d w) in
      none_above p.x meet (reach_of 1 a b) e.xmax (within_number _ r.within) (within_number _ E.xmax)
      (lt_false_of_le r.within M most) c.xmax h

  -- The ray from p can't change sides at a segment in a box that it misses.
  pub ray_none : ray_misses p e ≡ true → ray_crosses p a b ≡ false
  unfolding ray_misses ray_crosses
  ray_none h = decide (lt p.y e.ymin) refl (lt p.y e.ymax) refl (lt p.x e.xmax) refl h
    where
      level : {u v : Bool} (t : Bool) → u ≡ t → v ≡ t → unlike u v && lt p.x meet ≡ false
      level t g k = ap (λ (z : Bool). z && lt p.x meet) (ap₂ unlike g k ∙ unlike_self t)

      right : (u : Bool) → unlike above_a above_b ≡ u → lt p.x e.xmax ≡ false → u && lt p.x meet ≡ false
      right true g k = none_right k (subst T (sym g) tt)
      right false g k = refl

      decide : (u : Bool) → lt p.y e.ymin ≡ u → (v : Bool) → lt p.y e.ymax ≡ v → (w : Bool) → lt p.x e.xmax ≡ w
          → u || (not v || not w) ≡ true → unlike above_a above_b && lt p.x meet ≡ false
      decide true g v k w l m = let both = all_above (subst T (sym g) tt) in level true both.0 both.1
      decide false g false k w l m = let both = none_higher k in level false both.0 both.1
      decide false g true k false l m = right (unlike above_a above_b) refl l
      decide false g true k true l m = absurd (true≢false (sym m))

-- no segment of a block whose box the ray misses changes sides
pub block_none : {p : Point} {s : List Float} {blocks : List ℕ} {first from b : ℕ} → PointFits p → LoopDrawn s blocks first → BlockPlace (points s) first from b
    → from < points s → 4 * b + 3 < length blocks → ray_misses p (block_extent s blocks b) ≡ true → (inside : Bool) (i : ℕ) → from ≤ i
    → i < block_end (points s) from → polygon_turn p s i inside ≡ inside
block_none {p} {s} {blocks} {first} {from} {b} f d place h l m inside i g k =
    let filed = block_filed d.filed place h l in
    let there = block_there filed l in
    let in_loop : i < points s = omega arith in
    ap (unlike inside)
    (ray_none p (point_at s i) (point_after s i) (block_extent s blocks b) f (point_fits s d.fits i in_loop) (after_fits s d.fits i in_loop)
    (d.within i in_loop) (after_within s d.within i in_loop) (block_within s d.within there) (block_covers filed i g k) m)
    ∙ unlike_false inside
  where
    unlike_false : (b : Bool) → unlike b false ≡ b
    unlike_false true = refl
    unlike_false false = refl
