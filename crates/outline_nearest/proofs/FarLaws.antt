-- A box's squared distance from a point is at most that of every segment in it: `far_squared`. The point of the segment next to p lies between the box's
-- sides, since rounding keeps the order (crate exact); so each gap is no larger than that coordinate's difference. `far_same`: a segment in a box that is
-- farther than the best so far isn't taken. Assumes nothing.
use Rattle.std.specs.Prelude.{Bool, true, false, cond, List, [], ◌∷◌, ◌≡◌, T, ℤ, pos, ◌-ℤ◌, ◌≤ℤ◌}
use Rattle.std.proofs.Math.Path.{refl}
use Rattle.std.proofs.Common.{sym, subst, le_trans, leb→le}
use Prim.Native.Nat.{ℕ, ◌*◌, ◌≤◌, ◌<◌, zero-le}
use Rattle.std.proofs.lemmas.Bool.{not-true}
use Rattle.std.specs.Float.Ieee.{Float, fits, is_nan, lt, le}
use Rattle.std.specs.Float.{binary64}
use Rattle.std.specs.Float.Ieee.Fits.{add-fits, sub-fits}
use Rattle.laws.proofs.RingBase.{var, num, ◌-ᵉ◌, neg}
use Rattle.laws.proofs.CertificateBase.{nonneg, of-≤ℤ, to-≤ℤ, to_le, hyp, ◌⊞◌}
use Rattle.laws.proofs.Certificate.{prove}
use Rattle.numbers.specs.Float.{◌⊕◌, ◌⊖◌, ◌⊗◌, zero_f}
use Rattle.exact.specs.Units.{W-pos, signed, units, Within, widen}
use Rattle.exact.proofs.Order.{le_val}
use Rattle.exact.proofs.Keeps.{difference_rounds, double_rounds, rounds_keep_over, zero_fits, zero_within, zero_units}
use Rattle.exact.proofs.Keeps.{le_within, le_through, sub_turns, add_within, sub_within, square_within, squares_keep}
use Rattle.exact.proofs.PartLaws.{ZeroToOne, part_within, part_most}
use Rattle.exact.proofs.Part.{part_least, foot_part}
use Rattle.outline.specs.declared.Point.{Point}
use Rattle.outline.specs.declared.Search.{Search}
use Rattle.outline.specs.Outline.{points, point_at, point_after}
use Rattle.outline.specs.Accepted.{AllFit, PointFits, PointWithin, LoopWithin, after_within}
use Rattle.outline.specs.Queries.{squared_distance, foot_of}
use Rattle.outline.specs.Search.{searched}
use Rattle.outline_blocks.specs.declared.Extent.{Extent}
use Rattle.outline_loops.specs.Order.{lower_of, higher_of}
use Rattle.outline_blocks.specs.Blocks.{reach_of, is_farther, ExtentWithin, Covers}
use Rattle.outline_blocks.proofs.OrderLaws.{lt_cut}
use Rattle.outline_blocks.proofs.ReachLaws.{point_fits, after_fits, within_number, le_of_lt_true, le_of_lt_false, lt_false_of_le, lower_fits, higher_fits}
use Rattle.outline_blocks.proofs.ReachLaws.{Highest, Lowest, reach_0, reach_1, reach_2, reach_3}
use Rattle.outline_nearest.specs.Far.{moderate_bound, ModeratePoint, span_gap, extent_squared, is_far}

-- what both branches have
pub either_way : {A : Type 0} (P : A → Type 0) (b : Bool) {x y : A} → (b ≡ true → P x) → (b ≡ false → P y) → P (cond b x y)
either_way P true h k = h refl
either_way P false h k = k refl

-- ---- a part of the way lies where the segment reaches

-- q lies from lo to hi
pub record Lies (lo hi q : Float) : Type 0 where
  pub within : Within 18002 q
  least : T (le lo q)
  most : T (le q hi)

module _ {u v lo hi : Float} (f : T (fits binary64 lo)) (g : T (fits binary64 hi)) (A : Within 1000 u) (B : Within 1000 v)
    (l : Lowest u v lo) (h : Highest u v hi) where
  start_lies : Lies lo hi u
  start_lies = record { within = widen 18002 tt A; least = l.first; most = h.first }

  part_lies : (t : Float) → ZeroToOne t → Lies lo hi (u ⊕ t ⊗ (v ⊖ u))
  part_lies t p =
      let d = sub-fits binary64 v u in
      let span = sub_within tt tt B A in
      record {
        within = add_within tt tt A (part_within tt p d span);
        least = part_least tt A p d span f l.within l.first l.step;
        most = part_most tt A p d span g h.within h.first h.step;
      }

-- both ends of a segment are doubles within 1,000
pub record EndsWithin (a b : Point) : Type 0 where
  pub a_fits : PointFits a
  pub b_fits : PointFits b
  pub a_within : PointWithin 1000 1000 a
  pub b_within : PointWithin 1000 1000 b

pub segment_ends : (s : List Float) → AllFit s → LoopWithin s → (i : ℕ) → i < points s → EndsWithin (point_at s i) (point_after s i)
segment_ends s f w i l = record { a_fits = point_fits s f i l; b_fits = after_fits s f i l; a_within = w i l; b_within = after_within s w i l }

-- the point of the segment next to p lies where the segment reaches
pub record FootLies (a b q : Point) : Type 0 where
  pub x : Lies (reach_of 0 a b) (reach_of 1 a b) q.x
  pub y : Lies (reach_of 2 a b) (reach_of 3 a b) q.y

module _ (p a b : Point) (m : ModeratePoint p) (e : EndsWithin a b) where
  abbrev A : PointWithin 1000 1000 a
  A = e.a_within

  abbrev B : PointWithin 1000 1000 b
  B = e.b_within

  least_fits : (u v : Float) → T (fits binary64 u) → T (fits binary64 v) → T (fits binary64 (lower_of (lower_of u v) (u ⊕ (v ⊖ u))))
  least_fits u v f g = lower_fits _ _ (lower_fits u v f g) (add-fits binary64 u (v ⊖ u))

  most_fits : (u v : Float) → T (fits binary64 u) → T (fits binary64 v) → T (fits binary64 (higher_of (higher_of u v) (u ⊕ (v ⊖ u))))
  most_fits u v f g = higher_fits _ _ (higher_fits u v f g) (add-fits binary64 u (v ⊖ u))

  pub foot_lies : FootLies a b (foot_of p a b)
  unfolding foot_of reach_of
  foot_lies =
      let fx = least_fits a.x b.x e.a_fits.x e.b_fits.x in
      let gx = most_fits a.x b.x e.a_fits.x e.b_fits.x in
      let fy = least_fits a.y b.y e.a_fits.y e.b_fits.y in
      let gy = most_fits a.y b.y e.a_fits.y e.b_fits.y in
      let lx = reach_0 A B in
      let hx = reach_1 A B in
      let ly = reach_2 A B in
      let hy = reach_3 A B in
      either_way (FootLies a b) (le ((b.x ⊖ a.x) ⊗ (b.x ⊖ a.x) ⊕ (b.y ⊖ a.y) ⊗ (b.y ⊖ a.y)) zero_f)
      (λ h. record { x = start_lies fx gx A.x B.x lx hx; y = start_lies fy gy A.y B.y ly hy })
      (λ h. let t = foot_part m.x m.y A.x A.y B.x B.y (rw h tt) in
      record { x = part_lies fx gx A.x B.x lx hx _ t; y = part_lies fy gy A.y B.y ly hy _ t })

-- ---- sizes

minus_size : (s t : Bool) (a b : ℕ) → signed t b ≤ℤ signed s a → signed s a ≤ℤ pos 0 → a ≤ b
minus_size false t a b h k = le_trans (leb→le a 0 k.le) zero-le
minus_size true false a b h k =
    to_le a b (prove (pos a ∷ pos b ∷ []) ((neg (var 0) -ᵉ var 1) ∷ var 1 ∷ []) (of-≤ℤ h, (nonneg b, tt)) [] tt 0 (var 1 -ᵉ var 0) (hyp 0 ⊞ hyp 1 ⊞ hyp 1) tt)
minus_size true true a b h k =
    to_le a b (prove (pos a ∷ pos b ∷ []) ((neg (var 0) -ᵉ neg (var 1)) ∷ []) (of-≤ℤ h, tt) [] tt 0 (var 1 -ᵉ var 0) (hyp 0) tt)

plus_size : (s t : Bool) (a b : ℕ) → signed s a ≤ℤ signed t b → pos 0 ≤ℤ signed s a → a ≤ b
plus_size false false a b h k = leb→le a b h.le
plus_size false true a b h k =
    to_le a b (prove (pos a ∷ pos b ∷ []) ((neg (var 1) -ᵉ var 0) ∷ var 1 ∷ []) (of-≤ℤ h, (nonneg b, tt)) [] tt 0 (var 1 -ᵉ var 0) (hyp 0 ⊞ hyp 1 ⊞ hyp 1) tt)
plus_size true t a b h k =
    to_le a b (prove (pos a ∷ pos b ∷ []) ((neg (var 0) -ᵉ num 0) ∷ var 1 ∷ []) (of-≤ℤ k, (nonneg b, tt)) [] tt 0 (var 1 -ᵉ var 0) (hyp 0 ⊞ hyp 1) tt)

-- ---- the gap

-- g is no larger than d
record GapLess (g d : Float) : Type 0 where
  small : Within (4 * moderate_bound) g
  large : Within (4 * moderate_bound) d
  less : small.size ≤ large.size

module _ {lo hi x q : Float} (L : Within 10000 lo) (H : Within 10000 hi) (X : Within moderate_bound x) (l : Lies lo hi q) where
  far : Within (4 * moderate_bound) (x ⊖ q)
  far = widen (4 * moderate_bound) tt (sub_within tt tt X l.within)

  zero_minus : T (le x lo) → (units x -ℤ units lo) ≤ℤ units zero_f
  zero_minus h =
      subst (λ (z : ℤ). (units x -ℤ units lo) ≤ℤ z) (sym zero_units)
      (to-≤ℤ (prove (units x ∷ units lo ∷ []) ((var 1 -ᵉ var 0) ∷ []) (of-≤ℤ ((le_within X L).0 h), tt) [] tt 0 (num 0 -ᵉ (var 0 -ᵉ var 1)) (hyp 0) tt))

  zero_plus : T (le hi x) → units zero_f ≤ℤ (units x -ℤ units hi)
  zero_plus h =
      subst (λ (z : ℤ). z ≤ℤ (units x -ℤ units hi)) (sym zero_units)
      (to-≤ℤ (prove (units x ∷ units hi ∷ []) ((var 0 -ᵉ var 1) ∷ []) (of-≤ℤ ((le_within H X).0 h), tt) [] tt 0 (var 0 -ᵉ var 1 -ᵉ num 0) (hyp 0) tt))

  minus_gap : T (le x lo) → GapLess (x ⊖ lo) (x ⊖ q)
  minus_gap h =
      let G = widen (4 * moderate_bound) tt (sub_within tt tt X L) in
      let k = rounds_keep_over W-pos (difference_rounds X L) (double_rounds zero_fits zero_within) (zero_minus h) in
      record {
        small = G;
        large = far;
        less =
            minus_size G.sign far.sign G.size far.size
            ((le_val (x ⊖ q) (x ⊖ lo) far.sign G.sign far.size G.size far.val G.val).0 (sub_turns L l.within X l.least))
            ((le_val (x ⊖ lo) zero_f G.sign false G.size 0 G.val zero_within.val).0 k);
      }

  plus_gap : T (le hi x) → GapLess (x ⊖ hi) (x ⊖ q)
  plus_gap h =
      let G = widen (4 * moderate_bound) tt (sub_within tt tt X H) in
      let k = rounds_keep_over W-pos (double_rounds zero_fits zero_within) (difference_rounds X H) (zero_plus h) in
      record {
        small = G;
        large = far;
        less =
            plus_size G.sign far.sign G.size far.size
            ((le_val (x ⊖ hi) (x ⊖ q) G.sign far.sign G.size far.size G.val far.val).0 (sub_turns l.within H X l.most))
            ((le_val zero_f (x ⊖ hi) false G.sign 0 G.size zero_within.val G.val).0 k);
      }

  gap_less : GapLess (span_gap x lo hi) (x ⊖ q)
  unfolding span_gap
  gap_less =
      either_way (λ (g : Float). GapLess g (x ⊖ q)) (lt x lo) (λ e. minus_gap (le_of_lt_true X L e))
      (λ e. either_way (λ (g : Float). GapLess g (x ⊖ q)) (lt hi x) (λ f. plus_gap (le_of_lt_true H X f))
      (λ f. record { small = widen (4 * moderate_bound) tt zero_within; large = far; less = zero-le }))

-- ---- boxes

-- what lies where the segment reaches lies in the box
covered : {lo hi r s q : Float} → Within 10000 lo → Within 10000 hi → Within 10000 r → Within 10000 s → lt r lo ≡ false → lt hi s ≡ false
    → Lies r s q → Lies lo hi q
covered L H R S h k l = record {
  within = l.within;
  least = le_through L R l.within (le_of_lt_false R L h) l.least;
  most = le_through l.within S H l.most (le_of_lt_false H S k);
}

module _ (p a b : Point) (e : Extent) (m : ModeratePoint p) (s : EndsWithin a b) (w : ExtentWithin 10000 e) (c : Covers e a b) where
  -- the gaps are no larger than the differences
  record Gaps : Type 0 where
    x : GapLess (span_gap p.x e.xmin e.xmax) (p.x ⊖ (foot_of p a b).x)
    y : GapLess (span_gap p.y e.ymin e.ymax) (p.y ⊖ (foot_of p a b).y)

  gaps : Gaps
  unfolding is_farther
  gaps =
      let q = foot_lies p a b m s in
      let A = s.a_within in
      let B = s.b_within in
      let x = covered w.xmin w.xmax (reach_0 A B).within (reach_1 A B).within c.xmin c.xmax q.x in
      let y = covered w.ymin w.ymax (reach_2 A B).within (reach_3 A B).within c.ymin c.ymax q.y in
      record { x = gap_less w.xmin w.xmax m.x x; y = gap_less w.ymin w.ymax m.y y }

  pub far_squared : T (le (extent_squared p e) (squared_distance p (foot_of p a b)))
  unfolding extent_squared squared_distance
  far_squared =
      let x = gaps.x in
      let y = gaps.y in
      squares_keep x.small y.small x.large y.large tt tt tt tt x.less y.less

  -- both are numbers, so the larger isn't below the smaller
  not_nearer : (is_nan (extent_squared p e) ≡ false) × (lt (squared_distance p (foot_of p a b)) (extent_squared p e) ≡ false)
  unfolding extent_squared squared_distance
  not_nearer =
      let x = gaps.x in
      let y = gaps.y in
      let near = add_within tt tt (square_within tt x.small) (square_within tt y.small) in
      let far = add_within tt tt (square_within tt x.large) (square_within tt y.large) in
      (within_number _ near, lt_false_of_le far near far_squared)

  pub far_same : (k i : ℕ) (best : Search) → is_far p e best.squared ≡ true → searched p a b k i best ≡ best
  unfolding is_far searched
  far_same k i best h = rw (decide (lt y best.squared) refl) refl
    where
      y : Float
      y = squared_distance p (foot_of p a b)

      decide : (t : Bool) → lt y best.squared ≡ t → t ≡ false
      decide true g =
          absurd (subst T not_nearer.1 (lt_cut y best.squared (extent_squared p e) not_nearer.0 (rw g tt) (not-true _ h)))
      decide false g = refl
