-- How far a segment reaches: at least as far as its ends, and as a + (b − a). And the boxes of segments and blocks have sides within 10,000.
-- Assumes nothing.
use Rattle.std.specs.Prelude.{Bool, true, false, cond, List, ◌≡◌, refl, ℕ, ◌+◌, ◌*◌, ◌<◌, T, ltb, Float}
use Rattle.std.proofs.Common.{arith, ltb-true}
use Rattle.std.specs.Float.{nan, inf, fin, binary64}
use Rattle.std.specs.Float.Ieee.{fits, is_nan, lt, le}
use Rattle.std.specs.Float.Ieee.Fits.{add-fits}
use Rattle.std.specs.Int.Signed.{clash_ℤ}
use Rattle.numbers.specs.Float.{◌⊕◌, ◌⊖◌}
use Rattle.exact.specs.Units.{Within, widen}
use Rattle.exact.proofs.Order.{lt_val, le_val, not_lt_val}
use Rattle.exact.proofs.Keeps.{add_within, sub_within, le_self, le_through}
use Rattle.outline.specs.declared.Point.{Point}
use Rattle.outline.specs.Outline.{points, point_at, point_after}
use Rattle.outline.specs.Accepted.{AllFit, PointFits, PointWithin, LoopWithin, after_within}
use Rattle.outline_loops.specs.Order.{lower_of, higher_of}
use Rattle.outline_blocks.specs.Blocks.{reach_of, side_at, BlockThere, ExtentWithin, segment_extent, block_extent}

-- ---- bounded floats

pub within_number : {K : ℕ} (x : Float) → Within K x → is_nan x ≡ false
unfolding is_nan
within_number nan p = absurd p.val
within_number (inf s) p = absurd p.val
within_number (fin s m e) p = refl

module _ {K L : ℕ} {x y : Float} (p : Within K x) (q : Within L y) where
  pub le_of_lt_true : lt x y ≡ true → T (le x y)
  unfolding le
  le_of_lt_true e = rw e tt

  pub le_of_lt_false : lt x y ≡ false → T (le y x)
  le_of_lt_false e =
      (le_val y x q.sign p.sign q.size p.size q.val p.val).1
      ((not_lt_val x y p.sign q.sign p.size q.size p.val q.val).0 (rw e tt))

  pub lt_false_of_le : T (le y x) → lt x y ≡ false
  lt_false_of_le h = decide (lt x y) refl
    where
      decide : (b : Bool) → lt x y ≡ b → b ≡ false
      decide false e = refl
      decide true e =
          absurd
          (clash_ℤ ((lt_val x y p.sign q.sign p.size q.size p.val q.val).0 (rw e tt))
          ((le_val y x q.sign p.sign q.size p.size q.val p.val).0 h))

-- ---- the greater of two, and the less

-- m is the greater of x and y
record Greater (K : ℕ) (x y m : Float) : Type 0 where
  within : Within K m
  left : T (le x m)
  right : T (le y m)

record Less (K : ℕ) (x y m : Float) : Type 0 where
  within : Within K m
  left : T (le m x)
  right : T (le m y)

module _ {K : ℕ} {x y : Float} (p : Within K x) (q : Within K y) where
  greater : Greater K x y (higher_of x y)
  greater = decide (lt x y) refl
    where
      decide : (b : Bool) → lt x y ≡ b → Greater K x y (cond b y x)
      decide true e = record { within = q; left = le_of_lt_true p q e; right = le_self q }
      decide false e = record { within = p; left = le_self p; right = le_of_lt_false p q e }

  less : Less K x y (lower_of x y)
  less = decide (lt y x) refl
    where
      decide : (b : Bool) → lt y x ≡ b → Less K x y (cond b y x)
      decide true e = record { within = q; left = le_of_lt_true q p e; right = le_self q }
      decide false e = record { within = p; left = le_self p; right = le_of_lt_false q p e }

pub higher_fits : (x y : Float) → T (fits binary64 x) → T (fits binary64 y) → T (fits binary64 (higher_of x y))
higher_fits x y f g = decide (lt x y)
  where
    decide : (b : Bool) → T (fits binary64 (cond b y x))
    decide true = g
    decide false = f

pub lower_fits : (x y : Float) → T (fits binary64 x) → T (fits binary64 y) → T (fits binary64 (lower_of x y))
lower_fits x y f g = decide (lt y x)
  where
    decide : (b : Bool) → T (fits binary64 (cond b y x))
    decide true = g
    decide false = f

-- ---- the way from u to v

-- where the way ends as it is computed
abbrev pub stepped : Float → Float → Float
stepped u v = u ⊕ (v ⊖ u)

-- m is at least each
pub record Highest (u v m : Float) : Type 0 where
  pub within : Within 10000 m
  pub first : T (le u m)
  pub second : T (le v m)
  pub step : T (le (stepped u v) m)

-- m is at most each
pub record Lowest (u v m : Float) : Type 0 where
  pub within : Within 10000 m
  pub first : T (le m u)
  pub second : T (le m v)
  pub step : T (le m (stepped u v))

module _ {u v : Float} (p : Within 1000 u) (q : Within 1000 v) where
  step_within : Within 10000 (stepped u v)
  step_within = add_within tt tt p (sub_within tt tt q p)

  pub highest_is : Highest u v (higher_of (higher_of u v) (stepped u v))
  highest_is =
      let P = widen 10000 tt p in
      let Q = widen 10000 tt q in
      let g = greater P Q in
      let h = greater g.within step_within in
      record {
        within = h.within;
        first = le_through P g.within h.within g.left h.left;
        second = le_through Q g.within h.within g.right h.left;
        step = h.right;
      }

  pub lowest_is : Lowest u v (lower_of (lower_of u v) (stepped u v))
  lowest_is =
      let P = widen 10000 tt p in
      let Q = widen 10000 tt q in
      let g = less P Q in
      let h = less g.within step_within in
      record {
        within = h.within;
        first = le_through h.within g.within P h.left g.left;
        second = le_through h.within g.within Q h.left g.right;
        step = h.right;
      }

-- ---- a segment's four sides

module _ {a b : Point} (A : PointWithin 1000 1000 a) (B : PointWithin 1000 1000 b) where
  pub reach_0 : Lowest a.x b.x (reach_of 0 a b)
  unfolding reach_of
  reach_0 = lowest_is A.x B.x

  pub reach_1 : Highest a.x b.x (reach_of 1 a b)
  unfolding reach_of
  reach_1 = highest_is A.x B.x

  pub reach_2 : Lowest a.y b.y (reach_of 2 a b)
  unfolding reach_of
  reach_2 = lowest_is A.y B.y

  pub reach_3 : Highest a.y b.y (reach_of 3 a b)
  unfolding reach_of
  reach_3 = highest_is A.y B.y

pub reach_fits_1 : (a b : Point) → PointFits a → PointFits b → T (fits binary64 (reach_of 1 a b))
unfolding reach_of
reach_fits_1 a b f g = higher_fits _ _ (higher_fits a.x b.x f.x g.x) (add-fits binary64 a.x (b.x ⊖ a.x))

-- ---- points and boxes of a loop

pub point_fits : (s : List Float) → AllFit s → (i : ℕ) → i < points s → PointFits (point_at s i)
unfolding point_at
point_fits s f i h = record { x = f (2 * i) (omega arith); y = f (2 * i + 1) (omega arith) }

pub after_fits : (s : List Float) → AllFit s → (i : ℕ) → i < points s → PointFits (point_after s i)
unfolding point_after
after_fits s f i h = next (ltb (i + 1) (points s)) (ltb-true (i + 1) (points s))
  where
    next : (b : Bool) → (b ≡ true → i + 1 < points s) → PointFits (point_at s (cond b (i + 1) 0))
    next true g = point_fits s f (i + 1) (g refl)
    next false g = point_fits s f 0 (omega arith)

module _ (s : List Float) (w : LoopWithin s) where
  pub segment_within : (i : ℕ) → i < points s → ExtentWithin 10000 (segment_extent s i)
  segment_within i h =
      let A = w i h in
      let B = after_within s w i h in
      record { xmin = (reach_0 A B).within; xmax = (reach_1 A B).within; ymin = (reach_2 A B).within; ymax = (reach_3 A B).within }

  pub block_within : {blocks : List ℕ} {b : ℕ} → BlockThere s blocks b → ExtentWithin 10000 (block_extent s blocks b)
  block_within {blocks} {b} t = record {
    xmin = (segment_within (side_at blocks b 0) (t.sides 0 (omega arith))).xmin;
    xmax = (segment_within (side_at blocks b 1) (t.sides 1 (omega arith))).xmax;
    ymin = (segment_within (side_at blocks b 2) (t.sides 2 (omega arith))).ymin;
    ymax = (segment_within (side_at blocks b 3) (t.sides 3 (omega arith))).ymax;
  }
