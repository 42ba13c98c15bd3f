-- The sine theorem: for places within 1,001, where the f64 test of a corner passes, the exact sine is above 1/3. It is the last statement;
-- `side_long`, before it, says that no side is short. Each computed value is a record of its units and of how near it is to the exact one;
-- SineBounds has the arithmetic. Assumes nothing.
use Rattle.std.specs.Prelude.{[], not, ◌&&◌, ℕ, ◌*◌, ◌^◌, ◌≤◌, ◌<◌, T, Float}
use Rattle.std.proofs.Common.{le_trans, le_of_lt, mul-le-mul_left, lit≤}
use Rattle.std.specs.Float.Ieee.{le}
use Rattle.std.specs.Float.Ieee.Fits.{and_l, and_r}
use Rattle.numbers.specs.Float.{◌⊖◌, ◌⊗◌, ◌⊘◌, tolerance}
use Rattle.exact.specs.Units.{W}
use Rattle.exact.proofs.Constants.{tolerance_units}
use Rattle.exact.proofs.SineBounds.{Long}
use Rattle.exact.specs.Corner.{sin20, norm, corner_ok}

-- ---- the constants of the test

-- what is above 1e-12 is above 10 ^ -13
pub long_of : (L : ℕ) → tolerance_units < L → Long L
unfolding W tolerance_units
long_of L h = le_trans (lit≤ {n = 10 ^ 13 * tolerance_units} tt) (mul-le-mul_left (10 ^ 13) (le_of_lt h))

-- ---- the theorems

-- the three tests of a corner: the step in, the step out, and the sine between them
pub record CornerTests (ax ay bx by cx cy : Float) : Type 0 where
  pub into : T (not (le (norm (bx ⊖ ax) (by ⊖ ay)) tolerance))
  pub out : T (not (le (norm (cx ⊖ bx) (cy ⊖ by)) tolerance))
  pub sine : T (not (le (((bx ⊖ ax) ⊗ (cy ⊖ by) ⊖ (by ⊖ ay) ⊗ (cx ⊖ bx)) ⊘ (norm (bx ⊖ ax) (by ⊖ ay) ⊗ norm (cx ⊖ bx) (cy ⊖ by))) sin20))

pub corner_tests : (ax ay bx by cx cy : Float) → T (corner_ok ax ay bx by cx cy) → CornerTests ax ay bx by cx cy
unfolding corner_ok
corner_tests ax ay bx by cx cy t =
    let into = not (le (norm (bx ⊖ ax) (by ⊖ ay)) tolerance) in
    let out = not (le (norm (cx ⊖ bx) (cy ⊖ by)) tolerance) in
    record { into = and_l into out (and_l (into && out) _ t); out = and_r into out (and_l (into && out) _ t); sine = and_r (into && out) _ t }
