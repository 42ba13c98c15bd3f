-- Points that refusals 3 and 4 let pass, and loops of such points: what code that judges an outline knows of each. Assumes nothing.
use Rattle.std.specs.Prelude.{Bool, true, false, cond, List, ◌≡◌, refl, ℕ, ◌+◌, ◌*◌, ◌≤◌, ◌<◌, T, ltb, length, get_or, Float}
use Rattle.std.proofs.Common.{arith, ltb-true}
use Rattle.std.specs.Float.{nan, binary64}
use Rattle.std.specs.Float.Ieee.{fits}
use Rattle.numbers.specs.Float.{is_finite}
use Rattle.outline.specs.declared.Point.{Point}
use Rattle.outline.specs.Outline.{Outline, loop_at, points, point_at, point_after, beyond, point_refusal}
use Rattle.outline.specs.Accepted.{OutlineFits, PointFits, PointWithin, Accepted, each, point_within}

pub record AcceptedPoint (p : Point) : Type 0 where
  pub fits : PointFits p
  pub kept : point_refusal p ≡ 0

abbrev pub AcceptedLoop : List Float → Type 0
AcceptedLoop s = (i : ℕ) → i < points s → AcceptedPoint (point_at s i)

-- such a point is within 1,000
pub accepted_within : {p : Point} → AcceptedPoint p → PointWithin 1000 1000 p
accepted_within {p} a = point_within p a.fits a.kept

-- the point after one of such a loop
pub accepted_after : (s : List Float) → AcceptedLoop s → (i : ℕ) → i < points s → AcceptedPoint (point_after s i)
unfolding point_after
accepted_after s w i h = next (ltb (i + 1) (points s)) (ltb-true (i + 1) (points s))
  where
    next : (b : Bool) → (b ≡ true → i + 1 < points s) → AcceptedPoint (point_at s (cond b (i + 1) 0))
    next true g = w (i + 1) (g refl)
    next false g = w 0 (omega arith)

kept_of : (p : Point) → is_finite p.x ≡ true → is_finite p.y ≡ true → beyond p.x ≡ false → beyond p.y ≡ false → point_refusal p ≡ 0
unfolding point_refusal
kept_of p fx fy bx by = rw (fx, fy, bx, by) refl

-- every loop of an outline that refusals 1 to 4 let pass
pub accepted_loop : (o : Outline) → OutlineFits o → Accepted o → (k : ℕ) → k ≤ length o.lens → AcceptedLoop (loop_at o k)
unfolding point_at
accepted_loop o f a k h i l =
    record {
      fits = record { x = fit (2 * i) (omega arith); y = fit (2 * i + 1) (omega arith) };
      kept = kept_of (point_at (loop_at o k) i) (a.finite k (2 * i) h (omega arith)) (a.finite k (2 * i + 1) h (omega arith)) (a.near k (2 * i) h (omega arith)) (a.near k (2 * i + 1) h (omega arith));
    }
  where
    fit : (j : ℕ) → j < length (loop_at o k) → T (fits binary64 (get_or (loop_at o k) j nan))
    fit j g = each o (λ x. T (fits binary64 x)) f.outer f.holes k j g
