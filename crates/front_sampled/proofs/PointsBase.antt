-- What the sampled nodes are: each is a cut of a segment of a loop, or the midpoint of two such points.
use Rattle.std.specs.Prelude.{[], Float}
use Prim.Native.Nat.{ℕ, ◌<◌}
use Rattle.numbers.specs.Float.{◌⊕◌, ◌⊘◌, two_f}
use Rattle.outline.specs.declared.Point.{Point}
use Rattle.outline.specs.Outline.{Outline, loop_at, points, point, point_at, point_after}
use Rattle.front.specs.Sampling.{parts, loop_count, cut}

-- ---- definitions

-- halfway from a to b, as an odd loop's midpoint is computed
abbrev pub halfway : Point → Point → Point
halfway a b = point ((a.x ⊕ b.x) ⊘ two_f) ((a.y ⊕ b.y) ⊘ two_f)

-- P holds of every cut of every segment of every loop, and of the point halfway between two points of which it holds
pub record OfSamples (P : Point → Type 0) (o : Outline) (size : Float) : Type 0 where
  pub cuts : (k i j : ℕ) → k < loop_count o → i < points (loop_at o k) → j < parts size (loop_at o k) i
      → P (cut (point_at (loop_at o k) i) (point_after (loop_at o k) i) (parts size (loop_at o k) i) j)
  pub midpoints : (a b : Point) → P a → P b → P (halfway a b)
