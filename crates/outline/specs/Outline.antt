-- The outline as it is lent, its loops, and the refusals 1 to 4 in SCOPE's order. Definitions only.
use Rattle.std.specs.Prelude.{Bool, false, not, ◌||◌, cond, List, ◌≡◌, ℕ, zero, suc, ◌+◌, ◌*◌, ◌/◌, ◌%◌, ◌≤◌, ltb, eqb, length, get_or, take, drop, Float}
use Rattle.std.specs.Float.{nan}
use Rattle.std.specs.Float.Ieee.{lt}
use Rattle.laws.specs.Loop.{for_up, any_up, sum_up}
use Rattle.numbers.specs.Float.{bits, is_finite, abs_f}
use Rattle.outline.specs.declared.Domain.{Domain}
use Rattle.outline.specs.declared.Point.{Point}

-- The coordinates of the outer loop, x then y; those of all holes; and each hole's length in points.
pub record Outline : Type 0 where
  pub outer : List Float
  pub holes : List Float
  pub lens : List ℕ

abbrev pub outline : List Float → List Float → List ℕ → Outline
outline outer holes lens = record { outer = outer; holes = holes; lens = lens }

-- the outline that is lent
abbrev pub outline_of : Domain → Outline
outline_of d = outline d.outer.now d.holes.now d.lens.now

-- ---- loops and their points

abbrev pub hole_length : List ℕ → ℕ → ℕ
hole_length lens k = get_or lens k 0

-- how many points stand before hole k in the list of the holes
unfoldable pub hole_start : List ℕ → ℕ → ℕ
hole_start lens k = sum_up k (hole_length lens)

-- hole k's coordinates, a part of the holes' list
unfoldable pub hole_at : Outline → ℕ → List Float
hole_at o k = take (2 * hole_length o.lens k) (drop (2 * hole_start o.lens k) o.holes)

-- loop k's coordinates: loop 0 is the outer one
unfoldable pub loop_at : Outline → ℕ → List Float
loop_at o zero = o.outer
loop_at o (suc k) = hole_at o k

-- how many points a list of coordinates has
abbrev pub points : List Float → ℕ
points s = length s / 2

abbrev pub point : Float → Float → Point
point x y = record { x = x; y = y }

-- Point i of a loop. Past a list's end a float reads as a NaN; no index below `points` reads there.
unfoldable pub point_at : List Float → ℕ → Point
point_at s i = point (get_or s (2 * i) nan) (get_or s (2 * i + 1) nan)

-- the index after i among n, in a ring
abbrev pub after : ℕ → ℕ → ℕ
after n i = cond (ltb (i + 1) n) (i + 1) 0

-- segment i runs from point i to this one
unfoldable pub point_after : List Float → ℕ → Point
point_after s i = point_at s (after (points s) i)

-- ---- refusals: a refusal is its number, and 0 is none

-- the first of two
abbrev pub first_of : ℕ → ℕ → ℕ
first_of zero r = r
first_of (suc n) r = suc n

-- whether some float of a list passes the test
unfoldable pub any_float : (Float → Bool) → List Float → Bool
any_float test s = any_up (length s) (λ i. test (get_or s i nan))

abbrev pub not_finite : Float → Bool
not_finite x = not (is_finite x)

-- 1,000: a coordinate beyond it either way is refused
abbrev pub farthest : Float
farthest = bits 0x408f_4000_0000_0000

abbrev pub beyond : Float → Bool
beyond x = lt farthest (abs_f x)

-- how many points an outline has at most, in all its loops together
abbrev pub most_points : ℕ
most_points = 4096

-- 1: a coordinate list of odd length, hole lengths that don't add up to the hole points, or too many points
unfoldable pub misshapen : Outline → Bool
misshapen o =
    eqb (length o.outer % 2) 1 || (eqb (length o.holes % 2) 1
    || (not (eqb (hole_start o.lens (length o.lens)) (points o.holes)) || ltb most_points (points o.outer + points o.holes)))

-- 2 and 3 of one loop: fewer than three points, then a coordinate not finite
unfoldable pub loop_refusal : List Float → ℕ
loop_refusal s = cond (ltb (points s) 3) 2 (cond (any_float not_finite s) 3 0)

-- 2 and 3 loop by loop, the outer one first, as `Domain::new` has them
abbrev pub hole_refusal : Outline → ℕ → ℕ → ℕ
hole_refusal o k refusal = first_of refusal (loop_refusal (hole_at o k))

unfoldable pub loops_refusal : Outline → ℕ
loops_refusal o = for_up (length o.lens) (hole_refusal o) (loop_refusal o.outer)

-- 4 over all loops
unfoldable pub far_refusal : Outline → ℕ
far_refusal o = cond (any_float beyond o.outer || any_float beyond o.holes) 4 0

-- 1 to 4
unfoldable pub outline_refusal : Outline → ℕ
outline_refusal o = cond (misshapen o) 1 (first_of (loops_refusal o) (far_refusal o))

-- 3 and 4 of a query's point
unfoldable pub point_refusal : Point → ℕ
point_refusal p = cond (not_finite p.x || not_finite p.y) 3 (cond (beyond p.x || beyond p.y) 4 0)

-- of a query: 1 to 4 of the outline, then 3 and 4 of the point
unfoldable pub query_refusal : Outline → Point → ℕ
query_refusal o p = first_of (outline_refusal o) (point_refusal p)

-- ---- what a function over the loops asks

-- how many hole points stand before loop k
abbrev pub loop_start : List ℕ → ℕ → ℕ
loop_start lens zero = 0
loop_start lens (suc k) = hole_start lens k

-- loop k is there, and `start` hole points stand before it
pub record LoopPlace (o : Outline) (k start : ℕ) : Type 0 where
  pub shape : misshapen o ≡ false
  pub within : k ≤ length o.lens
  pub at : start ≡ loop_start o.lens k
