-- The holes of an outline as a list. Definitions only.
use Rattle.std.specs.Prelude.{List, [], ◌∷◌, ◌≡◌, ℕ, ◌+◌, ◌*◌, ◌≤◌, ◌<◌, ◌^◌, length, take, drop, sum, Float}
use Rattle.outline.specs.Outline.{Outline, hole_start, hole_at, most_points}
use Rattle.outline_loops.specs.declared.Hole.{Hole}

-- a hole's index, how many hole points stand before it, and its coordinates
abbrev pub placed : Hole → ℕ × (ℕ × List Float)
placed h = (h.index, (h.start, h.points.now))

-- coordinates cut into holes of these lengths, the first of which has this place
abbrev pub cut : ℕ → ℕ → List ℕ → List Float → List (ℕ × (ℕ × List Float))
cut k start [] s = []
cut k start (n ∷ lens) s = (k, (start, take (2 * n) s)) ∷ cut (k + 1) (start + n) lens (drop (2 * n) s)

unfoldable pub hole_list : Outline → List (ℕ × (ℕ × List Float))
hole_list o = cut 0 0 o.lens o.holes

-- every hole is there, and no place overflows
pub record Filled (k start : ℕ) (lens : List ℕ) (s : List Float) : Type 0 where
  pub there : 2 * sum lens ≤ length s
  pub few : 2 * start + length s ≤ 2 * most_points
  pub numbered : k + length lens < 2 ^ 64

-- the hole is the outline's k-th
pub record HolePlace (o : Outline) (k : ℕ) (h : Hole) : Type 0 where
  pub within : k < length o.lens
  pub index : h.index ≡ k
  pub start : h.start ≡ hole_start o.lens k
  pub points : h.points.now ≡ hole_at o k
