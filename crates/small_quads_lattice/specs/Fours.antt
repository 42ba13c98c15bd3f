-- Every small quad: the fours of points of a 4 by 4 lattice that `convex_ccw` accepts at 20 degrees, and those that turn left at every corner
-- with a sine above 1/3, worked out in integers. Definitions only; Same.antt proves that the two lists are equal.
use Rattle.std.specs.Prelude.{Bool, cond, ◌&&◌, List, [], ◌∷◌, ◌++◌, ℕ, ◌/◌, ◌%◌, ltb, length, pos, ◌-ℤ◌}
use Rattle.std.proofs.lemmas.List.Edits.{sets}
use Rattle.laws.specs.Loop.{for_up}
use Rattle.numbers.specs.Float.{to_float}
use Rattle.exact.specs.Corner.{Vector, sine_above_third}
use Rattle.outline.specs.declared.Point.{Point}
use Rattle.outline.specs.Outline.{point}
use Rattle.geometry.specs.declared.Corners.{Corners}
use Rattle.geometry.specs.Plane.{convex_ccw}

-- the point with the number n, which is 4 times its row and its column
abbrev pub lattice_point : ℕ → Point
lattice_point n = point (to_float (n % 4)) (to_float (n / 4))

-- ---- a four of points as one number below 65,536: its four digits to the base 16. Rising numbers are the dictionary order of the fours.

abbrev pub first_point : ℕ → ℕ
first_point k = k / 4096

abbrev pub second_point : ℕ → ℕ
second_point k = k / 256 % 16

abbrev pub third_point : ℕ → ℕ
third_point k = k / 16 % 16

abbrev pub fourth_point : ℕ → ℕ
fourth_point k = k % 16

-- the quad, which runs first, second, third, fourth
abbrev pub lattice_quad : ℕ → Corners
lattice_quad k = record { a = lattice_point (first_point k); b = lattice_point (second_point k); d = lattice_point (third_point k); c = lattice_point (fourth_point k) }

-- `convex_ccw` at 20 degrees accepts the four
unfoldable pub accepted_four : ℕ → Bool
accepted_four k = convex_ccw (lattice_quad k)

-- ---- in integers

-- the step from the point p to the point q
abbrev pub lattice_step : ℕ → ℕ → Vector
lattice_step p q = record { x = pos (q % 4) -ℤ pos (p % 4); y = pos (q / 4) -ℤ pos (p / 4) }

-- the way from p to q to r turns left at q, with a sine above 1/3
unfoldable pub corner_turns : ℕ → ℕ → ℕ → Bool
corner_turns p q r = sine_above_third (lattice_step p q) (lattice_step q r)

-- it does so at all four
unfoldable pub above_third : ℕ → Bool
above_third k =
    corner_turns (fourth_point k) (first_point k) (second_point k) && (corner_turns (first_point k) (second_point k) (third_point k)
    && (corner_turns (second_point k) (third_point k) (fourth_point k) && corner_turns (third_point k) (fourth_point k) (first_point k)))

-- ---- the list

-- the numbers of its four points
abbrev pub points_of : ℕ → List ℕ
points_of k = first_point k ∷ second_point k ∷ third_point k ∷ fourth_point k ∷ []

abbrev pub four_turn : (ℕ → Bool) → ℕ → List ℕ → List ℕ
four_turn test k l = cond (test k) (l ++ points_of k) l

-- the fours that pass, in dictionary order, each once: four numbers a four
unfoldable pub fours : (ℕ → Bool) → List ℕ
fours test = for_up 65536 (four_turn test) []

-- ---- the answer

-- the refusal, how many fours are listed, and the lent list as it is left
pub record FoursAnswer : Type 0 where
  pub refusal : ℕ
  pub count : ℕ
  pub list : List ℕ

abbrev pub fours_answer : ℕ → ℕ → List ℕ → FoursAnswer
fours_answer refusal count list = record { refusal = refusal; count = count; list = list }

-- Of a lent list s: 26 where it is too short for all of them, and it is left as it was. Otherwise how many fours there are, and all of them stored
-- from place 0 on; the places past them keep their contents.
unfoldable pub small_quads : List ℕ → FoursAnswer
small_quads s =
    let l = fours accepted_four in
    cond (ltb (length s) (length l)) (fours_answer 26 0 s) (fours_answer 0 (length l / 4) (sets s 0 l))
