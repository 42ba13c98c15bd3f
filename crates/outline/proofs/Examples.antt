-- The nearest edge by name, computed from the definition: how its rule is read, each on its smallest input. Coordinates run x then y, a point after
-- another. Assumes nothing.
use Rattle.std.specs.Prelude.{◌≡◌, refl, List, [], ◌∷◌, ℕ, Float}
use Rattle.std.specs.Float.Ieee.{lt, le, add, sub, mul, div, eq, of_bits, round, odd, size, units, climb}
use Rattle.std.specs.Int.Count.{count_trailing_zeros}
use Rattle.laws.specs.Loop.{for_up, sum_up}
use Rattle.numbers.specs.Root.{isqrt_in, root_units, root}
use Rattle.numbers.specs.Float.{bits, zero_f, one_f, two_f, four_f, clamp_f}
use Rattle.outline.specs.declared.Near.{Near}
use Rattle.outline.specs.Outline.{Outline, outline, point, hole_start, hole_at, point_at, point_after}
use Rattle.outline.specs.Queries.{squared_distance, foot_of, point_segment_distance, nearer, nearest_in_loop, nearest_segment}

abbrev minus_one_f : Float
minus_one_f = bits 0xbff0_0000_0000_0000

abbrev three_f : Float
three_f = bits 0x4008_0000_0000_0000

-- the name of the segment of o that is nearest to (x, y): its loop, and its place there
abbrev name : Outline → Float → Float → ℕ × ℕ
name o x y = let n = nearest_segment o (point x y) in (n.loop_index, n.segment_index)

-- a square of side 4, against the clock from (0, 0)
abbrev side4 : List Float
side4 = zero_f ∷ zero_f ∷ four_f ∷ zero_f ∷ four_f ∷ four_f ∷ zero_f ∷ four_f ∷ []

abbrev square : Outline
square = outline side4 [] []

-- the square with the clock
abbrev clockwise : Outline
clockwise = outline (zero_f ∷ zero_f ∷ zero_f ∷ four_f ∷ four_f ∷ four_f ∷ four_f ∷ zero_f ∷ []) [] []

-- two turns round it, in one loop
abbrev twice : Outline
twice = outline (zero_f ∷ zero_f ∷ four_f ∷ zero_f ∷ four_f ∷ four_f ∷ zero_f ∷ four_f ∷ zero_f ∷ zero_f ∷ four_f ∷ zero_f ∷ four_f ∷ four_f ∷ zero_f ∷ four_f ∷ []) [] []

-- with itself for a hole
abbrev doubled : Outline
doubled = outline side4 side4 (4 ∷ [])

-- with two holes, triangles at (1, 1) and (3, 3)
abbrev holed : Outline
holed = outline side4 (one_f ∷ one_f ∷ two_f ∷ one_f ∷ one_f ∷ two_f ∷ three_f ∷ three_f ∷ two_f ∷ three_f ∷ three_f ∷ two_f ∷ []) (3 ∷ 3 ∷ [])

-- (2, 0) stands twice: segment 1 has no length
abbrev pausing : Outline
pausing = outline (zero_f ∷ zero_f ∷ two_f ∷ zero_f ∷ two_f ∷ zero_f ∷ two_f ∷ two_f ∷ zero_f ∷ two_f ∷ []) [] []

-- the same from its second point, so that segment 0 has no length
abbrev pausing_first : Outline
pausing_first = outline (two_f ∷ zero_f ∷ two_f ∷ zero_f ∷ two_f ∷ two_f ∷ zero_f ∷ two_f ∷ zero_f ∷ zero_f ∷ []) [] []

pub record Names : Type 0 where
  -- at the first corner and across from it segment 3 is as near, and the lower place is answered
  pub corner : name square zero_f zero_f ≡ (0, 0)
  pub across : name square minus_one_f minus_one_f ≡ (0, 0)
  pub left : name square minus_one_f two_f ≡ (0, 3)
  -- a place counts in the order drawn
  pub drawn : name clockwise minus_one_f two_f ≡ (0, 0)
  -- of two segments with the same ends the lower place
  pub first_turn : name twice minus_one_f two_f ≡ (0, 3)
  -- of two loops the outer one
  pub outer : name doubled minus_one_f two_f ≡ (0, 3)
  -- hole k is loop k + 1
  pub hole : name holed one_f one_f ≡ (1, 0)
  pub second_hole : name holed three_f three_f ≡ (2, 0)
  -- a segment of no length counts: before it, and after it
  pub before : name pausing three_f minus_one_f ≡ (0, 0)
  pub after : name pausing three_f one_f ≡ (0, 2)
  -- and is itself answered
  pub point : name pausing_first three_f minus_one_f ≡ (0, 0)

pub segment_names : Names
unfolding nearest_segment nearest_in_loop nearer point_segment_distance squared_distance foot_of hole_start hole_at point_at point_after for_up sum_up clamp_f isqrt_in
    root_units root lt le eq add sub mul div of_bits round odd size units climb count_trailing_zeros
segment_names = record {
  corner = refl;
  across = refl;
  left = refl;
  drawn = refl;
  first_turn = refl;
  outer = refl;
  hole = refl;
  second_hole = refl;
  before = refl;
  after = refl;
  point = refl;
}
