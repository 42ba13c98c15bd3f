-- Computed from the definitions: the worked square and triangle, and a square with a hole of an odd number of points.
use Rattle.std.specs.Prelude.{◌≡◌, refl, List, [], ◌∷◌, ℕ, Float}
use Rattle.std.specs.Int.Count.{count_trailing_zeros}
use Rattle.std.specs.Float.Ieee.{span, climb, size, odd, units, round, neg, sum, add, sub, mul, div, lt, eq, le, of_int, of_fields, of_bits, to_bits, is_nan}
use Rattle.laws.specs.Loop.{for_up, sum_up}
use Rattle.numbers.specs.Float.{bits, zero_f, one_f, two_f}
use Rattle.numbers.specs.Root.{isqrt_in, root_units, root}
use Rattle.numbers.specs.Whole.{ceil_count}
use Rattle.outline.specs.Outline.{Outline, outline, hole_start, hole_at, loop_at, point_at, point_after}
use Rattle.exact.specs.Corner.{norm}
use Rattle.geometry.specs.Plane.{distance}
use Rattle.front.specs.Sampling.{parts_of, parts, loop_parts, loop_nodes}
use Rattle.front_lent_mesh.specs.Mesh.{quad_in}
use Rattle.run_whole.proofs.Worked.{worked_square, worked_triangle}
use Rattle.run_origins.specs.Origins.{sampled_origins, push_origin, origins_after}

-- what the numbers are computed with
unfoldable opened : Unit {0}
unfolding count_trailing_zeros span climb size odd units round neg sum add sub mul div lt eq le of_int of_fields of_bits to_bits is_nan for_up sum_up isqrt_in root_units root
    ceil_count hole_start hole_at loop_at point_at point_after norm distance parts_of parts loop_parts loop_nodes quad_in sampled_origins push_origin origins_after
opened = tt

-- ---- the square (0,0) (2,0) (2,2) (0,2) at size 1, with the four quads of its run

abbrev quads : List ℕ
quads = 0 ∷ 1 ∷ 8 ∷ 7 ∷ 1 ∷ 2 ∷ 3 ∷ 8 ∷ 3 ∷ 4 ∷ 5 ∷ 8 ∷ 5 ∷ 6 ∷ 7 ∷ 8 ∷ []

pub square_origins : origins_after worked_square one_f quads 4 ≡ 0 ∷ 0 ∷ 0 ∷ 0 ∷ 0 ∷ 0 ∷ 0 ∷ 0 ∷ 0 ∷ []
unfolding opened
square_origins = refl

-- ---- the triangle (0,0) (2,0) (1,2) at size 3: three points, and a midpoint

abbrev three : Float
three = bits 0x4008_0000_0000_0000

pub triangle_origins : sampled_origins worked_triangle three ≡ 0 ∷ 0 ∷ 0 ∷ 0 ∷ []
unfolding opened
triangle_origins = refl

-- ---- the square (0,0) (8,0) (8,8) (0,8) at size 2 with the hole (3,3) (3,5) (5,3): 16 points; three and a midpoint

abbrev five : Float
five = bits 0x4014_0000_0000_0000

abbrev eight : Float
eight = bits 0x4020_0000_0000_0000

abbrev holed_square : Outline
holed_square = outline (zero_f ∷ zero_f ∷ eight ∷ zero_f ∷ eight ∷ eight ∷ zero_f ∷ eight ∷ []) (three ∷ three ∷ three ∷ five ∷ five ∷ three ∷ []) (3 ∷ [])

-- sixteen times 0, four times 1
abbrev samples : List ℕ → List ℕ
samples l = 0 ∷ 0 ∷ 0 ∷ 0 ∷ 0 ∷ 0 ∷ 0 ∷ 0 ∷ 0 ∷ 0 ∷ 0 ∷ 0 ∷ 0 ∷ 0 ∷ 0 ∷ 0 ∷ 1 ∷ 1 ∷ 1 ∷ 1 ∷ l

pub holed_samples : sampled_origins holed_square two_f ≡ samples []
unfolding opened
holed_samples = refl

-- the twelve quads of its run, as the program prints them: one round along the outer loop, with eight new nodes
abbrev holed_quads : List ℕ
holed_quads =
    0 ∷ 1 ∷ 20 ∷ 15 ∷ 1 ∷ 2 ∷ 21 ∷ 20 ∷ 2 ∷ 3 ∷ 22 ∷ 21 ∷ 3 ∷ 4 ∷ 5 ∷ 22 ∷ 5 ∷ 6 ∷ 23 ∷ 22 ∷ 6 ∷ 7 ∷ 24 ∷ 23 ∷ 7 ∷ 8 ∷ 9 ∷ 24 ∷ 9 ∷ 10 ∷ 25 ∷ 24
    ∷ 10 ∷ 11 ∷ 26 ∷ 25 ∷ 11 ∷ 12 ∷ 13 ∷ 26 ∷ 13 ∷ 14 ∷ 27 ∷ 26 ∷ 14 ∷ 15 ∷ 20 ∷ 27 ∷ []

pub holed_origins : origins_after holed_square two_f holed_quads 12 ≡ samples (0 ∷ 0 ∷ 0 ∷ 0 ∷ 0 ∷ 0 ∷ 0 ∷ 0 ∷ [])
unfolding opened
holed_origins = refl

-- quads that no run places, to show the rule: one on the edge 16 to 17 of the hole with c = 20 and d = 21 new, then one on 0 to 1
pub hole_first_origins : origins_after holed_square two_f (16 ∷ 17 ∷ 21 ∷ 20 ∷ 0 ∷ 1 ∷ 23 ∷ 22 ∷ []) 2 ≡ samples (1 ∷ 1 ∷ 0 ∷ 0 ∷ [])
unfolding opened
hole_first_origins = refl
