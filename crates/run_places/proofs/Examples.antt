-- Readings on the smallest inputs that show them. The check computes them.
use Rattle.std.specs.Prelude.{List, [], ◌∷◌, ◌≡◌, refl, ℕ, Float}
use Rattle.std.specs.Int.Count.{count_trailing_zeros}
use Rattle.std.specs.Float.Ieee.{span, climb, size, odd, units, round, neg, sum, add, sub, mul, div, lt, eq, le, of_int, of_fields, of_bits, is_nan}
use Rattle.laws.specs.Loop.{for_up, run, any_up, sum_up}
use Rattle.numbers.specs.Float.{zero_f, one_f, two_f, to_float, is_finite, abs_f, min_f, max_f}
use Rattle.numbers.specs.Root.{isqrt_in, root_units, root}
use Rattle.numbers.specs.Whole.{ceil_count}
use Rattle.exact.specs.Corner.{norm}
use Rattle.outline.specs.Outline.{outline, hole_start, hole_at, loop_at, point_at, point_after, any_float, misshapen, loop_refusal, loops_refusal}
use Rattle.outline.specs.Outline.{far_refusal, outline_refusal}
use Rattle.geometry.specs.Plane.{distance}
use Rattle.field_cross.specs.Grid.{widened, loop_bounds, bounds, grid_count, too_many_nodes, spacing, grid_of, size_refusal, bounds_refusal}
use Rattle.field_cross.specs.Field.{drawn_refusal}
use Rattle.front.specs.Sampling.{parts_of, parts, loop_parts, loop_nodes, sampled_count}
use Rattle.run_whole.proofs.Worked.{worked_square, worked_triangle}
use Rattle.run_places.specs.Needed.{places_answered, places_answer}

unfoldable opened_floats : Unit {0}
unfolding count_trailing_zeros span climb size odd units round neg sum add sub mul div lt eq le of_int of_fields of_bits is_nan is_finite abs_f min_f max_f isqrt_in root_units
    root ceil_count norm distance
opened_floats = tt

unfoldable opened : Unit {0}
unfolding opened_floats for_up run any_up sum_up hole_start hole_at loop_at point_at point_after any_float misshapen loop_refusal loops_refusal far_refusal outline_refusal
    widened loop_bounds bounds grid_count too_many_nodes spacing grid_of size_refusal bounds_refusal parts_of parts loop_parts loop_nodes sampled_count drawn_refusal
    places_answer
opened = tt

abbrev three_f : Float
three_f = to_float 3

-- the worked square: nodes half a unit apart, with one more outside on one side and two on the other; two parts a side
of_square : places_answer worked_square one_f ≡ places_answered 0 49 8
unfolding opened
of_square = refl

-- its triangle at size 3: an odd loop gets one node more
of_triangle : places_answer worked_triangle three_f ≡ places_answered 0 25 4
unfolding opened
of_triangle = refl

-- 5 of the size goes before 7 of the box, and all numbers are 0
no_size : places_answer (outline (zero_f ∷ zero_f ∷ one_f ∷ zero_f ∷ two_f ∷ zero_f ∷ []) [] []) zero_f ≡ places_answered 5 0 0
unfolding opened
no_size = refl

flat : places_answer (outline (zero_f ∷ zero_f ∷ one_f ∷ zero_f ∷ two_f ∷ zero_f ∷ []) [] []) one_f ≡ places_answered 7 0 0
unfolding opened
flat = refl

-- 2 of a hole
short_hole : places_answer (outline worked_square.outer (one_f ∷ one_f ∷ []) (1 ∷ [])) zero_f ≡ places_answered 2 0 0
unfolding opened
short_hole = refl
