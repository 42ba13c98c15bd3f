-- The answers of `nearest_segment` as they cross, computed from the definitions. Assumes nothing.
use Rattle.std.specs.Prelude.{◌≡◌, refl, [], ◌∷◌}
use Rattle.std.specs.Int.Count.{count_trailing_zeros}
use Rattle.std.specs.Float.{nan}
use Rattle.std.specs.Float.Ieee.{lt, le, eq, add, sub, mul, div, of_bits, round, odd, size, units, span, climb, is_nan}
use Rattle.laws.specs.Loop.{for_up, any_up, sum_up}
use Rattle.numbers.specs.Root.{isqrt_in, root_units, root}
use Rattle.numbers.specs.Float.{zero_f, one_f, four_f, is_finite, abs_f, clamp_f}
use Rattle.outline.specs.Outline.{Outline, outline, point, hole_start, hole_at, loop_at, point_at, point_after, any_float, misshapen, loop_refusal, loops_refusal}
use Rattle.outline.specs.Outline.{far_refusal, outline_refusal, point_refusal, query_refusal}
use Rattle.outline.specs.Queries.{squared_distance, foot_of, point_segment_distance, nearer, nearest_in_loop, nearest_segment}
use Rattle.outline_queries.specs.Answers.{nearest_answer, nearest_numbers}

-- (0, 0) (4, 0) (4, 4) (0, 4)
abbrev square : Outline
square = outline (zero_f ∷ zero_f ∷ four_f ∷ zero_f ∷ four_f ∷ four_f ∷ zero_f ∷ four_f ∷ []) [] []

-- refused with 3: both numbers of the name are 0, as the other values
pub nearest_refused : nearest_numbers (nearest_answer square (point nan one_f))
    ≡ record { refusal = 3; ax = zero_f; ay = zero_f; bx = zero_f; by = zero_f; distance = zero_f; loop_index = 0; segment_index = 0 }
unfolding nearest_numbers nearest_answer query_refusal point_refusal outline_refusal far_refusal loops_refusal loop_refusal misshapen any_float loop_at hole_at hole_start for_up
    any_up sum_up is_finite abs_f of_bits lt eq le size units span climb round odd count_trailing_zeros
nearest_refused = refl

-- (1, 4) lies on segment 2
pub nearest_answered : nearest_numbers (nearest_answer square (point one_f four_f))
    ≡ record { refusal = 0; ax = four_f; ay = four_f; bx = zero_f; by = four_f; distance = zero_f; loop_index = 0; segment_index = 2 }
unfolding nearest_numbers nearest_answer query_refusal point_refusal outline_refusal far_refusal loops_refusal loop_refusal misshapen any_float loop_at hole_at hole_start for_up
    any_up sum_up is_finite abs_f of_bits lt eq le add sub mul div size units span climb round odd is_nan count_trailing_zeros nearest_segment nearest_in_loop nearer
    point_segment_distance squared_distance foot_of point_at point_after clamp_f isqrt_in root_units root
nearest_answered = refl
