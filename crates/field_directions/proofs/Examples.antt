-- Readings of silent points, each on the smallest input that shows it. The check computes them.
use Rattle.std.specs.Prelude.{List, [], ◌∷◌, ◌≡◌, refl, ℕ, Float}
use Rattle.std.specs.Int.Count.{count_trailing_zeros}
use Rattle.std.specs.Float.{nan}
use Rattle.std.specs.Float.Ieee.{span, climb, size, odd, units, round, neg, sum, add, sub, mul, div, lt, eq, le, of_int, of_fields, of_bits, is_nan}
use Rattle.laws.specs.Loop.{for_up, any_up}
use Rattle.numbers.specs.Float.{zero_f, one_f, to_float, is_finite, abs_f, min_f, max_f, clamp_f}
use Rattle.numbers.specs.Root.{isqrt_in, root_units, root}
use Rattle.numbers.specs.Whole.{floor_int}
use Rattle.exact.specs.Corner.{norm}
use Rattle.outline.specs.Outline.{point_at, any_float, point_refusal}
use Rattle.field_direction.specs.Record.{FieldRecord}
use Rattle.field_direction.specs.Direction.{within, counts_sound, grid_sound, record_refusal, weighed, raw_at, scaled, half, direction_of, dot, closer_of}
use Rattle.field_direction.specs.Direction.{nearest_of, nearest_direction, direction_refusal, direction_answer}
use Rattle.field_directions.specs.Directions.{record_lent, direction_floats, strung, lists_unfit, directions_refusal, directions_exit, directions_answer}

unfoldable opened_floats : Unit {0}
unfolding count_trailing_zeros span climb size odd units round neg sum add sub mul div lt eq le of_int of_fields of_bits is_nan is_finite abs_f min_f max_f clamp_f
    isqrt_in root_units root floor_int norm
opened_floats = tt

unfoldable opened : Unit {0}
unfolding opened_floats for_up any_up point_at any_float point_refusal within counts_sound grid_sound record_refusal weighed raw_at scaled half direction_of dot closer_of
    nearest_of nearest_direction direction_refusal direction_answer direction_floats strung lists_unfit directions_refusal directions_answer
opened = tt

-- two rows of nx nodes with spacing 1 from (0, 0) on; the values of four nodes, all (1, 0)
abbrev along : ℕ → FieldRecord
along nx =
    record_lent zero_f zero_f one_f nx 2 (one_f ∷ zero_f ∷ one_f ∷ zero_f ∷ one_f ∷ zero_f ∷ one_f ∷ zero_f ∷ []) (0 ∷ 0 ∷ 0 ∷ 0 ∷ [])

abbrev origin : List Float
origin = zero_f ∷ zero_f ∷ []

-- some contents of a list, before and after
abbrev old : Float
old = to_float 7

-- no points: answered, and nothing is written
none : directions_answer (along 2) [] [] (old ∷ []) ≡ directions_exit 0 (old ∷ [])
unfolding opened
none = refl

-- no points, and a refused record: 11
none_refused : directions_answer (along 1) [] [] [] ≡ directions_exit 11 []
unfolding opened
none_refused = refl

-- a place past three a point keeps its contents
place_past : directions_answer (along 2) origin (one_f ∷ zero_f ∷ []) (old ∷ old ∷ old ∷ old ∷ []) ≡ directions_exit 0 (zero_f ∷ one_f ∷ zero_f ∷ old ∷ [])
unfolding opened
place_past = refl

-- lists of one length that end in half a point
half_point : directions_answer (along 2) (zero_f ∷ []) (zero_f ∷ []) [] ≡ directions_exit 14 []
unfolding opened
half_point = refl

-- two places for one point
short : directions_answer (along 2) origin origin (old ∷ old ∷ []) ≡ directions_exit 14 (old ∷ old ∷ [])
unfolding opened
short = refl

-- 14 goes before 11
lists_first : directions_answer (along 1) origin (zero_f ∷ zero_f ∷ zero_f ∷ zero_f ∷ []) (old ∷ old ∷ old ∷ []) ≡ directions_exit 14 (old ∷ old ∷ old ∷ [])
unfolding opened
lists_first = refl

-- the number as a float, and +0.0 twice
not_finite_lem : directions_answer (along 2) (nan ∷ zero_f ∷ []) origin (old ∷ old ∷ old ∷ []) ≡ directions_exit 0 (to_float 3 ∷ zero_f ∷ zero_f ∷ [])
unfolding opened
not_finite_lem = refl

-- the sign of a zero is the single query's
minus_zero : directions_answer (along 2) origin (neg one_f ∷ zero_f ∷ []) (old ∷ old ∷ old ∷ []) ≡ directions_exit 0 (zero_f ∷ neg one_f ∷ neg zero_f ∷ [])
unfolding opened
minus_zero = refl

-- a NaN never wins
target_nan : directions_answer (along 2) origin (nan ∷ zero_f ∷ []) (old ∷ old ∷ old ∷ []) ≡ directions_exit 0 (zero_f ∷ one_f ∷ zero_f ∷ [])
unfolding opened
target_nan = refl
