-- Fours of the lattice, by computation: a unit square, the readings of a four, and the two on either side of 20 degrees.
use Rattle.std.specs.Prelude.{true, false, [], ◌∷◌, ◌≡◌, refl}
use Rattle.std.specs.Int.Count.{count_trailing_zeros}
use Rattle.std.specs.Float.Ieee.{of_int, of_bits, lt, eq, le, add, sub, mul, div, neg, round, sum, units, odd, size, span, climb}
use Rattle.numbers.specs.Root.{root, root_units, isqrt_in}
use Rattle.numbers.specs.Float.{to_float}
use Rattle.exact.specs.Corner.{norm, corner_ok, cross, squared_length, sine_above_third}
use Rattle.outline.specs.Outline.{point}
use Rattle.geometry.specs.Plane.{convex_ccw, doubled_area, area_term}
use Rattle.small_quads_lattice.specs.Fours.{lattice_point, points_of, accepted_four, corner_turns, above_third}
use Rattle.small_quads_lattice.specs.Theorem.{four_number}

-- 6 is in row 1, column 2
column_is_x : lattice_point 6 ≡ point (to_float 2) (to_float 1)
column_is_x = refl

points_of_a_number : points_of (four_number 0 1 5 4) ≡ 0 ∷ 1 ∷ 5 ∷ 4 ∷ []
points_of_a_number = refl

-- the unit square, run to the left
unit_square_lem : accepted_four (four_number 0 1 5 4) ≡ true
unfolding accepted_four convex_ccw doubled_area area_term corner_ok norm root root_units isqrt_in of_int of_bits lt le eq add sub mul div neg round sum units odd size span climb count_trailing_zeros
unit_square_lem = refl

unit_square_in_integers : above_third (four_number 0 1 5 4) ≡ true
unfolding above_third corner_turns cross squared_length sine_above_third
unit_square_in_integers = refl

-- a four is run as it stands: this one crosses itself
not_a_b_c_d : accepted_four (four_number 0 1 4 5) ≡ false
unfolding accepted_four convex_ccw doubled_area area_term corner_ok norm root root_units isqrt_in of_int of_bits lt le eq add sub mul div neg round sum units odd size span climb count_trailing_zeros
not_a_b_c_d = refl

not_a_b_c_d_in_integers : above_third (four_number 0 1 4 5) ≡ false
unfolding above_third corner_turns cross squared_length sine_above_third
not_a_b_c_d_in_integers = refl

-- the unit square, run to the right
to_the_right : accepted_four (four_number 0 4 5 1) ≡ false
unfolding accepted_four convex_ccw doubled_area area_term corner_ok norm root root_units isqrt_in of_int of_bits lt le eq add sub mul div neg round sum units odd size span climb count_trailing_zeros
to_the_right = refl

to_the_right_in_integers : above_third (four_number 0 4 5 1) ≡ false
unfolding above_third corner_turns cross squared_length sine_above_third
to_the_right_in_integers = refl

-- two of its points are the same
points_that_meet : accepted_four (four_number 0 0 5 4) ≡ false
unfolding accepted_four convex_ccw doubled_area area_term corner_ok norm root root_units isqrt_in of_int of_bits lt le eq add sub mul div neg round sum units odd size span climb count_trailing_zeros
points_that_meet = refl

points_that_meet_in_integers : above_third (four_number 0 0 5 4) ≡ false
unfolding above_third corner_turns cross squared_length sine_above_third
points_that_meet_in_integers = refl

-- the least sine is 1/√10, which is below sin 20 degrees and below 1/3
just_too_sharp : accepted_four (four_number 0 1 6 15) ≡ false
unfolding accepted_four convex_ccw doubled_area area_term corner_ok norm root root_units isqrt_in of_int of_bits lt le eq add sub mul div neg round sum units odd size span climb count_trailing_zeros
just_too_sharp = refl

just_too_sharp_in_integers : above_third (four_number 0 1 6 15) ≡ false
unfolding above_third corner_turns cross squared_length sine_above_third
just_too_sharp_in_integers = refl

-- the least sine is 5/13, which is above both
just_not_too_sharp : accepted_four (four_number 0 1 15 4) ≡ true
unfolding accepted_four convex_ccw doubled_area area_term corner_ok norm root root_units isqrt_in of_int of_bits lt le eq add sub mul div neg round sum units odd size span climb count_trailing_zeros
just_not_too_sharp = refl

just_not_too_sharp_in_integers : above_third (four_number 0 1 15 4) ≡ true
unfolding above_third corner_turns cross squared_length sine_above_third
just_not_too_sharp_in_integers = refl
