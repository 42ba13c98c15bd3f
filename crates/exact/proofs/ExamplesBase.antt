-- Small cases that the check computes: units of doubles, corners that pass the test and corners that fail it; and the sine theorem at a
-- corner of the unit square. Assumes nothing.
use Rattle.std.specs.Prelude.{◌≡◌, refl, false, ◌^◌, pos, neg_ℤ}
use Rattle.std.specs.Int.Count.{count_trailing_zeros}
use Rattle.std.specs.Float.Ieee.{of_bits, lt, eq, le, add, sub, mul, div, neg, round, sum, units, odd, size, span, climb}
use Rattle.numbers.specs.Root.{root, root_units, isqrt_in}
use Rattle.numbers.specs.Float.{bits, zero_f, one_f, two_f}
use Rattle.exact.specs.Units as U
use Rattle.exact.specs.Corner.{norm, corner_ok}

-- 1 is 2 ^ 1074 units, the smallest double above 0 is one, and -0.5 is -(2 ^ 1073)
one_units : U.units one_f ≡ pos (2 ^ 1074)
unfolding of_bits U.size_of U.W
one_units = refl

least_units : U.units (bits 1) ≡ pos 1
unfolding of_bits U.size_of U.W
least_units = refl

half_units : U.units (bits 0xbfe0_0000_0000_0000) ≡ neg_ℤ (pos (2 ^ 1073))
unfolding of_bits U.size_of U.W
half_units = refl

-- going straight on does not, nor does turning right, nor a side of no length
corner_straight : corner_ok zero_f zero_f one_f zero_f two_f zero_f ≡ false
unfolding corner_ok norm root root_units isqrt_in of_bits lt le eq add sub mul div neg round sum units odd size span climb count_trailing_zeros
corner_straight = refl

corner_right : corner_ok zero_f zero_f zero_f one_f one_f one_f ≡ false
unfolding corner_ok norm root root_units isqrt_in of_bits lt le eq add sub mul div neg round sum units odd size span climb count_trailing_zeros
corner_right = refl

corner_empty : corner_ok zero_f zero_f zero_f zero_f one_f one_f ≡ false
unfolding corner_ok norm root root_units isqrt_in of_bits lt le eq add sub mul div neg round sum units odd size span climb count_trailing_zeros
corner_empty = refl
