-- What holds of the definitions of proofs/ExamplesBase.antt.
use Rattle.std.specs.Prelude.{◌≡◌, refl, true, T}
use Rattle.std.proofs.Common.{subst, sym}
use Rattle.std.specs.Int.Count.{count_trailing_zeros}
use Rattle.std.specs.Float.Ieee.{fits, of_bits, lt, eq, le, add, sub, mul, div, neg, round, sum, units, odd, size, span, climb}
use Rattle.numbers.specs.Root.{root, root_units, isqrt_in}
use Rattle.numbers.specs.Float.{zero_f, one_f}
use Rattle.exact.specs.Units as U
use Rattle.exact.proofs.Order.{within_le}
use Rattle.exact.specs.Corner.{norm, corner_ok, step_units, sine_above_third}
use Rattle.exact.proofs.Sine.{sine_theorem}

-- a corner of the unit square passes
corner_square : corner_ok zero_f zero_f one_f zero_f one_f one_f ≡ true
unfolding corner_ok norm root root_units isqrt_in of_bits lt le eq add sub mul div neg round sum units odd size span climb count_trailing_zeros
corner_square = refl

-- the theorem's premises can be met
within_zero : U.Within 1001 zero_f
unfolding of_bits fits le lt eq
within_zero = within_le 1001 zero_f tt tt tt

within_one : U.Within 1001 one_f
unfolding of_bits fits le lt eq
within_one = within_le 1001 one_f tt tt tt

square_sine : T (sine_above_third (step_units zero_f zero_f one_f zero_f) (step_units one_f zero_f one_f one_f))
square_sine =
    sine_theorem zero_f zero_f one_f zero_f one_f one_f within_zero within_zero within_one within_zero within_one within_one
    (subst T (sym corner_square) tt)
