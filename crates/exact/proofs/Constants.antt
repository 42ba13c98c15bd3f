-- The floats that all layers share, in units. Assumes nothing.
use Rattle.std.specs.Prelude.{refl, false, ℕ, ◌*◌, ◌^◌}
use Rattle.std.specs.Float.Ieee.{of_bits}
use Rattle.numbers.specs.Float.{zero_f, one_f, two_f, tolerance}
use Rattle.exact.specs.Units.{W, Val}

pub zero_val : Val zero_f false 0
unfolding W of_bits
zero_val = (refl, refl)

pub one_val : Val one_f false W
unfolding W of_bits
one_val = (refl, refl)

pub two_val : Val two_f false (2 * W)
unfolding W of_bits
two_val = (refl, refl)

-- 1e-12
unfoldable pub tolerance_units : ℕ
tolerance_units = 4951760157141521 * 2 ^ 982

pub tolerance_val : Val tolerance false tolerance_units
unfolding W of_bits tolerance_units
tolerance_val = (refl, refl)
