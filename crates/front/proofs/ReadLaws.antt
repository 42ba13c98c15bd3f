-- Reading a coordinate past the end. Assumes nothing.
use Rattle.std.specs.Prelude.{◌≡◌, refl}
use Rattle.std.specs.Float.{nan}
use Rattle.std.specs.Float.Ieee.{div, of_bits}
use Rattle.numbers.specs.Float.{◌⊘◌, zero_f}

-- 0.0 / 0.0
pub no_number : zero_f ⊘ zero_f ≡ nan
unfolding div of_bits
no_number = refl
