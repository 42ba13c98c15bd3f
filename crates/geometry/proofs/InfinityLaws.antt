-- The infinities as quotients.
use Rattle.std.specs.Prelude.{◌≡◌, refl}
use Rattle.std.specs.Float.Ieee.{div, of_bits, neg}
use Rattle.numbers.specs.Float.{◌⊘◌, zero_f, one_f, infinity_f, neg_infinity_f}

-- `1.0 / 0.0`
pub infinity : one_f ⊘ zero_f ≡ infinity_f
unfolding div of_bits
infinity = refl

-- `-1.0 / 0.0`
pub minus_infinity : neg one_f ⊘ zero_f ≡ neg_infinity_f
unfolding div of_bits neg
minus_infinity = refl
