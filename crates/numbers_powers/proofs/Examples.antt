-- Products whose results are too small for a normal float, computed. A unit is the smallest float above 0.
use Rattle.std.specs.Prelude.{◌≡◌, refl}
use Rattle.std.specs.Float.Ieee.{mul, round, of_bits}
use Rattle.numbers.specs.Float.{◌⊗◌, bits, half_f}
use Rattle.numbers_powers.proofs.Powers.{quarter_f}

-- a quarter of 3 units is 1 unit; of 2 units it is 0, and of 6 units 2 units: of two as near, the even one
pub three_units : bits 3 ⊗ quarter_f ≡ bits 1
unfolding of_bits mul round
three_units = refl

pub two_units : bits 2 ⊗ quarter_f ≡ bits 0
unfolding of_bits mul round
two_units = refl

pub six_units : bits 6 ⊗ quarter_f ≡ bits 2
unfolding of_bits mul round
six_units = refl

-- half a unit is 0, and half of 3 units is 2 units
pub one_unit_halved : bits 1 ⊗ half_f ≡ bits 0
unfolding of_bits mul round
one_unit_halved = refl

pub three_units_halved : bits 3 ⊗ half_f ≡ bits 2
unfolding of_bits mul round
three_units_halved = refl

-- a quarter of the smallest normal float is below the normal range, and exact
pub normal_quartered : bits 0x0010_0000_0000_0000 ⊗ quarter_f ≡ bits 0x0004_0000_0000_0000
unfolding of_bits mul round
normal_quartered = refl
