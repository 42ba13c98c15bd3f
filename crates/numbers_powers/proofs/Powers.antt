-- A half and a quarter are powers of proofs/PowersBase.antt: here, so that an edit there is refused by `power_same`.
use Rattle.std.specs.Prelude.{◌≡◌, Float}
use Rattle.std.specs.Float.Ieee.{of_bits}
use Rattle.numbers.specs.Float.{◌⊗◌, ◌⊘◌, bits, half_f, two_f, four_f}
use Rattle.numbers_powers.proofs.PowersBase.{power_same}

pub half_same : (x : Float) → x ⊗ half_f ≡ x ⊘ two_f
unfolding of_bits
half_same x = power_same 0 x

-- 0.25
abbrev pub quarter_f : Float
quarter_f = bits 0x3fd0_0000_0000_0000

pub quarter_same : (x : Float) → x ⊗ quarter_f ≡ x ⊘ four_f
unfolding of_bits
quarter_same x = power_same 1 x
