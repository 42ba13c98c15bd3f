-- SCOPE's table of edges, the lines that this layer decides: each computed from the definitions, with the code's literals.
use Rattle.std.specs.Prelude.{◌≡◌, negsuc, refl}
use Rattle.std.specs.Float.Ieee.{div, of_bits, size, units}
use Rattle.numbers.specs.Root.{isqrt_in, root_units, root}
use Rattle.numbers.specs.Float.{bits, zero_f, one_f, two_f, four_f}
use Rattle.numbers.specs.Whole.{floor_int, floor_quotient}

pub record Edges : Type 0 where
  -- root of 0 is 0
  pub root_of_0 : root zero_f ≡ zero_f
  -- root of 4 is 2
  pub root_of_4 : root four_f ≡ two_f
  -- key of -0.5 for B = 1 is -1
  pub key_of_minus_half : floor_quotient (bits 0xbfe0_0000_0000_0000) one_f ≡ negsuc 0

pub edges : Edges
unfolding root root_units isqrt_in floor_quotient floor_int of_bits div size units
edges = record { root_of_0 = refl; root_of_4 = refl; key_of_minus_half = refl }
