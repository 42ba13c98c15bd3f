-- `front::coordinate` meets its contract. Past the end the definition reads a NaN.
use Rattle.std.proofs.Common.{arith}
use lib.Ieee.{of_bits}
use Rattle.front.proofs.coordinate.Goals as goal

pub returns : goal.returns
unfolding of_bits
returns c = rw (c.unwrap_or.ensures, c.copied.ensures) (c.get.ensures.lookup.4 (omega arith) _)
