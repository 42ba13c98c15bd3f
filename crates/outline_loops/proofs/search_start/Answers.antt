-- `search_start` meets its contract: both infinities have the same bits.
use Rattle.std.specs.Prelude.{refl}
use Rattle.std.specs.Float.Ieee.{of_bits}
use Rattle.outline_loops.proofs.search_start.Goals as goal

pub returns : goal.returns
unfolding of_bits
returns c = refl
