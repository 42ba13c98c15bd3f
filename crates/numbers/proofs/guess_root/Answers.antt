-- `numbers::guess_root` meets its contract, which says nothing of the root: what it makes of bits is no NaN. Assumes nothing.
use Rattle.std.proofs.Common.{arith}
use Rattle.numbers.proofs.Patterns.{no_nan_bits}
use Rattle.numbers.proofs.guess_root.Goals as goal

pub float_from_bits-y0 : goal.float_from_bits-y0
float_from_bits-y0 c = no_nan_bits _ (omega arith)
