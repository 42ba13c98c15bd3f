-- `outline_orientation::add_at` meets its contract. Assumes nothing.
use native.Mathlib.Omega.{arith}
use Rattle.outline_orientation.specs.Sums.{grown_at}
use Rattle.outline_orientation.proofs.add_at.Goals as goal

pub returns : goal.returns
returns c = grown_at _ _ _ (omega arith)
