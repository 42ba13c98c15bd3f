-- `field_cross::Bounds::none` meets its contract. Assumes nothing.
use mathlib.Core.Path.{refl}
use lib.Ieee.{of_bits, div, neg}
use Rattle.field_cross.proofs.Bounds.none.Goals as goal

pub returns : goal.returns
unfolding of_bits div neg
returns c = refl
