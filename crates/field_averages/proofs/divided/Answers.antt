-- `field_averages::divided` meets its contract: the products are the quotients (`quarter_same`, `half_same`). Assumes nothing.
use mathlib.Core.Path.{◌≡◌, refl, ap₂}
use lib.Ieee.{of_bits, of_int}
use Rattle.numbers.specs.Float.{four_f, two_f, to_float}
use Rattle.numbers_powers.proofs.Powers.{half_same, quarter_same}
use Rattle.outline.specs.Outline.{point}
use Rattle.field_averages.proofs.divided.Goals as goal

-- 4 as a float is 4.0, and 2 is 2.0
four : to_float 4 ≡ four_f
unfolding of_bits of_int
four = refl

two : to_float 2 ≡ two_f
unfolding of_bits of_int
two = refl

pub returns-then-count-eq4 : goal.returns-then-count-eq4
returns-then-count-eq4 c = rw (c.if-count-eq4.true, four) (ap₂ point (quarter_same _) (quarter_same _))

pub returns-then-count-eq2 : goal.returns-then-count-eq2
returns-then-count-eq2 c = rw (c.if-count-eq2.true, two) (ap₂ point (half_same _) (half_same _))
