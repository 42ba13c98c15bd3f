-- `outline_orientation::Difference::add_signed` meets its contract. Assumes nothing.
use Rattle.outline_orientation.specs.Sums.{added_plus, added_minus}
use Rattle.outline_orientation.proofs.Difference.add_signed.Goals as goal

pub returns-then-negative : goal.returns-then-negative
returns-then-negative c = rw c.if-negative.true (added_minus c.add_product.ensures)

pub returns-else-negative : goal.returns-else-negative
returns-else-negative c = rw c.if-negative.false (added_plus c.add_product-else-negative.ensures)
