-- `field_cross::too_many_nodes` meets its contract. Assumes nothing.
use Rattle.std.proofs.Common.{arith, mul-le-mul}
use Rattle.std.proofs.lemmas.Grind.{common_steps}
use Rattle.field_cross.proofs.Counts.{wide_many, high_many}
use Rattle.field_cross.specs.Grid.{too_many_nodes}
use Rattle.field_cross.proofs.too_many_nodes.Goals as goal

pub returns-then-ceil_count-gt-MOST_FIELD_NODES-2 : goal.returns-then-ceil_count-gt-MOST_FIELD_NODES-2
unfolding too_many_nodes
returns-then-ceil_count-gt-MOST_FIELD_NODES-2 c = grind (arith, common_steps, wide_many, high_many)

pub overflow_mul-result : goal.overflow_mul-result
overflow_mul-result c = omega (arith, mul-le-mul c.grid_count.ensures.upper_bound c.grid_count-else-ceil_count-gt-MOST_FIELD_NODES-2.ensures.upper_bound)

pub returns-else-ceil_count-gt-MOST_FIELD_NODES-2 : goal.returns-else-ceil_count-gt-MOST_FIELD_NODES-2
unfolding too_many_nodes
returns-else-ceil_count-gt-MOST_FIELD_NODES-2 c = rw (← c.grid_count.ensures.value, ← c.grid_count-else-ceil_count-gt-MOST_FIELD_NODES-2.ensures.value)
