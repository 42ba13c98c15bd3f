-- `bowl::steps_at` meets its contract: `steps_are`.
use Rattle.bowl.proofs.StepsLaws.{cast_fits, few_x, few_y, steps_are}
use Rattle.bowl.proofs.steps_at.Goals as goal

pub overflow_cast-result : goal.overflow_cast-result
overflow_cast-result c =
    cast_fits c.nearest_step-x.result (few_x _ _ _ c.requires _ _ c.nearest_step-x.ensures c.nearest_step-y.ensures)

pub overflow_cast-result-2 : goal.overflow_cast-result-2
overflow_cast-result-2 c =
    cast_fits c.nearest_step-y.result (few_y _ _ _ c.requires _ _ c.nearest_step-x.ensures c.nearest_step-y.ensures)

pub returns : goal.returns
returns c =
    steps_are _ _ _ c.requires _ _ c.nearest_step-x.ensures c.nearest_step-y.ensures
