-- `small_quads::Step::turns_left` meets its contract: `turn_false` and `turn_true` of Integers.antt. Assumes nothing.
use Rattle.std.proofs.Common.{refl}
use Rattle.small_quads.proofs.Integers.{turn_false, turn_true}
use Rattle.small_quads.proofs.Step.turns_left.Goals as goal

pub returns-then-plus-minus : goal.returns-then-plus-minus
returns-then-plus-minus c = turn_false _ _ _ _ _ _ refl refl c.if-plus-minus.true

pub returns : goal.returns
returns c = turn_true _ _ _ _ _ _ refl refl _ _ _ _ c.if-plus-minus.false c.squared.ensures.0 c.squared-2.ensures.0 refl refl
