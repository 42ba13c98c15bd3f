-- `paving_retries::forget` meets its contract: the loop is the definition's.
use Rattle.paving_retries.proofs.VainBase.{forgetting_starts, forgetting_goes, forgetting_ends}
use Rattle.paving_retries.proofs.forget.Goals as goal

pub loop-a-init : goal.loop-a-init
loop-a-init c = forgetting_starts _ _ _

pub loop-a-preserved : goal.loop-a-preserved
loop-a-preserved c = forgetting_goes c.loop-a.invariant c.loop-a-test.true c.set_stretch.ensures

pub shape_of-tried : goal.shape_of-tried
shape_of-tried c = c.loop-a.invariant.long

pub returns : goal.returns
returns c = forgetting_ends c.loop-a.invariant c.loop-a-test.false
