-- `add_up` meets its contract: each answer is a law of the loop's invariant.
use Rattle.outline.proofs.OutlineBase.{lengths_start, lengths_next, lengths_short}
use Rattle.outline_loops.proofs.add_up.Goals as goal

pub loop-n-init : goal.loop-n-init
loop-n-init c = lengths_start _ _

pub returns-then-left-n : goal.returns-then-left-n
returns-then-left-n c = lengths_short c.loop-n.invariant c.loop-n-test.true c.if-left-n.true

pub loop-n-preserved : goal.loop-n-preserved
loop-n-preserved c = lengths_next c.loop-n.invariant c.loop-n-test.true c.if-left-n.false
