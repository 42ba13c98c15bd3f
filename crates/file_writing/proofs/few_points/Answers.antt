-- `file_writing::few_points` meets its contract: the loop's invariant is `FewPoints`.
use Rattle.std.proofs.Common.{arith}
use Rattle.file_writing.proofs.WriteLaws.{few_start, few_next, few_out, few_end}
use Rattle.file_writing.proofs.few_points.Goals as goal

pub loop-n-init : goal.loop-n-init
loop-n-init c = few_start _

pub returns-then-sum-n : goal.returns-then-sum-n
returns-then-sum-n c = omega (arith, few_out c.loop-n.invariant c.loop-n-test.true c.if-sum-n.true)

pub loop-n-preserved : goal.loop-n-preserved
loop-n-preserved c = few_next c.loop-n.invariant c.loop-n-test.true c.if-sum-n.false

pub returns : goal.returns
returns c = let all = few_end c.loop-n.invariant c.loop-n-test.false in (c.loop-n.invariant.small, omega arith)
