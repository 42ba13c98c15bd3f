-- `points_text::write_plain` meets its contract.
use Rattle.std.proofs.Common.{arith}
use Rattle.points_text.proofs.Letters.{written_none, written_skipped, written_more, written_end}
use Rattle.points_text.proofs.write_plain.Goals as goal

pub loop-i-init : goal.loop-i-init
loop-i-init c = (written_none _ _ c.args.out.now, omega arith)

pub loop-i-preserved-then-skip-gt0 : goal.loop-i-preserved-then-skip-gt0
loop-i-preserved-then-skip-gt0 c = (written_skipped _ _ _ _ c.loop-i.invariant.0 c.loop-i-test.true c.if-skip-gt0.true, omega (arith, c.loop-i.invariant.1))

pub loop-i-preserved : goal.loop-i-preserved
loop-i-preserved c = (
  written_more _ _ _ c.loop-i.invariant.0 c.loop-i-test.true c.if-skip-gt0.false (omega (arith, c.loop-i.invariant.1)) c.plain_byte.ensures c.sign_rest-skip.ensures,
  omega (arith, c.loop-i.invariant.1),
)

pub returns-clause-is : goal.returns-clause-is
returns-clause-is c = written_end _ _ _ _ c.loop-i.invariant.0 c.loop-i-test.false
