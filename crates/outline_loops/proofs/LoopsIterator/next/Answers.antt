-- `next` meets its contract: the first of what is left is the loop whose points are handed out.
use Rattle.std.proofs.Common.{arith, ap, length}
use Rattle.outline_loops.proofs.LoopList.{loop_ahead, none_ahead, loop_passed, passed_few}
use Rattle.outline_loops.proofs.LoopsIterator.next.Goals as goal
use Rattle.outline_loops.proofs.LoopsIterator.next.Goals.{then-index-eq0, else-index-eq0}

pub returns-then-index-domain-clause-steps : goal.returns-then-index-domain-clause-steps
returns-then-index-domain-clause-steps c = let e = none_ahead c.args.self.now.ahead (omega (arith, c.if-index-domain.true)) in (e, e)

pub invariant_of-self : goal.invariant_of-self
invariant_of-self c =
    record {
      ahead = loop_passed c.args.self.now.ahead (omega (arith, c.if-index-domain.false))
          (λ z. elim c.if-index-eq0.branch [ then-index-eq0 w ↦ w.passed-is | else-index-eq0 w ↦ absurd (w.if-index-eq0.false z) ])
          (λ n. elim c.if-index-eq0.branch [ then-index-eq0 w ↦ absurd (n w.if-index-eq0.true) | else-index-eq0 w ↦ w.passed-is ]);
    }

pub overflow_add-self-2 : goal.overflow_add-self-2
overflow_add-self-2 c =
    let passed = loop_passed c.args.self.now.ahead (omega (arith, c.if-index-domain.false))
    (λ z. elim c.if-index-eq0.branch [ then-index-eq0 w ↦ w.passed-is | else-index-eq0 w ↦ absurd (w.if-index-eq0.false z) ])
    (λ n. elim c.if-index-eq0.branch [ then-index-eq0 w ↦ absurd (n w.if-index-eq0.true) | else-index-eq0 w ↦ w.passed-is ]) in
    omega (arith, passed_few passed)

pub returns-clause-steps : goal.returns-clause-steps
returns-clause-steps c = loop_ahead c.args.self.now.ahead (omega (arith, c.if-index-domain.false)) c.loop_points.ensures

pub returns-clause-goes : goal.returns-clause-goes
returns-clause-goes c =
    let less = ap length (loop_ahead c.args.self.now.ahead (omega (arith, c.if-index-domain.false)) c.loop_points.ensures) in
    record { on = λ f. (f, cc, omega (arith, less)); keeps = tt; rests = λ f. tt }
