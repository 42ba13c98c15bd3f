-- `run_origins::push_origin` meets its contract: by the test.
use mathlib.Core.Path.{sym}
use native.Mathlib.Omega.{arith}
use Rattle.run_origins.specs.Writing.{push_same, push_other, push_at_same, push_at_other}
use Rattle.run_origins.proofs.push_origin.Goals as goal

pub returns-then-id-n : goal.returns-then-id-n
returns-then-id-n c = (sym (push_other _ _ c.if-id-n.true), push_at_other _ _ _ _ c.if-id-n.true)

pub bounds-origins-a : goal.bounds-origins-a
bounds-origins-a c = omega (arith, push_same _ _ c.if-id-n.false)

pub bounds-origins-n : goal.bounds-origins-n
bounds-origins-n c = omega (arith, push_same _ _ c.if-id-n.false)

pub returns : goal.returns
returns c =
    (sym (push_same _ _ c.if-id-n.false), push_at_same c.args.a _ _ c.args.origins.now c.if-id-n.false)
