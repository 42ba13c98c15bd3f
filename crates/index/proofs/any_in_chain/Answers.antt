-- `index::any_in_chain` meets its contract: what is left of the chain answers.
use Rattle.std.specs.Prelude.{length}
use Rattle.std.proofs.Common.{sym, ◌∙◌, arith}
use Rattle.index.proofs.Walked.{chain_all, chain_hit, chain_next, chain_over}
use Rattle.index.proofs.any_in_chain.Goals as goal

pub loop-t-init : goal.loop-t-init
loop-t-init g c = (omega (arith, c.capacity_of-limit.ensures), λ tests decides. chain_all tests (length c.args.pool.now) c.args.pool.now c.args.t c.capacity_of-limit.ensures)

pub returns-then-test : goal.returns-then-test
returns-then-test g c =
    λ tests decides.
    chain_hit tests (length c.args.pool.now) c.args.pool.now c.loop-t.limit c.loop-t.t (c.loop-t.invariant.1 tests decides) c.loop-t-test.true c.place_at-own.ensures.0
    (sym (decides _ _ (omega arith) c.test.ensures) ∙ c.if-test.true)

pub loop-t-preserved : goal.loop-t-preserved
loop-t-preserved g c = (
  omega (arith, c.loop-t.invariant.0, c.loop-t-test.true),
  λ tests decides.
      chain_next tests (length c.args.pool.now) c.args.pool.now c.loop-t.limit c.loop-t.t (c.loop-t.invariant.1 tests decides) c.loop-t-test.true c.place_at-own.ensures.0 c.place_at-own.ensures.1
      (sym (decides _ _ (omega arith) c.test.ensures) ∙ c.if-test.false),
)

pub returns : goal.returns
returns g c = λ tests decides. chain_over tests (length c.args.pool.now) c.args.pool.now c.loop-t.limit c.loop-t.t (c.loop-t.invariant.1 tests decides) (omega (arith, c.loop-t-test.false))
