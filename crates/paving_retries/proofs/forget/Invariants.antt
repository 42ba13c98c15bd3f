-- `paving_retries::forget` meets its contract: the loop is the definition's.
use Rattle.paving_retries.proofs.VainBase.{Forgetting}
use Rattle.paving_retries.proofs.forget.Given as goal

abbrev pub invariant-loop-a : goal.invariant-loop-a
invariant-loop-a l = Forgetting l.from l.to l.a l.initial.tried l.tried
