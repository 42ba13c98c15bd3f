-- `add_up` meets its contract: the loop's invariant is `LengthsLeft`.
use Rattle.outline.proofs.OutlineBase.{LengthsLeft}
use Rattle.outline_loops.proofs.add_up.Given as goal

abbrev pub invariant-loop-n : goal.invariant-loop-n
invariant-loop-n l = LengthsLeft l.lens l.total l.left l.n-index
