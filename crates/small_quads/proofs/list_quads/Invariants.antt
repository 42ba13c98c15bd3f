-- `small_quads::list_quads` meets its contract: the invariant is `FoursWritten`: the fours below k on the first places. Assumes nothing.
use Rattle.small_quads.proofs.ListLaws.{FoursWritten}
use Rattle.small_quads.proofs.list_quads.Given as goal

abbrev pub invariant-loop-k : goal.invariant-loop-k
invariant-loop-k l = FoursWritten l.initial.list l.k l.n l.list
