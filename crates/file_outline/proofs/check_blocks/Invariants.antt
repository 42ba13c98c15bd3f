-- `file_outline::check_blocks` meets its contract: the loop's invariant is that no block so far is refused.
use Rattle.file_outline.specs.RefusalLaws.{BlocksUnrefused}
use Rattle.file_outline.proofs.check_blocks.Given as goal

abbrev pub invariant-loop-k : goal.invariant-loop-k
invariant-loop-k l = BlocksUnrefused l.file l.n l.k
