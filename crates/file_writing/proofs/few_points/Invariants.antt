-- `file_writing::few_points` meets its contract: the loop's invariant is `FewPoints`.
use Rattle.file_writing.proofs.WriteLaws.{FewPoints}
use Rattle.file_writing.proofs.few_points.Given as goal

abbrev pub invariant-loop-n : goal.invariant-loop-n
invariant-loop-n l = FewPoints l.lens l.n-index l.sum
