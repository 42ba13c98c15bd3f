-- `file_outline::read_lengths` meets its contract: the loop's invariant is `Filling`.
use Rattle.laws.specs.Overlay.{Filling}
use Rattle.file_outline.specs.File.{head_length}
use Rattle.file_outline.proofs.read_lengths.Given as goal

abbrev pub invariant-loop-k : goal.invariant-loop-k
invariant-loop-k l = Filling (head_length l.h) l.initial.place-items l.n l.k l.place-items
