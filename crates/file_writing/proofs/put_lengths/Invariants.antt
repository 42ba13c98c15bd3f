-- `file_writing::put_lengths` meets its contract: the loop's invariant is `Pieces`.
use Rattle.file_writing.proofs.WriteLaws.{Pieces}
use Rattle.file_outline.specs.File.{number_bytes}
use Rattle.file_writing.proofs.put_lengths.Given as goal

abbrev pub invariant-loop-k : goal.invariant-loop-k
invariant-loop-k l = Pieces 2 (number_bytes 2) l.lens 14 l.initial.b l.k l.b
