-- `file_writing::put_points` meets its contract: the loop's invariant is `Pieces`.
use Rattle.file_writing.proofs.WriteLaws.{Pieces}
use Rattle.file_outline.specs.File.{float_bytes}
use Rattle.file_writing.proofs.put_points.Given as goal

abbrev pub invariant-loop-c : goal.invariant-loop-c
invariant-loop-c l = Pieces 8 float_bytes l.points 0 l.initial.b l.c l.b
