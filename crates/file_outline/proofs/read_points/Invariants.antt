-- `file_outline::read_points` meets its contract: the loop's invariant is `Filling`.
use Rattle.std.proofs.Common.{◌*◌}
use Rattle.laws.specs.Overlay.{Filling}
use Rattle.file_outline.specs.File.{coordinate_at}
use Rattle.file_outline.proofs.read_points.Given as goal

abbrev pub invariant-loop-c : goal.invariant-loop-c
invariant-loop-c l = Filling (coordinate_at l.file) l.initial.place-items (2 * l.n) l.c l.place-items
