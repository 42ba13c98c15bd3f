-- `points_reader::has_semicolons` meets its contract: no semicolon has been found so far.
use Rattle.std.proofs.Common.{◌≡◌, length}
use Rattle.laws.specs.Loop.{Scan}
use Rattle.points_reader.specs.Walking.{separates, commented}
use Rattle.points_reader.proofs.walking.has_semicolons.Given as goal

abbrev pub invariant-loop-i : goal.invariant-loop-i
invariant-loop-i l = (Scan (separates l.text) (length l.text) l.i) × (l.comment ≡ commented l.text l.i)
