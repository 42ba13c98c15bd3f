-- What the writing of a point and of a loop does to the lists.
use Rattle.std.specs.Prelude.{ℕ, ◌+◌, ◌*◌, List, Option, Some, None, slice_set, Float}
use Rattle.points_reader.specs.declared.reading.Spot.{Spot}
use Rattle.points_reader.specs.declared.reading.Ended.{Ended}

abbrev pub put_point : Option Spot → ℕ → List Float → List Float
put_point (Some s) at l = slice_set (slice_set l (2 * at) s.x) (2 * at + 1) s.y
put_point None at l = l

abbrev pub put_line : Option Spot → ℕ → List ℕ → List ℕ
put_line (Some s) at l = slice_set l at s.line
put_line None at l = l

abbrev pub put_length : Option Ended → ℕ → List ℕ → List ℕ
put_length (Some e) at l = slice_set l at e.length
put_length None at l = l

abbrev pub put_marks : Option Ended → ℕ → List ℕ → List ℕ
put_marks (Some e) at l = slice_set (slice_set (slice_set l (3 * at) e.from) (3 * at + 1) e.to) (3 * at + 2) e.left
put_marks None at l = l
