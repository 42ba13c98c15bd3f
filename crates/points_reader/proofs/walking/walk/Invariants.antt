-- `points_reader::walk` meets its contract: the lists have what has been given so far, as far as they reach.
use Rattle.points_reader.proofs.Steps.{Walked}
use Rattle.points_reader.proofs.walking.walk.Given as goal

abbrev pub invariant-loop-i : goal.invariant-loop-i
invariant-loop-i l =
    Walked l.separator l.text l.initial.reader l.initial.points l.initial.lines l.initial.lengths l.initial.marks l.i l.from l.reader l.points l.lines l.lengths l.marks
