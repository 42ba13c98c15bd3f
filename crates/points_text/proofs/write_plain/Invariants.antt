-- `points_text::write_plain` meets its contract: the loop is the definition's.
use Rattle.std.proofs.Common.{◌≤◌}
use Rattle.points_text.proofs.Letters.{Written}
use Rattle.points_text.proofs.write_plain.Given as goal

abbrev pub invariant-loop-i : goal.invariant-loop-i
invariant-loop-i l = (Written l.comma l.word l.i l.skip l.n l.out) × (l.n ≤ l.i)
