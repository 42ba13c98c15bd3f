-- `numbers::root_by_digits` meets its contract: each turn is one of `Digits`, and after 53 turns the remainder says whether the
-- root is nearer to `root` or to the next number. Assumes nothing.
use Rattle.numbers.proofs.Digits.{Turn}
use Rattle.numbers.proofs.root_by_digits.Given as goal

abbrev pub invariant-loop-turn : goal.invariant-loop-turn
invariant-loop-turn l = Turn l.s l.turn l.root l.rem l.rest
