-- What a host gets of a run. Definitions only.
use Rattle.std.specs.Prelude.{◌≡◌}
use Rattle.outline.specs.declared.Settings.{Settings}
use Rattle.outline.specs.Outline.{Outline}
use Rattle.front.specs.State.{State, state_of, counted}
use Rattle.books.specs.Holds.{BooksAnswered}
use Rattle.run_origins.specs.Origins.{OriginsAnswered}
use Rattle.run.specs.Run.{Lent, Ran, run_answer}
use Rattle.run_pave_answer.specs.declared.PaveAnswer.{PaveAnswer}
use Rattle.run_pave_answer.specs.Numbers.{pave_numbers}

-- the numbers of the run, and every list lent as it leaves it
pub record PaveExit : Type 0 where
  pub numbers : PaveAnswer
  pub lists : Lent

abbrev pub pave_exit : PaveAnswer → Lent → PaveExit
pave_exit numbers lists = record { numbers = numbers; lists = lists }

abbrev pub ran_numbers : Ran → PaveExit
ran_numbers r = pave_exit (pave_numbers r.answer) r.lists

-- the state that is answered: the lists as they are left, with the counts answered
abbrev pub state_answered : PaveAnswer → Lent → State
state_answered r after =
    state_of after.xs after.ys after.next after.prev after.snapshot after.quads after.edges
    (counted r.nodes r.quads r.edges r.front)

-- WHAT A HOST GETS of an outline and settings, where `before` is lent, `r` answered and `after` left in the lists
pub record HostPaves (o : Outline) (set : Settings) (before : Lent) (r : PaveAnswer) (after : Lent) : Type 0 where
  -- every number and every list are the definition's, bit for bit
  pub equal : pave_exit r after ≡ ran_numbers (run_answer o set before)
  -- a refusal leaves every list as it was
  pub refused : (r.refusal ≡ 0 → ⊥) → after ≡ before
  -- the exact books of the outline, the size and what is answered hold: the quads and coordinates, the loops listed, and whether it is whole
  pub books : r.refusal ≡ 0
      → BooksAnswered o set.size (state_answered r after) r.loops r.ids after.loops after.lengths r.whole
  -- every node answered has the number of the outline's loop that it came from, and no front loop and no quad ever has nodes of two
  pub origins : r.refusal ≡ 0 → OriginsAnswered o set.size (state_answered r after) before.origins after.origins
