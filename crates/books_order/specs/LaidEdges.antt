-- The presentation order's "each quad that laid a front edge which it used up" is what happened in the exact book (`book_after`): whoever laid there an edge that a
-- quad takes off is among those that the quad must come after, and an edge taken off was on the starting front or was laid by one of them. A quad's
-- steps are read off the fronts before and after it, so nothing is said here of how a book goes from one to the other. The theorems are in proofs/LaidEdges.antt.
-- (That nobody else is among them isn't claimed: an edge that is laid twice would have two layers.)
use Prim.Native.Nat.{ℕ, suc, ◌<◌}
use Rattle.std.specs.Prelude.{◌≡◌, Float}
use Rattle.std.proofs.Math.Option.{some}
use Rattle.outline.specs.Outline.{Outline}
use Rattle.front.specs.State.{State}
use Rattle.books.specs.Book.{Book, book_after}
use Rattle.books.specs.Net.{count_edge}

-- ---- what happened in the book

-- how often the edge u to v stands on a book's front
abbrev pub on_front : ℕ → ℕ → Book → ℕ
on_front u v b = count_edge u v b.front

-- the books before and after quad k
pub record AtQuad (o : Outline) (size : Float) (s : State) (k : ℕ) : Type 0 where
  pub before : Book
  pub after : Book
  pub from : book_after o size s k ≡ some before
  pub to : book_after o size s (suc k) ≡ some after

-- quad k laid the front edge u to v: it stands there more often than before
pub record LaidInBook (o : Outline) (size : Float) (s : State) (k u v : ℕ) : Type 0 where
  pub step : AtQuad o size s k
  pub more : on_front u v step.before < on_front u v step.after

-- quad k used up the front edge u to v: it stands there less often than before
pub record UsedInBook (o : Outline) (size : Float) (s : State) (k u v : ℕ) : Type 0 where
  pub step : AtQuad o size s k
  pub fewer : on_front u v step.after < on_front u v step.before
