-- Where every front loop left has two nodes, no point is lost or counted twice. Definitions only.
use Rattle.std.specs.Prelude.{◌≡◌, ℕ, ◌<◌, pos, length, Float}
use Rattle.std.proofs.Math.Option.{some}
use Rattle.exact.specs.Corner.{Vector}
use Rattle.outline.specs.Outline.{Outline}
use Rattle.topology.specs.Sums.{All}
use Rattle.front.specs.State.{State}
use Rattle.books.specs.Book.{Book, start_book, book_after}
use Rattle.books.specs.Points.{winding, quads_round, InOne}
use Rattle.books.specs.Holds.{LoopsHold}

-- after k quads that s answers
pub record PavedOnce (o : Outline) (size : Float) (s : State) (k : ℕ) : Type 0 where
  pub book : Book
  pub steps : book_after o size s k ≡ some book
  -- the sampled outline goes round a point as often as there are quads that have it
  pub paved : (L : LoopsHold o book) → All (λ l. length l ≡ 2) L.loops → (n : ℕ) → 0 < n → (p : Vector)
      → winding n p (start_book o size) (start_book o size).front ≡ pos (quads_round n p book s k)
  -- so that a point that the sampled outline goes round once is in exactly one quad
  pub one : (L : LoopsHold o book) → All (λ l. length l ≡ 2) L.loops → (n : ℕ) → 0 < n → (p : Vector)
      → winding n p (start_book o size) (start_book o size).front ≡ pos 1 → InOne n p book s k
