-- The book's step for one placing goes through, and the book then matches the state after it. The book reads quads and coordinates
-- from a later state of the run, as they are answered at its end. The theorem, `booked`, stands at the end.
use Rattle.std.specs.Prelude.{ℕ, List, [], ◌≡◌}
use Rattle.std.proofs.Math.Option.{some}
use Rattle.front.specs.State.{State}
use Rattle.books.specs.Book.{Book, book, Quad, book_quad}
use Rattle.books.proofs.Matches.{Matches}

-- ---- the statement

-- the book's step for quad q, as answered by the state final, goes through from b, and leaves a book of the state t
pub record BookStep (final : State) (q : Quad) (b : Book) (t : State) (ls : List (List ℕ)) : Type 0 where
  pub book : Book
  pub through : book_quad final q b ≡ some book
  pub matches : Matches t ls book
