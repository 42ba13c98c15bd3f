-- How a book and a state belong together. Definitions only.
use Rattle.std.specs.Prelude.{◌≡◌, List, [], ◌∷◌, ℕ, ◌+◌, take}
use Rattle.topology.specs.Sums.{front_sum}
use Rattle.front.specs.State.{State}
use Rattle.books.specs.Book.{Edge, Book}

-- a weight over the edges of a list
unfoldable pub edges_sum : (ℕ → ℕ → ℕ) → List Edge → ℕ
edges_sum w [] = 0
edges_sum w (e ∷ es) = w e.from e.to + edges_sum w es

-- the book has the state's nodes, and its front is the edges of the loops ls
pub record Matches (s : State) (ls : List (List ℕ)) (b : Book) : Type 0 where
  pub xs : take s.counts.nodes s.xs ≡ b.xs
  pub ys : take s.counts.nodes s.ys ≡ b.ys
  pub sums : (w : ℕ → ℕ → ℕ) → edges_sum w b.front ≡ front_sum w ls
