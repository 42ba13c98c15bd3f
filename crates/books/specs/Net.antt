-- Edge balance: for two nodes, the steps from the first to the second less those from the second to the first. Definitions only.
use Rattle.std.specs.Prelude.{cond, List, [], ◌∷◌, ◌++◌, ℕ, ◌+◌, ℤ}
use Rattle.laws.specs.Loop.{for_up}
use Rattle.topology.specs.Balance.{difference}
use Rattle.front.specs.State.{State}
use Rattle.books.specs.Book.{Edge, edge, is_edge, quad_at, quad_edges}

-- how often the edge from u to v stands in a list
unfoldable pub count_edge : ℕ → ℕ → List Edge → ℕ
count_edge u v [] = 0
count_edge u v (e ∷ es) = cond (is_edge (edge u v) e) 1 0 + count_edge u v es

-- the steps from u to v, less those from v to u
unfoldable pub net : ℕ → ℕ → List Edge → ℤ
net u v es = difference (count_edge u v es) (count_edge v u es)

-- the edges of the first k quads
unfoldable pub quads_edges : State → ℕ → List Edge
quads_edges s k = for_up k (λ i es. es ++ quad_edges (quad_at s i)) []
