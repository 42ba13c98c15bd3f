-- From the figures of the edges to every balance of areas: where the book went through, and the figures of its start are those of the quads and of the front left,
-- its areas balance in whatever whole numbers coordinates are measured (`areas_balance`).
use Rattle.std.specs.Prelude.{[], ℕ, ◌<◌, length}
use Rattle.topology.specs.Links.{at}
use Rattle.books.specs.Book.{Book}
use Rattle.books.proofs.Matches.{edges_sum}

-- ---- areas

-- the edges of the front join nodes of the book
abbrev pub IsBookNode : Book → ℕ → Type 0
IsBookNode b id = (id < length b.xs) × (id < length b.ys)

abbrev pub FrontJoins : Book → Type 0
FrontJoins b = (u v : ℕ) → 0 < edges_sum (at u v) b.front → IsBookNode b u × IsBookNode b v
