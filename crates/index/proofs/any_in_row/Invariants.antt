-- `index::any_in_row` meets its contract: the columns left answer.
use Rattle.std.specs.Prelude.{Bool, ◌≡◌, ℕ, ◌+◌, ◌-◌, length}
use Rattle.index_pools.specs.Pool.{cells, cell_of, span, any_of}
use Rattle.index.specs.Walk.{columns, Decides}
use Rattle.index.proofs.any_in_row.Given as goal

abbrev pub invariant-loop-k : goal.invariant-loop-k
invariant-loop-k g l =
    (l.cell ≡ cell_of (cells (length l.pool)) l.k l.j)
    × ((tests : ℕ → Bool) → Decides (goal.F-post g l.test) 4294967296 tests
    → any_of tests (columns l.pool l.j (l.right + 1 - l.k) l.k) ≡ any_of tests (columns l.pool l.j (span l.left l.right) l.left))
