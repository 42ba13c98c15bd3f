-- `index::any_in_chain` meets its contract: what is left of the chain answers.
use Rattle.std.specs.Prelude.{Bool, ◌≡◌, ℕ, ◌≤◌, length}
use Rattle.index_pools.specs.Pool.{capacity, own_at, link_at, falling, chain, any_of}
use Rattle.index.specs.Walk.{Decides}
use Rattle.index.proofs.any_in_chain.Given as goal

abbrev pub invariant-loop-t : goal.invariant-loop-t
invariant-loop-t g l =
    let n = length l.pool in
    (l.limit ≤ capacity n)
    × ((tests : ℕ → Bool) → Decides (goal.F-post g l.test) 4294967296 tests
    → any_of tests (falling (own_at n l.pool) (link_at n l.pool) l.limit l.t) ≡ any_of tests (chain n l.pool l.fn.t))

abbrev pub decreases-loop-t : goal.decreases-loop-t
decreases-loop-t g l = l.limit
