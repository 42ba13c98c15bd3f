-- `index::first` meets its contract: the first row, and then the later ones.
use Rattle.std.specs.Prelude.{◌≡◌, ◌++◌, ◌+◌, ◌-◌}
use Rattle.std.proofs.Common.{sym, ◌∙◌, arith, rules}
use Rattle.index_pools.specs.Pool.{span}
use Rattle.index.specs.Walk.{columns, rows, visited}
use Rattle.index.proofs.AcrossLaws.{across_from, across_end}
use Rattle.index.proofs.WalkLaws.{visited_short}
use Rattle.index.proofs.CursorLaws.{or_nowhere, or_stands, stands_none, stands_same, none_over}
use Rattle.index.proofs.cursors.first.Goals as goal
use Rattle.index.proofs.cursors.first.Goals.{After-in_row, then-pool-lt4-via-then-pool-lt4, then-pool-lt4-via-else-pool-lt4+then-r}

-- the first row, and then the later ones
from : (c : After-in_row)
    → let args = c.args in let pool = args.pool.now in let r = args.r in
    visited pool r ≡ columns pool r.low (span r.left r.right) r.left ++ rows pool r (r.high - r.low) (r.low + 1)
unfolding visited
from c =
    let args = c.args in
    across_from (λ j. columns args.pool.now j (span args.r.left args.r.right) args.r.left) args.r.low args.r.high
    c.if-r.false

pub returns-then-pool-lt4 : goal.returns-then-pool-lt4
unfolding visited
returns-then-pool-lt4 c =
    elim c.then-pool-lt4.branch [
      | then-pool-lt4-via-then-pool-lt4 w ↦ stands_none none_over (visited_short _ _ w.if-pool-lt4.true)
      | then-pool-lt4-via-else-pool-lt4+then-r w ↦ stands_none none_over (across_end _ _ _ (omega (arith, w.if-r.true)))
    ]

pub returns : goal.returns
returns c =
    let args = c.args in
    let found = c.in_row.ensures in
    let s = or_stands args.pool.now args.r args.r.low _ c.in_row.result c.or_else.result found.rest found.place c.or_else.ensures (λ m. search rules) in
    rw (c.unwrap_or.ensures ∙ or_nowhere c.or_else.result) (stands_same (sym (from (goal.at.returns c).After-in_row)) s.0)
