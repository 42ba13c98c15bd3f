-- `order_walks::file_steps` meets its contract: the closure gives the key of the step.
use Rattle.std.proofs.Common.{subst, sym, rules, arith}
use Rattle.std.specs.Prelude.{ℕ, List}
use Rattle.index_pools.specs.Pool.{Indexed}
use Rattle.index_pools.specs.FileLaws.{indexed_none}
use Rattle.order_walks.specs.Steps.{step_rect}
use Rattle.order_walks.proofs.file_steps.Goals as goal

pub returns : goal.returns
returns c =
    let rects = step_rect c.args.quads.now in
    c.file_items.ensures rects (λ k r h p. search rules) (omega arith)
    (subst (λ (p : List ℕ). Indexed p rects 0) (sym c.clear.ensures) (indexed_none c.args.pool.now rects))
