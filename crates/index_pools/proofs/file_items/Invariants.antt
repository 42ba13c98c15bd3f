-- `index_pools::file_items` meets its contract: one item more a turn.
use Prim.Native.Nat.{ℕ, ◌≤◌, min}
use Rattle.index_pools.specs.declared.Rect.{Rect}
use Rattle.index_pools.specs.Pool.{Indexed}
use Rattle.index_pools.specs.Filing.{Gives, Filing}
use Rattle.index_pools.proofs.file_items.Given as goal

abbrev pub invariant-loop-k : goal.invariant-loop-k
invariant-loop-k g l =
    (rects : ℕ → Rect) → Gives (goal.F-post g l.rect) (min l.to 4294967295) rects → l.from ≤ l.to → Indexed l.fn.pool rects l.from
    → Filing rects l.to l.fn.pool l.pool l.k
