-- `paving_snapshots::node_after` meets its contract.
use Rattle.std.proofs.Common.{ap, ◌∙◌}
use Prim.Native.Nat.{ℕ, ◌+◌, max}
use Rattle.paving_snapshots.proofs.StretchLaws.{after_without, after_tried, after_stretch}
use Rattle.paving_snapshots.proofs.node_after.Goals as goal
use Rattle.paving_snapshots.proofs.node_after.Goals.{else-i-tried-via-then-i-tried+else-tried-i, else-i-tried-via-else-i-tried}

pub returns-then-tried-i : goal.returns-then-tried-i
returns-then-tried-i c =
    c.max.ensures ∙ ap (λ (e : ℕ). max (c.args.a + 1) e) c.min-end.ensures ∙ after_stretch _ _ _ c.if-i-tried.true c.if-tried-i.true

pub returns-else-i-tried : goal.returns-else-i-tried
returns-else-i-tried c =
    elim c.else-i-tried.branch [
      | else-i-tried-via-then-i-tried+else-tried-i w ↦ after_tried _ _ _ w.if-i-tried.true w.if-tried-i.false
      | else-i-tried-via-else-i-tried w ↦ after_without _ _ _ w.if-i-tried.false
    ]
