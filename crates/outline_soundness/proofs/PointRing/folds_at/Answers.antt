-- `PointRing::folds_at` meets its contract: `folds_along` and `folds_apart`.
use Rattle.std.specs.Prelude.{refl}
use Rattle.outline_soundness.proofs.SegmentLaws.{folds_apart, folds_along}
use Rattle.outline_soundness.proofs.PointRing.folds_at.Goals as goal

pub returns-then-j-after : goal.returns-then-j-after
returns-then-j-after c =
    let i = c.segment.ensures in
    folds_along _ _ _ c.len.ensures c.after.ensures.0 c.if-j-after.true i.start i.end c.segment-then-j-after.ensures.end c.folds_back.ensures

pub returns-else-j-after : goal.returns-else-j-after
returns-else-j-after c = folds_apart _ _ _ c.len.ensures c.after.ensures.0 c.if-j-after.false refl
