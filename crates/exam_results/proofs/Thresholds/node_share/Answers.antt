-- `Thresholds::node_share` meets its contract: the scan's invariant is `Scanned`.
use Rattle.std.proofs.Common.{arith}
use Rattle.exam_results.specs.FigureLaws.{scanned_start, scanned_next, scanned_end}
use Rattle.exam_results.proofs.Thresholds.node_share.Goals as goal

pub loop-k-init : goal.loop-k-init
loop-k-init c = scanned_start _ _ _

pub loop-k-preserved : goal.loop-k-preserved
loop-k-preserved c =
    scanned_next _ _ _ _ _ _ _ _ c.quad.result c.loop-k.invariant (omega arith) c.quad.ensures c.quad_share-share.ensures.0 c.quad_share-share.ensures.1

pub returns : goal.returns
returns c = scanned_end _ _ _ _ _ _ c.loop-k.invariant (omega arith)
