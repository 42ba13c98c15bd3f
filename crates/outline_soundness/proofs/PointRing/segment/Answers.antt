-- `PointRing::segment` meets its contract: the points of an accepted loop are accepted.
use Rattle.outline_soundness.specs.AcceptedLoops.{accepted_after}
use Rattle.outline_soundness.proofs.SegmentLaws.{end_is}
use Rattle.outline_soundness.proofs.PointRing.segment.Goals as goal

pub invariant_of-result : goal.invariant_of-result
invariant_of-result c =
    let s = c.args.self in
    record { start = rw c.point_at.ensures (s.accepted _ c.requires); end = rw c.point_after.ensures (accepted_after _ s.accepted _ c.requires) }

pub returns-clause-end : goal.returns-clause-end
returns-clause-end c = end_is _ _ c.point_after.ensures
