-- `Segment::meets` meets its contract: the ends are within 1,000.
use Rattle.outline_soundness.specs.AcceptedLoops.{accepted_within}
use Rattle.outline_soundness.proofs.Segment.meets.Goals as goal

pub overlaps-requires : goal.overlaps-requires
overlaps-requires c =
    let s = c.args.self in
    let t = c.args.other in
    ((accepted_within s.start).x, (accepted_within s.end).x, (accepted_within t.start).x, (accepted_within t.end).x)

pub overlaps-requires-then-overlaps : goal.overlaps-requires-then-overlaps
overlaps-requires-then-overlaps c =
    let s = c.args.self in
    let t = c.args.other in
    ((accepted_within s.start).y, (accepted_within s.end).y, (accepted_within t.start).y, (accepted_within t.end).y)
