-- `Segment::meets_ray` meets its contract: `ray_above`, `ray_down`, `ray_up`, `ray_below`.
use Rattle.std.proofs.Common.{sym, ◌∙◌}
use Rattle.outline_orientation.specs.Orient.{is_left, is_right}
use Rattle.outline_soundness.specs.AcceptedLoops.{accepted_within}
use Rattle.outline_soundness.proofs.SegmentLaws.{lt_lt_z, ray_above, ray_down, ray_up, ray_below}
use Rattle.outline_soundness.proofs.Segment.meets_ray.Goals as goal

pub side-requires : goal.side-requires
side-requires c = (accepted_within c.args.self.start, accepted_within c.args.self.end, accepted_within c.args.other.start)

pub side-requires-in-false-true : goal.side-requires-in-false-true
side-requires-in-false-true c = (accepted_within c.args.self.start, accepted_within c.args.self.end, accepted_within c.args.other.start)

pub returns-in-true-false : goal.returns-in-true-false
returns-in-true-false c =
    let p = (accepted_within c.args.other.start).y in
    let a = (accepted_within c.args.self.start).y in
    let b = (accepted_within c.args.self.end).y in
    c.is_lt.ensures ∙ is_right _
    ∙ ray_down _ _ _ (sym (lt_lt_z p a) ∙ c.in-true-false.is-0) (sym (lt_lt_z p b) ∙ c.in-true-false.is-1) c.side.ensures

pub returns-in-false-true : goal.returns-in-false-true
returns-in-false-true c =
    let p = (accepted_within c.args.other.start).y in
    let a = (accepted_within c.args.self.start).y in
    let b = (accepted_within c.args.self.end).y in
    c.is_gt.ensures ∙ is_left _
    ∙ ray_up _ _ _ (sym (lt_lt_z p a) ∙ c.in-false-true.is-0) (sym (lt_lt_z p b) ∙ c.in-false-true.is-1) c.side-in-false-true.ensures

pub returns-in_default : goal.returns-in_default
returns-in_default c =
    let p = (accepted_within c.args.other.start).y in
    let a = (accepted_within c.args.self.start).y in
    let b = (accepted_within c.args.self.end).y in
    ray_above _ _ _ (sym (lt_lt_z p a) ∙ c.in_default.is-0) (sym (lt_lt_z p b) ∙ c.in_default.is-1)

pub returns-in_default-2 : goal.returns-in_default-2
returns-in_default-2 c =
    let p = (accepted_within c.args.other.start).y in
    let a = (accepted_within c.args.self.start).y in
    let b = (accepted_within c.args.self.end).y in
    ray_below _ _ _ (sym (lt_lt_z p a) ∙ c.in_default.is-0) (sym (lt_lt_z p b) ∙ c.in_default.is-1)
