-- `front_boundary::sample_loop` meets its contract: after i turns the nodes of `sample_turn` are written.
use Rattle.std.specs.Prelude.{◌≡◌, ◌+◌, ◌/◌, length}
use Rattle.std.proofs.Common.{◌∙◌, ap, le_antisymm, sym, add-one}
use Rattle.laws.specs.Loop.{sum_up}
use Rattle.laws.proofs.Sums.{sum_zero, sum_suc}
use Rattle.front.specs.declared.Counts.{Counts}
use Rattle.front.specs.Sampling.{parts, loop_parts, sample_loop, sample_turn}
use Rattle.front_boundary.proofs.LayingLaws.{parts_are, sampling_none, sampling_next, sampling_fits}
use Rattle.front_boundary.proofs.Written.{room_left, nodes_start, nodes_turn}
use Rattle.front_boundary.proofs.sample_loop.Goals as goal

pub loop-i-init : goal.loop-i-init
loop-i-init c = (sampling_none _ _ _, rw (sum_zero (parts c.args.size c.args.s.now)) (nodes_start _ _))

pub sample_segment-requires : goal.sample_segment-requires
sample_segment-requires c =
    let inv = c.loop-i.invariant in
    let are = parts_are _ _ _ c.parts_of-parts.ensures c.distance.ensures c.point_at-a.ensures c.point_after-b.ensures in
    room_left _ c.requires (sampling_fits _ _ inv.0 c.loop-i-test.true are) inv.1.more.places

pub loop-i-preserved : goal.loop-i-preserved
loop-i-preserved c =
    let inv = c.loop-i.invariant in
    let f = parts c.args.size c.args.s.now in
    let are = parts_are _ _ _ c.parts_of-parts.ensures c.distance.ensures c.point_at-a.ensures c.point_after-b.ensures in
    let segment = rw (c.point_at-a.ensures, c.point_after-b.ensures, are) at c.sample_segment.ensures in
    let sum : sum_up c.loop-i.i f + f c.loop-i.i ≡ sum_up (c.loop-i.i + 1) f = sym (ap (λ n. sum_up n f) (add-one _) ∙ sum_suc f _) in (
      rw (ap (λ (k : Counts). k.nodes) c.sample_segment.ensures.more.counts) (sampling_next _ _ inv.0 c.loop-i-test.true are),
      rw (← sum) (nodes_turn (sample_turn _ _) inv.1 segment),
    )

pub returns : goal.returns
unfolding sample_loop loop_parts
returns c =
    let all : c.loop-i.i ≡ length c.args.s.now / 2 = le_antisymm c.loop-i.invariant.0.within c.loop-i-test.false in
    rw all at c.loop-i.invariant.1
