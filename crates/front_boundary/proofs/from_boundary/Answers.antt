-- `front_boundary::from_boundary` meets its contract: the loop's invariant is `Loop` of `boundary_turn`, whatever the snapshot, the quads and the counts.
use Rattle.std.proofs.Common.{refl, ◌∙◌, ap, arith}
use Rattle.std.proofs.lemmas.List.{length_push}
use Rattle.laws.specs.Loop.{loop_start_lem, loop_end}
use Rattle.outline.specs.Outline.{outline_of}
use Rattle.outline_loops.proofs.LoopList.{loop_given, loops_given}
use Rattle.front.specs.declared.Counts.{Counts}
use Rattle.front.specs.Sampling.{from_boundary}
use Rattle.front.specs.State.{cleared}
use Rattle.front_boundary.specs.Laying.{lent_with}
use Rattle.front_boundary.proofs.Progress.{outline_shaped, progress_none, progress_next, turn_laid}
use Rattle.front_boundary.proofs.LoopsLaid.{recounted_room, nothing_counted, between_counts, can_lay}
use Rattle.front_boundary.proofs.Written.{room_trans}
use Rattle.front_boundary.proofs.from_boundary.Goals as goal

pub loops_of-each-items-requires : goal.loops_of-each-items-requires
loops_of-each-items-requires c = outline_shaped _ c.requires.unrefused

pub loop-each-init : goal.loop-each-init
unfolding cleared
loop-each-init c =
    rw (nothing_counted c.default-paving.ensures)
    (progress_none _ _, recounted_room c.args.paving.now _, refl, λ snapshot quads counts none. loop_start_lem _ _ _)

pub lay_loop-requires : goal.lay_loop-requires
lay_loop-requires c =
    let each = loop_given (outline_of c.args.domain) _ _ c.next.new.self _ (cc) c.loop-each.yielded_by c.in-Some.each c.in-Some.is c.next.ensures.steps in
    let inv = c.loop-each.invariant in
    can_lay _ _ inv.0 each.within each.points c.requires inv.1 inv.2

pub loop-each-preserved : goal.loop-each-preserved
loop-each-preserved c =
    let each = loop_given (outline_of c.args.domain) _ _ c.next.new.self _ (cc) c.loop-each.yielded_by c.in-Some.each c.in-Some.is c.next.ensures.steps in
    let inv = c.loop-each.invariant in
    let laid = c.lay_loop.ensures in
    rw (length_push c.loop-each.yielded c.in-Some.each) (
      progress_next _ _ inv.0 each.within each.points refl (ap (λ (k : Counts). k.nodes) laid.counts),
      room_trans inv.1 laid.places,
      between_counts laid.counts,
      λ snapshot quads counts none.
          turn_laid _ _ _ c.requires.unrefused none (inv.3 snapshot quads counts none) each.within each.points
          (rw each.index at (laid.state snapshot quads)),
    )

pub returns-clause-sampled : goal.returns-clause-sampled
unfolding from_boundary
returns-clause-sampled c = λ snapshot quads counts none.
    let all = loops_given (outline_of c.args.domain) _ _ c.next.new.self _ (cc) c.loop-each.yielded_by c.in-None.is c.next.ensures.steps in
    ap (lent_with c.loop-each.paving snapshot quads) c.loop-each.invariant.2
    ∙ loop_end _ _ (c.loop-each.invariant.3 snapshot quads counts none) (omega (arith, all))
