use Rattle.std.proofs.Common.{refl, ◌∙◌}
use Rattle.listing.specs.Listing.{quad_lines}
use Rattle.listing.proofs.Puts.{put_left_start, put_left_next, put_left_end}
use Rattle.listing.proofs.Turns.{quads_turn, quads_over}
use Rattle.listing.proofs.Output.put_quads.Goals as goal

pub loop-quad-init : goal.loop-quad-init
unfolding quad_lines
loop-quad-init c =
    rw (
      c.into_iter-quad-iterator.ensures.into_iter_gives,
      c.take-quad-items.ensures.source,
      c.take-quad-items.ensures.count,
      c.chunks_exact.ensures.size,
      c.chunks_exact.ensures.rest,
    )
    (record { four = refl; left = put_left_start _ refl })

pub loop-quad-preserved : goal.loop-quad-preserved
loop-quad-preserved c =
    let step = c.in-Some.ensures.steps in
    let kept = c.loop-quad.invariant in
    record {
      four = step.0.0 ∙ kept.four;
      left = put_left_next kept.left _ _ (quads_turn _ _ _ step.0.1.0 (step.0.1.1 ∙ kept.four) step.1) c.put_row.ensures;
    }

pub returns : goal.returns
returns c =
    let kept = c.loop-quad.invariant in
    put_left_end kept.left (quads_over _ _ (λ h. rw kept.four at (c.in-None.ensures.steps h).1.0))
