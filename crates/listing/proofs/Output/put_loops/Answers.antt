use Rattle.std.proofs.Common.{refl}
use Rattle.listing.specs.Listing.{loop_lines}
use Rattle.listing.proofs.Puts.{put_left_start, put_left_next, put_left_end}
use Rattle.listing.proofs.Turns.{loops_turn, loops_over}
use Rattle.listing.proofs.Output.put_loops.Goals as goal

pub loop-length-init : goal.loop-length-init
unfolding loop_lines
loop-length-init c =
    rw (
      c.into_iter-length-iterator.ensures.into_iter_gives,
      c.take-length-items.ensures.source,
      c.take-length-items.ensures.count,
      c.iter.ensures.rest,
    )
    (put_left_start _ refl)

pub loop-length-preserved : goal.loop-length-preserved
loop-length-preserved c =
    let step = c.in-Some.ensures.steps in
    rw (c.split_at.ensures.back, c.min.ensures)
    (put_left_next c.loop-length.invariant _ _ (loops_turn _ _ _ step.0 step.1) (rw (c.split_at.ensures.front, c.min.ensures) at c.put_row.ensures))

pub returns : goal.returns
returns c = put_left_end c.loop-length.invariant (loops_over _ _ _ c.in-None.ensures.steps)
