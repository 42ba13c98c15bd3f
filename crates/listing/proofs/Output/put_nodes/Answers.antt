use Rattle.std.proofs.Common.{refl, inl, inr}
use Rattle.std.proofs.Math.Logic.{⊎_elim}
use Rattle.listing.proofs.Puts.{put_left_start, put_left_next, put_left_end}
use Rattle.listing.proofs.Turns.{nodes_turn, nodes_over}
use Rattle.listing.proofs.Output.put_nodes.Goals as goal

pub loop-x-init : goal.loop-x-init
loop-x-init c =
    rw (
      c.into_iter-x-iterator.ensures.into_iter_gives,
      c.take-x-items.ensures.source,
      c.take-x-items.ensures.count,
      c.zip.ensures.first,
      c.zip.ensures.second,
      c.iter.ensures.rest,
      c.iter-2.ensures.rest,
    )
    (put_left_start _ refl)

pub loop-x-preserved : goal.loop-x-preserved
loop-x-preserved c =
    let step = c.in-Some.ensures.steps in
    put_left_next c.loop-x.invariant _ _ (nodes_turn _ _ _ step.0.0 step.0.1 step.1) c.put_node.ensures

pub returns : goal.returns
returns c = put_left_end c.loop-x.invariant (nodes_over _ _ _ (λ some. ⊎_elim (λ e. inl e.1.0) (λ e. inr e.1.0) (c.in-None.ensures.steps some)))
