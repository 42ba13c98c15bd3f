use Rattle.listing.proofs.Left.{spaced_next, spaced_end}
use Rattle.listing.proofs.Puts.{put_left_next, put_left_end}
use Rattle.listing.proofs.Output.put_all_spaced.Goals as goal

pub loop-id-preserved : goal.loop-id-preserved
loop-id-preserved c = put_left_next c.loop-id.invariant _ _ (spaced_next _ _ c.loop-id-test.true) c.put_spaced.ensures

pub returns : goal.returns
returns c = put_left_end c.loop-id.invariant (spaced_end _ _ c.loop-id-test.false)
