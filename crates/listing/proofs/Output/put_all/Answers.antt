use Rattle.std.proofs.Common.{drop_of_length-le}
use Rattle.listing.proofs.Left.{bytes_next}
use Rattle.listing.proofs.Puts.{put_left_next, put_left_end}
use Rattle.listing.proofs.Output.put_all.Goals as goal

pub loop-byte-preserved : goal.loop-byte-preserved
loop-byte-preserved c = put_left_next c.loop-byte.invariant _ _ (bytes_next _ _ c.loop-byte-test.true) c.put.ensures

pub returns : goal.returns
returns c = put_left_end c.loop-byte.invariant (drop_of_length-le _ c.loop-byte-test.false)
