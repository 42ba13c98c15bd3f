use Rattle.listing.specs.Listing.{row}
use Rattle.listing.proofs.Puts.{put_then}
use Rattle.listing.proofs.Output.put_row.Goals as goal

pub returns : goal.returns
unfolding row
returns c = put_then (put_then c.put.ensures c.put_all_spaced.ensures) c.put-2.ensures
