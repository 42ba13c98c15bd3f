use Rattle.std.proofs.Common.{◌∙◌, arith}
use Rattle.listing.specs.Listing.{spaced, refused_listing}
use Rattle.listing.proofs.Puts.{put_then, put_nothing, put_written}
use Rattle.listing.proofs.write_refused.Goals as goal

pub returns : goal.returns
unfolding refused_listing spaced
returns c =
    let all = put_then (put_then c.put_all.ensures (put_then c.put_spaced.ensures (put_nothing _))) c.put.ensures in
    let written = put_written c.new-output.ensures all in
    let name = all.same_reference ∙ c.new-output.ensures.same_reference in
    grind arith
