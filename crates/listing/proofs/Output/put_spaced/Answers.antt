use Rattle.std.proofs.Common.{sym, ◌∙◌}
use Rattle.listing.proofs.Digits.{decimal_is}
use Rattle.listing.proofs.Puts.{put_then, put_as}
use Rattle.listing.proofs.Output.put_spaced.Goals as goal

pub returns : goal.returns
returns c = put_then c.put.ensures (put_as (decimal_is _ c.ranges.v.fits ∙ sym c.format.ensures.text ∙ sym c.as_bytes.ensures.value) c.put_all.ensures)
