use Rattle.std.proofs.Common.{◌≡◌, refl, sym}
use Rattle.listing.specs.Listing.{spaced, whole_word, head_line}
use Rattle.listing.proofs.Puts.{put_then, put_as, put_nothing}
use Rattle.listing.proofs.Output.put_heading.Goals as goal
use Rattle.listing.proofs.Output.put_heading.Goals.{then-h, else-h}

pub returns : goal.returns
unfolding head_line spaced whole_word
returns c =
    let counts = put_then c.put_spaced.ensures (put_then c.put_spaced-2.ensures (put_then c.put_spaced-3.ensures (put_nothing _))) in
    let end = put_as (sym c.end_word.ensures) c.put_all-2.ensures in
    let whole : whole_word c.args.h.whole ≡ c.if-h.put_all.now = elim c.if-h.branch [
      | then-h w ↦ rw (w.put_all-is, w.if-h.true) refl
      | else-h w ↦ rw (w.put_all-is, w.if-h.false) refl
    ] in
    put_then (put_then (put_then (put_then c.put_all.ensures counts) end) (put_as whole c.put_all-3.ensures)) c.put.ensures
