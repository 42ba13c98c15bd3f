use Rattle.std.proofs.Common.{ap, sym}
use Rattle.listing.specs.Listing.{hex_bits, hex_of, node_line}
use Rattle.listing.proofs.Puts.{put_then, put_as}
use Rattle.listing.proofs.Output.put_node.Goals as goal

pub returns : goal.returns
unfolding node_line hex_bits
returns c =
    let x = put_as (ap (hex_of 16) (sym c.f64_to_bits_with_nan.ensures)) c.put_hex.ensures in
    let y = put_as (ap (hex_of 16) (sym c.f64_to_bits_with_nan-2.ensures)) c.put_hex-2.ensures in
    put_then (put_then (put_then (put_then c.put_all.ensures x) c.put.ensures) y) c.put-2.ensures
