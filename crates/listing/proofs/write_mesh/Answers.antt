use Rattle.std.proofs.Common.{◌∙◌, arith}
use Rattle.listing.specs.Listing.{mesh_listing}
use Rattle.listing.proofs.Puts.{put_then, put_written}
use Rattle.listing.proofs.write_mesh.Goals as goal

pub returns : goal.returns
unfolding mesh_listing
returns c =
    let all = put_then (put_then (put_then c.put_heading.ensures c.put_nodes.ensures) c.put_quads.ensures) c.put_loops.ensures in
    let written = put_written c.new-output.ensures all in
    let name = all.same_reference ∙ c.new-output.ensures.same_reference in
    grind arith
