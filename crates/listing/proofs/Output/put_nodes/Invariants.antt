-- The lines of the nodes that the iterator has left are left.
use Rattle.std.proofs.Common.{take}
use Rattle.std.specs.Iterator.Adapters.{take_source, take_count, zip_first, zip_second}
use Rattle.std.specs.Slice.Iter.{iter_rest}
use Rattle.listing.specs.Listing.{node_lines}
use Rattle.listing.proofs.Puts.{PutLeft}
use Rattle.listing.proofs.Output.put_nodes.Given as goal

abbrev pub invariant-loop-x : goal.invariant-loop-x
invariant-loop-x l =
    let n = take_count l.x-iterator in
    let both = take_source l.x-iterator in
    PutLeft (node_lines (take n (iter_rest (zip_first both))) (take n (iter_rest (zip_second both)))) (node_lines (take l.n l.xs) (take l.n l.ys)) l.initial.self l.self
