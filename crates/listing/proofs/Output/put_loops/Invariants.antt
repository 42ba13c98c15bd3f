-- The lines of the loops whose lengths the iterator has left are left.
use Rattle.std.proofs.Common.{take}
use Prim.Native.Char.{code}
use Rattle.std.specs.Iterator.Adapters.{take_source, take_count}
use Rattle.std.specs.Slice.Iter.{iter_rest}
use Rattle.listing.specs.Listing.{row_lines, loop_lines}
use Rattle.listing.proofs.Puts.{PutLeft}
use Rattle.listing.proofs.Output.put_loops.Given as goal

abbrev pub invariant-loop-length : goal.invariant-loop-length
invariant-loop-length l =
    PutLeft (row_lines (code "l") (take (take_count l.length-iterator) (iter_rest (take_source l.length-iterator))) l.rest) (loop_lines (take l.n l.lengths) l.loops)
    l.initial.self l.self
