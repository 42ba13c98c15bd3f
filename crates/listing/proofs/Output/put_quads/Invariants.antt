-- The lines of the quads that the iterator has left are left.
use Rattle.std.proofs.Common.{◌≡◌}
use Rattle.std.specs.Iterator.Adapters.{take_source, take_count}
use Rattle.std.specs.Slice.Iter.{chunks_exact_size, chunks_exact_rest}
use Rattle.listing.specs.Listing.{quad_lines}
use Rattle.listing.proofs.Puts.{PutLeft}
use Rattle.listing.proofs.Turns.{quads_left}
use Rattle.listing.proofs.Output.put_quads.Given as goal

abbrev pub invariant-loop-quad : goal.invariant-loop-quad
invariant-loop-quad l = record {
  four : chunks_exact_size (take_source l.quad-iterator) ≡ 4;
  left : PutLeft (quads_left (take_count l.quad-iterator) (chunks_exact_rest (take_source l.quad-iterator))) (quad_lines l.n l.quads) l.initial.self l.self;
}
