-- `file_writing::put_lengths` meets its contract: the loop's invariant is `Pieces`.
use Rattle.std.proofs.Common.{refl}
use Rattle.file_writing.proofs.WriteLaws.{pieces_next, pieces_end}
use Rattle.file_writing.proofs.RoundTrip.{bytes_length}
use Rattle.file_outline.specs.File.{number_bytes, length_bytes}
use Rattle.file_writing.proofs.put_lengths.Goals as goal

pub loop-k-preserved : goal.loop-k-preserved
loop-k-preserved c = pieces_next 2 (number_bytes 2) (bytes_length 2) _ _ _ c.loop-k.invariant 0 c.loop-k-test.true refl c.put_number.ensures

pub returns : goal.returns
unfolding length_bytes
returns c = pieces_end 2 (number_bytes 2) (bytes_length 2) _ _ _ c.loop-k.invariant c.loop-k-test.false
