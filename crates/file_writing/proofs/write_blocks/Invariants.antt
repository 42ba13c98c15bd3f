-- `file_writing::write_blocks` meets its contract: the iterator has the points from block k on left, and the blocks before are written, as in `Blocks`.
use Rattle.std.proofs.Common.{◌≡◌, ◌*◌, ◌/◌, length, drop}
use Rattle.std.specs.Iterator.Adapters.{enumerate_source, enumerate_count}
use Rattle.std.specs.Slice.Iter.{chunks_size, chunks_rest}
use Rattle.file_writing.proofs.WriteLaws.{Blocks}
use Rattle.file_outline.specs.File.{point_blocks}
use Rattle.file_writing.proofs.write_blocks.Given as goal

abbrev pub invariant-loop-k : goal.invariant-loop-k
invariant-loop-k l =
    let k = enumerate_count l.k-iterator in
    let chunks = enumerate_source l.k-iterator in
    (chunks_size chunks ≡ 62) × (chunks_rest chunks ≡ drop (62 * k) l.points) × Blocks l.points l.initial.file (point_blocks (length l.points / 2)) k l.file
