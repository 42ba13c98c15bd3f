-- `file_writing::write_blocks` meets its contract: the iterator has the points from block k on left, and the blocks before are written, as in `Blocks`.
use Rattle.std.proofs.Common.{refl, ◌∙◌, arith, ap, ◌*◌, length, length-drop}
use Rattle.std.specs.Iterator.Adapters.{enumerate_count}
use Rattle.file_writing.proofs.WriteLaws.{file_blocks_start, file_blocks_end}
use Rattle.file_writing.proofs.Bytes.{chunk_put, chunk_rest}
use Rattle.file_writing.proofs.write_blocks.Goals as goal

pub loop-k-init : goal.loop-k-init
loop-k-init c =
    rw (c.into_iter-k-iterator.ensures.into_iter_gives, c.enumerate-k-items.ensures.source, c.enumerate-k-items.ensures.count, c.chunks.ensures.size, c.chunks.ensures.rest)
    (refl, refl, file_blocks_start _ _ _)

pub loop-k-preserved : goal.loop-k-preserved
loop-k-preserved c =
    let step = c.in-Some.ensures.steps in
    let kept = c.loop-k.invariant in
    let points = c.args.points.now in
    let k = enumerate_count c.loop-k.k-iterator in
    rw (step.1, step.2) (
      step.0.0 ∙ kept.0,
      chunk_rest points k _ _ kept.1 kept.0 step.0.1.0 step.0.1.1,
      chunk_put points k _ _ kept.1 kept.0 step.0.1.0 step.0.1.1 kept.2 refl c.requires.1 c.requires.2 step.0.1.2 (c.copy_from_slice.ensures.after ∙ c.points_block.ensures),
    )

pub returns : goal.returns
returns c =
    let kept = c.loop-k.invariant in
    let over = c.in-None.ensures.steps.0.1.0 in
    file_blocks_end _ kept.2 refl (omega (arith, over, ap length kept.1, length-drop (62 * enumerate_count c.loop-k.k-iterator) c.args.points.now))
