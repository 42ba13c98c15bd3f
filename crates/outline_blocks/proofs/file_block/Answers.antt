-- `outline_blocks::file_block` meets its contract: the four numbers are put one after the other.
use native.Mathlib.Omega.{arith}
use lib.ListN.{length-set}
use Rattle.outline_blocks.proofs.FilingLaws.{block_files}
use Rattle.outline_blocks.proofs.file_block.Goals as goal

pub bounds-blocks-at-2 : goal.bounds-blocks-at-2
bounds-blocks-at-2 c = simp length-set (omega arith)

pub bounds-blocks-at-3 : goal.bounds-blocks-at-3
bounds-blocks-at-3 c = simp length-set (omega arith)

pub returns : goal.returns
returns c =
    let end = c.block_end-to.ensures in
    block_files _ (omega arith) (rw end at c.farthest-xmin.ensures) (rw end at c.farthest-xmax.ensures)
    (rw end at c.farthest-ymin.ensures) (rw end at c.farthest-ymax.ensures)
