-- `outline_blocks::first_block` meets its contract: the sum is that of a loop after the first.
use Rattle.outline_blocks.proofs.BlockLaws.{first_later}
use Rattle.outline_blocks.proofs.first_block.Goals as goal

pub returns : goal.returns
returns c = first_later _ _ _ c.if-k-eq0.false
