-- `file_outline::block` meets its contract.
use Rattle.file_outline.proofs.Bytes.{block_cut}
use Rattle.file_outline.proofs.block.Goals as goal

pub returns : goal.returns
returns c = block_cut _ _ c.min-from.ensures c.min-to.ensures
