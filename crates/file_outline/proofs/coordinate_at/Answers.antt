-- `file_outline::coordinate_at` meets its contract: what `block` and `float_at` ensure makes it up.
use Rattle.file_outline.specs.ReadLaws.{coordinate_room, coordinate_is}
use Rattle.file_outline.proofs.coordinate_at.Goals as goal

pub float_at-requires : goal.float_at-requires
float_at-requires c = coordinate_room _ _ c.block.ensures c.requires.1

pub returns : goal.returns
returns c = coordinate_is _ _ c.block.ensures c.float_at.ensures
