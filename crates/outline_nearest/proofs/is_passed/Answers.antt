-- `is_passed` meets its contract: a block that is listed is there, and its box is asked.
use Rattle.std.proofs.Common.{sym, ◌∙◌, ltb-true}
use Rattle.outline_nearest.proofs.is_passed.Goals as goal

pub block_extent-requires : goal.block_extent-requires
block_extent-requires c = c.requires.1 (ltb-true _ _ (sym c.is_listed.ensures ∙ c.if-is_listed.true))
