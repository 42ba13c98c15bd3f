-- `outline_nearest::search_outline` meets its contract: the search over all loops from the start finds what the plain one finds (`whole_taken`).
use Rattle.outline_nearest.proofs.GuessLaws.{whole_taken}
use Rattle.outline_nearest.proofs.search_outline.Goals as goal

pub search_all-requires : goal.search_all-requires
search_all-requires c = c.requires

pub returns : goal.returns
returns c = whole_taken _ _ c.search_start.ensures c.search_all.ensures
