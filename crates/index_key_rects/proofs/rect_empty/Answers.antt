-- `index_key_rects::rect_empty` meets its contract.
use borrow.Author.Rules.{rules}
use Rattle.index_key_rects.specs.Rects.{rect_empty}
use Rattle.index_key_rects.proofs.rect_empty.Goals as goal

pub returns : goal.returns
unfolding rect_empty
returns c = search rules
