-- `index_key_rects::node_rect` meets its contract.
use Rattle.index_key_rects.specs.Rects.{node_rect}
use Rattle.index_key_rects.proofs.node_rect.Goals as goal

pub returns : goal.returns
unfolding node_rect
returns c = rw (c.rect_at.ensures, c.key_of.ensures)
