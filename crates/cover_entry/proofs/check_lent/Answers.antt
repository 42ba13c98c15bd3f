-- `cover_entry::check_lent` meets its contract: an outline that can be drawn is in shape.
use Rattle.std.proofs.Common.{sym}
use Rattle.cover_entry.proofs.Steps.{drawn_shape}
use Rattle.cover_entry.proofs.check_lent.Goals as goal

pub check_front_places-requires : goal.check_front_places-requires
check_front_places-requires c = drawn_shape _ c.args.size (sym c.in_ok-check_drawn.ensures)
