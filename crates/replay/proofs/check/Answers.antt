-- `replay::check` meets its contract: the buffer has places for the whole listing.
use native.Mathlib.Omega.{arith}
use Rattle.replay.proofs.Laws.{compared_as}
use Rattle.replay.proofs.check.Goals as goal

pub returns : goal.returns
returns c =
    compared_as c.args.stored.now (c.list_file-n.ensures.whole (omega arith)) c.compare.ensures
