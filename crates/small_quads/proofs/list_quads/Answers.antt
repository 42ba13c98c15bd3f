-- `small_quads::list_quads` meets its contract: the invariant is `FoursWritten`: the fours below k on the first places. Assumes nothing.
use Rattle.small_quads.proofs.ListLaws.{fours_start, fours_room, fours_next, fours_end}
use Rattle.small_quads.proofs.list_quads.Goals as goal

pub loop-k-init : goal.loop-k-init
loop-k-init c = fours_start _ c.requires

pub list_four-n-requires : goal.list_four-n-requires
list_four-n-requires c = fours_room _ c.requires c.loop-k.invariant c.loop-k-test.true

pub loop-k-preserved : goal.loop-k-preserved
loop-k-preserved c = fours_next _ c.requires c.loop-k.invariant c.loop-k-test.true c.list_four-n.ensures.0 c.list_four-n.ensures.1

pub returns : goal.returns
returns c = fours_end _ c.requires c.loop-k.invariant c.loop-k-test.false
