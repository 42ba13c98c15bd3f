-- `file_outline::read_points` meets its contract: the loop's invariant is `Filling`.
use Rattle.laws.specs.Overlay.{fill_start}
use Rattle.file_outline.proofs.Bytes.{part_next, part_end}
use Rattle.file_outline.proofs.read_points.Goals as goal

pub loop-c-init : goal.loop-c-init
loop-c-init c = fill_start _ _ _

pub loop-c-preserved : goal.loop-c-preserved
loop-c-preserved c = part_next _ _ c.requires.2 c.loop-c.invariant c.loop-c-test.true c.coordinate_at.ensures

pub returns : goal.returns
returns c = part_end _ _ c.requires.2 c.loop-c.invariant c.loop-c-test.false
