-- `file_outline::read_lengths` meets its contract: the loop's invariant is `Filling`.
use Rattle.laws.specs.Overlay.{fill_start}
use Rattle.file_outline.proofs.Bytes.{part_next, part_end}
use Rattle.file_outline.proofs.read_lengths.Goals as goal

pub loop-k-init : goal.loop-k-init
loop-k-init c = fill_start _ _ _

pub loop-k-preserved : goal.loop-k-preserved
loop-k-preserved c = part_next _ _ c.requires.1 c.loop-k.invariant c.loop-k-test.true c.head_length.ensures

pub returns : goal.returns
returns c = part_end _ _ c.requires.1 c.loop-k.invariant c.loop-k-test.false
