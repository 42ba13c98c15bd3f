-- `field_sweeps::MarkedGrid::sweep_part` meets its contract. Assumes nothing.
use Rattle.std.proofs.Common.{refl, ◌∙◌}
use Rattle.laws.specs.Loop.{loop_start_lem, loop_next, loop_end}
use Rattle.field_sweeps.specs.Sweeps.{sweep_part}
use Rattle.field_sweeps.proofs.MarkedGrid.sweep_part.Goals as goal

pub loop-i-init : goal.loop-i-init
loop-i-init c = (refl, loop_start_lem _ _ _)

pub loop-i-preserved : goal.loop-i-preserved
loop-i-preserved c = (
  c.sweep_node-still.auto.values ∙ c.loop-i.invariant.0,
  rw (c.sweep_node-still.ensures, c.node.ensures) (loop_next _ _ c.loop-i.invariant.1 c.loop-i-test.true),
)

pub returns : goal.returns
unfolding sweep_part
returns c = loop_end _ _ c.loop-i.invariant.1 c.loop-i-test.false
