-- `field_sweeps::MarkedGrid::sweep_row` meets its contract. Assumes nothing.
use mathlib.Core.Path.{refl, ◌∙◌}
use native.Mathlib.Omega.{arith}
use Rattle.laws.specs.Loop.{loop_start_lem, loop_next, loop_end}
use Rattle.field_averages.specs.Places.{node_of}
use Rattle.field_sweeps.specs.Sweeps.{sweep_row}
use Rattle.field_sweeps.proofs.MarkedGrid.sweep_row.Goals as goal

pub loop-i-init : goal.loop-i-init
loop-i-init c = (refl, loop_start_lem _ _ _)

pub node-requires : goal.node-requires
node-requires c = omega (arith, c.requires.nx_in_bounds)

pub sweep_node-still-requires : goal.sweep_node-still-requires
sweep_node-still-requires c = rw c.node.ensures
    (record {
      node = node_of c.loop-i.i c.requires.row
          c.loop-i-test.true c.loop-i.invariant.0;
      id_in_bounds = omega (arith, c.requires.nx_in_bounds);
    })

pub loop-i-preserved : goal.loop-i-preserved
loop-i-preserved c = (
  c.sweep_node-still.auto.values ∙ c.loop-i.invariant.0,
  rw (c.sweep_node-still.ensures, c.node.ensures)
      (loop_next _ _ c.loop-i.invariant.1 c.loop-i-test.true),
)

pub shape_of-values : goal.shape_of-values
shape_of-values c = c.loop-i.invariant.0

pub returns : goal.returns
unfolding sweep_row
returns c = loop_end _ _ c.loop-i.invariant.1 c.loop-i-test.false
