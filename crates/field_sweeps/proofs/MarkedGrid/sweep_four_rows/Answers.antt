-- `field_sweeps::MarkedGrid::sweep_four_rows` meets its contract. Assumes nothing.
use Rattle.std.proofs.Common.{refl, ◌∙◌}
use Rattle.laws.specs.Loop.{loop_start_lem, loop_next, loop_end}
use Rattle.field_sweeps.proofs.Wave.{four_rows_swept}
use Rattle.field_sweeps.proofs.MarkedGrid.sweep_four_rows.Goals as goal

pub loop-i-init : goal.loop-i-init
loop-i-init c = (refl, loop_start_lem _ _ _)

pub loop-i-preserved : goal.loop-i-preserved
loop-i-preserved c = (
  c.sweep_node-still-in-loop-i-3.auto.values ∙ c.sweep_node-still-in-loop-i-2.auto.values ∙ c.sweep_node-still-in-loop-i.auto.values
      ∙ c.sweep_node-still.auto.values ∙ c.loop-i.invariant.0,
  rw (
    c.sweep_node-still-in-loop-i-3.ensures,
    c.sweep_node-still-in-loop-i-2.ensures,
    c.sweep_node-still-in-loop-i.ensures,
    c.sweep_node-still.ensures,
    c.node-in-loop-i-3.ensures,
    c.node-in-loop-i-2.ensures,
    c.node-in-loop-i.ensures,
    c.node.ensures,
    c.above.ensures,
    c.above-2.ensures,
    c.above-3.ensures,
  ) (loop_next _ _ c.loop-i.invariant.1 c.loop-i-test.true),
)

pub returns : goal.returns
returns c =
    let turns = loop_end _ _ c.loop-i.invariant.1 c.loop-i-test.false in
    rw (
      c.sweep_part.ensures,
      c.sweep_part-still-5.ensures,
      c.sweep_part-still-4.ensures,
      turns,
      c.sweep_part-still-3.ensures,
      c.sweep_part-still-2.ensures,
      c.sweep_part-still.ensures,
      c.above.ensures,
      c.above-2.ensures,
      c.above-3.ensures,
    ) (four_rows_swept _ _ _ _ c.requires.columns)
