-- `field_cross::Seeding::seed_row` meets its contract. Assumes nothing.
use mathlib.Core.Path.{refl, ◌∙◌}
use native.Mathlib.Omega.{arith}
use Rattle.laws.specs.Loop.{loop_start_lem, loop_next, loop_end}
use Rattle.field_averages.specs.Places.{node_of, mark_of}
use Rattle.field_cross.specs.Seeds.{seed_row}
use Rattle.field_cross.proofs.FieldLaws.{two_points}
use Rattle.field_cross.proofs.Seeding.seed_row.Goals as goal

pub point_at-requires : goal.point_at-requires
point_at-requires c = omega (arith, two_points c.args.self.now.outline.drawn)

pub point_at-requires-2 : goal.point_at-requires-2
point_at-requires-2 c = omega (arith, two_points c.args.self.now.outline.drawn)

pub loop-i-init : goal.loop-i-init
loop-i-init c = (refl, refl, loop_start_lem _ _ _)

pub node-requires : goal.node-requires
node-requires c = omega (
  arith,
  c.requires.row_marks.marks,
  c.loop-i.invariant.1,
)

pub seed_node-near-requires : goal.seed_node-near-requires
seed_node-near-requires c =
    let turn = c.loop-i in
    let less = c.loop-i-test.true in
    rw c.node.ensures
    (record {
      node = node_of turn.i c.requires.row less turn.invariant.0;
      node_mark = mark_of turn.i c.requires.row_marks less turn.invariant.1;
    })

pub loop-i-preserved : goal.loop-i-preserved
loop-i-preserved c =
    let call = c.seed_node-near in
    let turn = c.loop-i in (
      call.auto.values ∙ turn.invariant.0,
      call.auto.marks ∙ turn.invariant.1,
      rw (call.ensures.marks_after, c.node.ensures) (loop_next _ _ turn.invariant.2 c.loop-i-test.true),
    )

pub shape_of-values : goal.shape_of-values
shape_of-values c = c.loop-i.invariant.0

pub shape_of-marks : goal.shape_of-marks
shape_of-marks c = c.loop-i.invariant.1

pub returns : goal.returns
unfolding seed_row
returns c = loop_end _ _ c.loop-i.invariant.2 c.loop-i-test.false
