-- `field_cross::Seeding::seed_all` meets its contract. Assumes nothing.
use mathlib.Core.Path.{refl, ◌∙◌}
use native.Mathlib.Omega.{arith}
use Rattle.laws.specs.Loop.{loop_start_lem, loop_next, loop_end}
use Rattle.field_direction.specs.Cells.{row_in}
use Rattle.field_averages.specs.Places.{row_of, row_marks}
use Rattle.field_cross.specs.Seeds.{seeded}
use Rattle.field_cross.proofs.Seeding.seed_all.Goals as goal

pub loop-j-init : goal.loop-j-init
loop-j-init c = (refl, refl, loop_start_lem _ _ _)

pub overflow_mul-j : goal.overflow_mul-j
overflow_mul-j c = omega (arith, c.requires.field_room.marks, row_in c.loop-j.j c.args.self.now.grid.ny c.args.self.now.grid.nx c.loop-j-test.true)

pub seed_row-requires : goal.seed_row-requires
seed_row-requires c =
    let asked = c.requires in
    let turn = c.loop-j in
    let less = c.loop-j-test.true in record {
      row = row_of turn.j refl less asked.field_room.values turn.invariant.0;
      row_marks = row_marks turn.j asked.field_room asked.nx_le_most_field_nodes.0 asked.nx_le_most_field_nodes.1 refl less turn.invariant.1;
    }

pub loop-j-preserved : goal.loop-j-preserved
loop-j-preserved c =
    let call = c.seed_row in
    let turn = c.loop-j in (
      call.auto.values ∙ turn.invariant.0,
      call.auto.marks ∙ turn.invariant.1,
      rw call.ensures (loop_next _ _ turn.invariant.2 c.loop-j-test.true),
    )

pub shape_of-values : goal.shape_of-values
shape_of-values c = c.loop-j.invariant.0

pub shape_of-marks : goal.shape_of-marks
shape_of-marks c = c.loop-j.invariant.1

pub returns : goal.returns
unfolding seeded
returns c = loop_end _ _ c.loop-j.invariant.2 c.loop-j-test.false
