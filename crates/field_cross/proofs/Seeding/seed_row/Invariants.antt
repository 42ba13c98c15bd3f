-- `field_cross::Seeding::seed_row` meets its contract. Assumes nothing.
use mathlib.Core.Path.{◌≡◌}
use lib.ListN.{length}
use Rattle.laws.specs.Loop.{Loop}
use Rattle.outline.specs.Outline.{outline_of}
use Rattle.field_direction.specs.Record.{field_lists}
use Rattle.field_cross.specs.Seeds.{seed_node}
use Rattle.field_cross.proofs.Seeding.seed_row.Given as goal

abbrev pub invariant-loop-i : goal.invariant-loop-i
invariant-loop-i l =
    (length l.values ≡ length l.initial.values) × (length l.marks ≡ length l.initial.marks) × Loop (seed_node (outline_of l.self.outline.domain) l.self.grid l.row.j)
    (field_lists l.initial.values l.initial.marks) l.self.grid.nx l.i (field_lists l.values l.marks)
