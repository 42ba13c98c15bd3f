-- `field_cross::Seeding::seed_all` meets its contract. Assumes nothing.
use mathlib.Core.Path.{◌≡◌}
use lib.ListN.{length}
use Rattle.laws.specs.Loop.{Loop}
use Rattle.outline.specs.Outline.{outline_of}
use Rattle.field_direction.specs.Record.{field_lists}
use Rattle.field_cross.specs.Seeds.{seed_row}
use Rattle.field_cross.proofs.Seeding.seed_all.Given as goal

abbrev pub invariant-loop-j : goal.invariant-loop-j
invariant-loop-j l =
    (length l.values ≡ length l.initial.values) × (length l.marks ≡ length l.initial.marks) × Loop (seed_row (outline_of l.self.outline.domain) l.self.grid)
    (field_lists l.initial.values l.initial.marks) l.self.grid.ny l.j (field_lists l.values l.marks)
