-- `field_cross::make_field` meets its contract. Assumes nothing.
use mathlib.Core.Path.{sym, subst}
use lib.Dec.{T}
use Rattle.outline.proofs.Accepted.{accepted}
use Rattle.field_averages.specs.Places.{room_of}
use Rattle.field_cross.proofs.FieldLaws.{field_unrefused, few_made, room_made, seeds_ask}
use Rattle.field_cross.specs.Field.{field_refusal, field_of}
use Rattle.field_cross.proofs.make_field.Goals as goal

pub bounds_of-requires : goal.bounds_of-requires
unfolding field_refusal
bounds_of-requires c = (accepted _ (field_unrefused _ _ _ _ c.requires).outline).shape

pub grid_of-grid-requires : goal.grid_of-grid-requires
unfolding field_refusal
grid_of-grid-requires c =
    few_made _ _ _ _ (record { outer = λ i h. c.args.domain.doubles.outer i; holes = λ i h. c.args.domain.doubles.holes i })
    (subst T (sym c.well_formed.1.0.1) tt) c.requires c.bounds_of.ensures

pub file-requires : goal.file-requires
unfolding field_refusal
file-requires c = (field_unrefused _ _ _ _ c.requires).outline

pub seed_all-requires : goal.seed_all-requires
unfolding field_refusal
seed_all-requires c =
    let asked = seeds_ask _ _ _ _ _ (record { outer = λ i h. c.args.domain.doubles.outer i; holes = λ i h. c.args.domain.doubles.holes i })
    (subst T (sym c.well_formed.1.0.1) tt) c.requires
    c.bounds_of.ensures c.grid_of-grid.ensures in
    record {
      field_room = asked.0;
      nx_le_most_field_nodes = asked.1;
    }

pub sweeps-requires : goal.sweeps-requires
unfolding field_refusal
sweeps-requires c =
    let seeds = c.seed_all in
    room_of (room_made _ _ _ _ _ c.requires c.bounds_of.ensures c.grid_of-grid.ensures)
    seeds.auto.values seeds.auto.marks

pub returns : goal.returns
unfolding field_of
returns c = (
  rw (← c.bounds_of.ensures, ← c.grid_of-grid.ensures, ← c.seed_all.ensures, ← c.sweeps.ensures),
  c.file.ensures,
)
