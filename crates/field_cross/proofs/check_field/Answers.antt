-- `field_cross::check_field` meets its contract. Assumes nothing.
use mathlib.Core.Path.{sym, subst}
use lib.Dec.{T}
use Rattle.outline.proofs.Accepted.{accepted}
use Rattle.field_cross.proofs.FieldLaws.{few}
use Rattle.field_cross.proofs.check_field.Goals as goal

pub bounds_of-b-requires : goal.bounds_of-b-requires
bounds_of-b-requires c = (accepted _ (sym c.in_ok-check_outline.ensures)).shape

pub grid_of-requires : goal.grid_of-requires
grid_of-requires c = few _ _ _ (record { outer = λ i h. c.args.domain.doubles.outer i; holes = λ i h. c.args.domain.doubles.holes i })
    (subst T (sym c.well_formed.1.0.1) tt) (sym c.in_ok-check_outline.ensures) (sym c.in_ok-check_size.ensures) c.bounds_of-b.ensures (sym c.in_ok-check_bounds.ensures)

pub check_places-requires : goal.check_places-requires
check_places-requires c = rw c.grid_of.ensures
    (few _ _ _ (record { outer = λ i h. c.args.domain.doubles.outer i; holes = λ i h. c.args.domain.doubles.holes i })
    (subst T (sym c.well_formed.1.0.1) tt) (sym c.in_ok-check_outline.ensures) (sym c.in_ok-check_size.ensures) c.bounds_of-b.ensures (sym c.in_ok-check_bounds.ensures))
