-- `run_places::count_places` meets its contract: no count stops, since both are small. Assumes nothing.
use Rattle.run_places.proofs.Laws.{drawn_size_shape, field_few, made_few, places_counted}
use lib.Dec.{T}
use native.Mathlib.Omega.{arith}
use mathlib.Core.Path.{sym, subst}
use Rattle.run_places.proofs.count_places.Goals as goal

pub bounds_of-requires : goal.bounds_of-requires
bounds_of-requires c = drawn_size_shape _ _ c.requires

pub grid_of-grid-requires : goal.grid_of-grid-requires
grid_of-grid-requires c =
    field_few _ _ (record { outer = λ i h. c.args.domain.doubles.outer i; holes = λ i h. c.args.domain.doubles.holes i }) (subst T (sym c.well_formed.1.0.1) tt) c.requires c.bounds_of.ensures

pub sampled_count-sampled-requires : goal.sampled_count-sampled-requires
sampled_count-sampled-requires c = drawn_size_shape _ _ c.requires

pub overflow_mul-result : goal.overflow_mul-result
overflow_mul-result c =
    let few = made_few _ _ (record { outer = λ i h. c.args.domain.doubles.outer i; holes = λ i h. c.args.domain.doubles.holes i }) (subst T (sym c.well_formed.1.0.1) tt) c.requires c.bounds_of.ensures
    c.grid_of-grid.ensures in
    omega (arith, few)

pub returns : goal.returns
returns c =
    places_counted _ _ (record { outer = λ i h. c.args.domain.doubles.outer i; holes = λ i h. c.args.domain.doubles.holes i }) (subst T (sym c.well_formed.1.0.1) tt) c.requires c.bounds_of.ensures
    c.grid_of-grid.ensures c.sampled_count-sampled.ensures
