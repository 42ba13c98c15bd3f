-- `field_direction::CrossField::raw_at` meets its contract. Assumes nothing.
use mathlib.Core.Path.{refl}
use Rattle.numbers.specs.Whole.{floor_quotient}
use Rattle.field_direction.specs.Direction.{raw_at}
use Rattle.field_direction.proofs.CrossField.raw_at.Goals as goal

pub returns : goal.returns
unfolding raw_at floor_quotient
returns c = rw (
  ← c.cell_of-i.ensures.value,
  ← c.cell_of-j.ensures.value,
  ← c.to_f64.ensures,
  ← c.clamp_f64-tx.ensures,
  ← c.to_f64-2.ensures,
  ← c.clamp_f64-ty.ensures,
  ← c.point_at-p00.ensures,
  ← c.point_at-p10.ensures,
  ← c.point_at-p01.ensures,
  ← c.point_at-p11.ensures,
  ← c.weighed.ensures,
  ← c.weighed-2.ensures,
) refl
