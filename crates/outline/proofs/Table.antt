-- The lines of SCOPE's table of edges that this layer decides, computed from the definitions.
use Rattle.std.specs.Prelude.{◌≡◌, refl, true, false, [], ◌∷◌}
use Rattle.std.specs.Float.Ieee.{of_bits, lt, add, sub, mul, div}
use Rattle.laws.specs.Loop.{for_up, any_up}
use Rattle.numbers.specs.Float.{zero_f, one_f}
use Rattle.outline.specs.Outline.{Outline, outline, point, point_at, point_after}
use Rattle.outline.specs.Queries.{ray_crosses, point_in_polygon, contains}

-- (0,0) (1,0) (1,1) (0,1)
abbrev pub unit_square : Outline
unit_square = outline (zero_f ∷ zero_f ∷ one_f ∷ zero_f ∷ one_f ∷ one_f ∷ zero_f ∷ one_f ∷ []) [] []

pub record Table : Type 0 where
  -- unit square: (0,0) inside
  pub lower_corner : contains unit_square (point zero_f zero_f) ≡ true
  -- unit square: (1,1) outside
  pub upper_corner : contains unit_square (point one_f one_f) ≡ false

pub domain_table : Table
unfolding contains point_in_polygon ray_crosses point_at point_after for_up any_up of_bits lt add sub mul div
domain_table = record { lower_corner = refl; upper_corner = refl }
