-- The worked outlines.
use Rattle.std.specs.Prelude.{[], ◌∷◌}
use Rattle.numbers.specs.Float.{zero_f, one_f, two_f}
use Rattle.outline.specs.Outline.{Outline, outline}

-- (0,0) (2,0) (2,2) (0,2), at size 1
abbrev pub worked_square : Outline
worked_square = outline (zero_f ∷ zero_f ∷ two_f ∷ zero_f ∷ two_f ∷ two_f ∷ zero_f ∷ two_f ∷ []) [] []

-- (0,0) (2,0) (1,2), at size 3: a loop of an odd number of points
abbrev pub worked_triangle : Outline
worked_triangle = outline (zero_f ∷ zero_f ∷ two_f ∷ zero_f ∷ one_f ∷ two_f ∷ []) [] []
