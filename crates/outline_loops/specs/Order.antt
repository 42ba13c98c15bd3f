-- The lower and the higher of two numbers, neither of which is a NaN. Definitions only.
use Rattle.std.specs.Prelude.{cond, Float}
use Rattle.std.specs.Float.Ieee.{lt}

abbrev pub lower_of : Float → Float → Float
lower_of x y = cond (lt y x) y x

abbrev pub higher_of : Float → Float → Float
higher_of x y = cond (lt x y) y x
