-- The definition at work: seen from 0 towards (1, 1), what the smallest double above 0 tells. The check computes these. Assumes nothing.
use Rattle.std.specs.Prelude.{◌≡◌, refl, ℕ}
use Rattle.std.specs.Float.Ieee.{of_bits}
use Rattle.numbers.specs.Float.{bits}
use Rattle.exact.specs.Units.{W, size_of}
use Rattle.exact.specs.Corner.{cross}
use Rattle.outline.specs.declared.Point.{Point}
use Rattle.outline_orientation.specs.Orient.{in_units, orient, side_number}

abbrev at : ℕ → ℕ → Point
at x y = record { x = bits x; y = bits y }

abbrev seen : Point → ℕ
seen c = side_number (orient (in_units (at 0 0)) (in_units (at 0x3ff0_0000_0000_0000 0x3ff0_0000_0000_0000)) (in_units c))

-- (5e-324, 0)
right_of_it : seen (at 1 0) ≡ 2
unfolding side_number orient cross size_of W of_bits
right_of_it = refl

-- (0, 5e-324)
left_of_it : seen (at 0 1) ≡ 1
unfolding side_number orient cross size_of W of_bits
left_of_it = refl

-- (0.1, 0.1), and one last place above it
on_it : seen (at 0x3fb9_9999_9999_999a 0x3fb9_9999_9999_999a) ≡ 0
unfolding side_number orient cross size_of W of_bits
on_it = refl

just_left : seen (at 0x3fb9_9999_9999_999a 0x3fb9_9999_9999_999b) ≡ 1
unfolding side_number orient cross size_of W of_bits
just_left = refl
