-- THE THEOREM of the small quads: what holds of the list of every small quad, in SCOPE's words. Assumes nothing.
use Rattle.std.specs.Prelude.{◌≡◌, ℕ, ◌+◌, ◌*◌, ◌<◌}
use Rattle.small_quads_lattice.specs.Fours.{first_point, second_point, third_point, fourth_point, accepted_four, above_third, fours}
use Rattle.small_quads_lattice.specs.Order.{NumbersBelow, numbers_below, written_out, Before}

-- a, b, d and c as one number, the first point its highest digit to the base 16
abbrev pub four_number : (a b d c : ℕ) → ℕ
four_number a b d c = a * 4096 + b * 256 + d * 16 + c

pub record EverySmallQuad : Type 0 where
  -- the list has the points of fours, four after four, ..
  pub written : fours accepted_four ≡ written_out (numbers_below accepted_four 65536)
  -- .. which are exactly those that `convex_ccw` accepts at 20 degrees, each once, by rising numbers, ..
  pub exactly : NumbersBelow accepted_four 65536 (numbers_below accepted_four 65536)
  -- .. and that is the dictionary's order.
  pub ordered : (k l : ℕ) → k < l → Before k l
  -- Every four of points is among those asked.
  pub asked : (a b d c : ℕ) → a < 16 → b < 16 → d < 16 → c < 16
      → let k = four_number a b d c in (k < 65536) × (first_point k ≡ a) × (second_point k ≡ b) × (third_point k ≡ d) × (fourth_point k ≡ c)
  -- All four starting corners are in the list, or none.
  pub starts : (a b d c : ℕ) → a < 16 → b < 16 → d < 16 → c < 16 → accepted_four (four_number b d c a) ≡ accepted_four (four_number a b d c)
  -- The list equals that of the fours that turn left at every corner with a sine above 1/3, worked out in integers.
  pub integers : fours accepted_four ≡ fours above_third
