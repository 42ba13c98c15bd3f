-- Nearest steps worked out from the definition.
use Rattle.std.specs.Prelude.{◌≡◌, refl, ℕ, ℤ, pos, negsuc, Float}
use Rattle.std.specs.Float.Ieee.{neg, span, climb, of_bits, of_fields}
use Rattle.std.specs.Float.{nan}
use Rattle.numbers.specs.Float.{bits}
use Rattle.exact.specs.Units.{W, size_of}
use Rattle.bowl_nearest_step.specs.Step.{nearest_whole, nearest_step}

-- 1/128, a half, goes to 0, which is even; 3/128 and 5/128 both go to 2
pub halves_even
    : (nearest_step (bits 0x3f80_0000_0000_0000) ≡ pos 0) × (nearest_step (bits 0x3f98_0000_0000_0000) ≡ pos 2) × (nearest_step (bits 0x3fa4_0000_0000_0000) ≡ pos 2)
unfolding nearest_step nearest_whole size_of W of_bits
halves_even = (refl, refl, refl)

-- and so below 0
pub halves_below : (nearest_step (bits 0xbf80_0000_0000_0000) ≡ pos 0) × (nearest_step (bits 0xbf98_0000_0000_0000) ≡ negsuc 1)
unfolding nearest_step nearest_whole size_of W of_bits
halves_below = (refl, refl)

-- the floats beside 1/128
pub beside_a_half : (nearest_step (bits 0x3f7f_ffff_ffff_ffff) ≡ pos 0) × (nearest_step (bits 0x3f80_0000_0000_0001) ≡ pos 1)
unfolding nearest_step nearest_whole size_of W of_bits
beside_a_half = (refl, refl)

-- 1,001; the smallest float above 0; −0.0
pub ends : (nearest_step (bits 0x408f_4800_0000_0000) ≡ pos 64064) × (nearest_step (bits 1) ≡ pos 0) × (nearest_step (bits 0x8000_0000_0000_0000) ≡ pos 0)
unfolding nearest_step nearest_whole size_of W of_bits
ends = (refl, refl, refl)
