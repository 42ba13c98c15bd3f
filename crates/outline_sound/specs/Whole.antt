-- THE WORD WHOLE, which a run reports. Definitions only.
use Rattle.std.specs.Prelude.{Bool, ◌&&◌, ℕ, eqb}
use Rattle.outline.specs.Outline.{Outline}
use Rattle.outline_sound.specs.Sound.{outline_sound}

-- of the front so many loops are listed, that is none, and the outline as drawn is sound
unfoldable pub is_whole : Outline → ℕ → Bool
is_whole o listed = eqb listed 0 && outline_sound o
