-- The answer of `sitjorbe_sound`: the outline's refusal, 0 where 1 to 4 let it pass, and whether it is sound. Definitions only.
use Rattle.std.specs.Prelude.{◌&&◌, eqb}
use Rattle.outline.specs.Outline.{Outline, outline_refusal}
use Rattle.outline_sound.specs.Sound.{outline_sound}
use Rattle.outline_sound_entry.specs.declared.SoundAnswer.{SoundAnswer}

-- sound: nothing is refused, and the outline is sound
unfoldable pub sound_answer : Outline → SoundAnswer
sound_answer o = record { refusal = outline_refusal o; sound = eqb (outline_refusal o) 0 && outline_sound o }
