-- What the answer means: an outline that isn't refused is called sound exactly if it is sound in words.
use Rattle.std.specs.Prelude.{Bool, true, false, ◌&&◌, ◌≡◌, ◌↔◌, ℕ, eqb, T}
use Rattle.std.proofs.Common.{ap, ◌∙◌, sym, refl, true≢false}
use Rattle.outline.specs.Outline.{Outline, outline_refusal}
use Rattle.outline_sound.specs.Sound.{outline_sound}
use Rattle.outline_sound.specs.Meaning.{SoundOutline}
use Rattle.outline_sound.proofs.Meaning.{sound_means}
use Rattle.outline_sound_entry.specs.declared.SoundAnswer.{SoundAnswer}
use Rattle.outline_sound_entry.specs.Answer.{sound_answer}

pub answer_means : (o : Outline) (r : SoundAnswer) → r ≡ sound_answer o → r.refusal ≡ 0 → (r.sound ≡ true) ↔ SoundOutline o
unfolding sound_answer
answer_means o r e z =
    let refusal = sym (ap (λ (x : SoundAnswer). x.refusal) e) ∙ z in
    let said : r.sound ≡ outline_sound o = ap (λ (x : SoundAnswer). x.sound) e ∙ rw refusal refl in
    (λ s. (sound_means o).0 (held (outline_sound o) (sym said ∙ s)), λ h. said ∙ holds (outline_sound o) ((sound_means o).1 h))
  where
    held : (b : Bool) → b ≡ true → T b
    held true e = tt
    held false e = absurd (true≢false (sym e))

    holds : (b : Bool) → T b → b ≡ true
    holds true t = refl
    holds false t = absurd t
