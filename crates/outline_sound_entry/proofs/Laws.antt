-- For the entry: what it answers where the outline is refused, and where it is judged. Assumes nothing.
use Rattle.std.specs.Prelude.{◌≡◌, Bool, false, ◌&&◌, ℕ}
use Rattle.std.proofs.Common.{sym, ◌∙◌, eq-eqb, ne_eqb}
use Rattle.std.proofs.Math.Path.{ap, ap₂}
use Rattle.outline.specs.Outline.{Outline, outline_refusal}
use Rattle.outline_sound.specs.Sound.{outline_sound}
use Rattle.outline_sound_entry.specs.declared.SoundAnswer.{SoundAnswer}
use Rattle.outline_sound_entry.specs.Answer.{sound_answer}

module _ (o : Outline) {n : ℕ} (e : n ≡ outline_refusal o) where
  abbrev answer : ℕ → Bool → SoundAnswer
  answer n b = record { refusal = n; sound = b }

  pub sound_refused : (n ≡ 0 → ⊥) → answer n false ≡ sound_answer o
  unfolding sound_answer
  sound_refused h = ap₂ answer e (ap (λ (b : Bool). b && outline_sound o) (sym (ne_eqb (outline_refusal o) 0 (λ z. h (e ∙ z)))))

  pub sound_judged : n ≡ 0 → {s : Bool} → s ≡ outline_sound o → answer 0 s ≡ sound_answer o
  unfolding sound_answer
  sound_judged z f = ap₂ answer (sym z ∙ e) (f ∙ ap (λ (b : Bool). b && outline_sound o) (sym (eq-eqb (outline_refusal o) 0 (sym e ∙ z))))
