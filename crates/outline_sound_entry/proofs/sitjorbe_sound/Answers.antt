-- `sitjorbe_sound` meets its contract: `sound_refused` and `sound_judged`.
use Rattle.std.specs.Prelude.{refl}
use Rattle.std.proofs.Common.{rules, arith}
use Rattle.std.proofs.lemmas.Grind.{common_steps}
use Rattle.outline.specs.Outline.{outline}
use Rattle.outline.proofs.Refused.{refusal_some}
use Rattle.outline_sound_entry.proofs.Laws.{sound_refused, sound_judged}
use Rattle.outline_sound_entry.proofs.Means.{answer_means}
use Rattle.outline_sound_entry.proofs.sitjorbe_sound.Goals as goal

pub returns-in-Err-clause-answer : goal.returns-in-Err-clause-answer
returns-in-Err-clause-answer c =
    sound_refused (outline c.args.outer.now c.args.holes.now c.args.hole_lengths.now) (search rules) (grind (arith, common_steps, refusal_some))

pub returns-in-Ok-clause-answer : goal.returns-in-Ok-clause-answer
returns-in-Ok-clause-answer c =
    sound_judged (outline c.args.outer.now c.args.holes.now c.args.hole_lengths.now) {n = 0} (search rules) refl c.is_sound.ensures

pub returns-in-Err-clause-means : goal.returns-in-Err-clause-means
returns-in-Err-clause-means c = answer_means (outline c.args.outer.now c.args.holes.now c.args.hole_lengths.now) _ (returns-in-Err-clause-answer c)

pub returns-in-Ok-clause-means : goal.returns-in-Ok-clause-means
returns-in-Ok-clause-means c = answer_means (outline c.args.outer.now c.args.holes.now c.args.hole_lengths.now) _ (returns-in-Ok-clause-answer c)
