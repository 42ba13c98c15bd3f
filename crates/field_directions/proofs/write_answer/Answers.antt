-- `field_directions::write_answer` meets its contract: the three floats of the answer, put from place k on.
use Rattle.std.proofs.Common.{◌≡◌, refl, sym, ap, ◌∙◌, ℕ, ◌+◌, ◌-◌, ◌≤◌, List, ◌++◌, append_assoc, length, take, drop, drop-drop, arith}
use Rattle.std.specs.Prelude.{Float}
use Rattle.std.proofs.lemmas.List.Edits.{sets, sets-eq}
use Rattle.outline.specs.Refusals.{numbered}
use Rattle.field_directions.specs.Directions.{direction_floats}
use Rattle.field_directions.specs.Laws.{floats_three}
use Rattle.field_directions.proofs.write_answer.Goals as goal
use Rattle.field_directions.proofs.write_answer.Goals.{in-Err, in-Ok}

-- n places from k on, replaced by a list of that length
put : (s : List Float) (k n : ℕ) (part : List Float) → length part ≡ n → k + n ≤ length s → take k s ++ (part ++ drop n (drop k s)) ≡ sets s k part
put s k n part e h =
    ap (λ (r : List Float). take k s ++ (part ++ r)) (drop-drop n k s ∙ ap (λ (m : ℕ). drop m s) {y = k + length part} (omega arith))
    ∙ sym (append_assoc (take k s) part (drop (k + length part) s))
    ∙ sym (sets-eq part s k (omega arith))

pub returns : goal.returns
unfolding direction_floats
returns c =
    let k = c.args.k in
    let floats : c.match-answer.floats ≡ direction_floats (numbered c.args.answer) = elim c.match-answer.branch [
      | in-Err w ↦ rw (w.floats-is, w.in-Err.is, w.to_f64.ensures, w.from.ensures) refl
      | in-Ok w ↦ rw (w.floats-is, w.in-Ok.is) refl
    ] in
    rw (c.copy_from_slice.ensures.after, floats)
    (put c.args.answers.now k (k + 3 - k) (direction_floats (numbered c.args.answer)) (omega (arith, floats_three (numbered c.args.answer))) (omega (arith, c.requires)))
