-- What holds of the definitions of specs/Meaning.antt.
use Rattle.std.specs.Prelude.{Bool, true, false, ◌&&◌, cond, ◌≡◌, refl, ℕ, suc, ◌*◌, ◌<◌, eqb, leb}
use Rattle.std.proofs.Common.{⊎_elim, ap, ◌∙◌, le_of_suc-le-suc, eq-or-lt_of_le, arith, eqb-true, leb-true, leb-false}
use Rattle.std.proofs.lemmas.Bool.{eqb-false}
use Rattle.laws.specs.Loop.{go, out, Kept, run_keeps_at}
use Rattle.front.specs.State.{State}
use Rattle.hand_mesh_check.specs.Check.{mesh_refusal}
use Rattle.bowl.specs.declared.BowlStepsAnswer.{BowlStepsAnswer}
use Rattle.bowl.specs.Steps.{steps_given, mesh_unstepped, hidden_at, hidden_turn, lowest_hidden, steps_answer}
use Rattle.bowl.specs.Meaning.{shown_in, Steppable, StepsMean, is_given, is_unsound, is_hidden}

-- ---- the search

-- of the first n quads
data StepsSearched (s : State) (n : ℕ) (r : BowlStepsAnswer) : Type 0 where
  all_shown : r ≡ steps_given → ((k : ℕ) → k < n → shown_in s k ≡ true) → StepsSearched s n r
  found : (k : ℕ) → r ≡ hidden_at k → k < n → shown_in s k ≡ false → ((j : ℕ) → j < k → shown_in s j ≡ true) → StepsSearched s n r

searched : (s : State) (n : ℕ) → StepsSearched s n (lowest_hidden s.xs s.ys s.quads n)
unfolding lowest_hidden
searched s n =
    run_keeps_at (λ i u. Before i) (StepsSearched s n) n (hidden_turn s.xs s.ys s.quads) (λ u. steps_given) tt (λ k h. absurd (omega arith))
    (λ i u h below. next i u h below (shown_in s i) refl) (λ u below. all_shown refl below)
  where
    Before : ℕ → Type 0
    Before i = (k : ℕ) → k < i → shown_in s k ≡ true

    next : (i : ℕ) (u : Unit {0}) → i < n → Before i → (t : Bool) → shown_in s i ≡ t
        → Kept {S = Unit {0}} (λ u. Before (suc i)) (StepsSearched s n) (cond t (go u) (out (hidden_at i)))
    next i u h below true e = λ k less. ⊎_elim (λ same. ap (shown_in s) same ∙ e) (below k) (eq-or-lt_of_le (le_of_suc-le-suc less))
    next i u h below false e = found i refl h e below

-- ---- THE STATEMENT

pub steps_mean : (s : State) (places : ℕ) → StepsMean s places (steps_answer s places)
unfolding steps_answer
steps_mean s places = by (eqb (mesh_refusal s) 0) refl (leb (2 * s.counts.nodes) places) refl
  where
    last : Steppable s places → {r : BowlStepsAnswer} → StepsSearched s s.counts.quads r → StepsMean s places r
    last S (all_shown e all) = is_given e S all
    last S (found k e h hid below) = is_hidden k e S h hid below

    by : (a : Bool) → eqb (mesh_refusal s) 0 ≡ a → (b : Bool) → leb (2 * s.counts.nodes) places ≡ b
        → StepsMean s places (cond (a && b) (lowest_hidden s.xs s.ys s.quads s.counts.quads) mesh_unstepped)
    by true p true q = last (record { sound = eqb-true (mesh_refusal s) 0 p; room = leb-true (2 * s.counts.nodes) places q }) (searched s s.counts.quads)
    by true p false q = is_unsound refl (λ S. omega (arith, S.room, leb-false (2 * s.counts.nodes) places q))
    by false p b q = is_unsound refl (λ S. eqb-false (mesh_refusal s) 0 p S.sound)
