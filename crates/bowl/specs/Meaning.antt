-- What each answer means: 25 names the lowest quad that doesn't turn left in steps at all four corners, and nothing is refused exactly if there is none (`steps_mean`).
use Rattle.std.specs.Prelude.{Bool, true, false, ◌≡◌, ℕ, ◌*◌, ◌<◌, ◌≤◌}
use Rattle.front.specs.State.{State}
use Rattle.front_lent_mesh.specs.Mesh.{quad_in}
use Rattle.hand_mesh_check.specs.Check.{mesh_refusal}
use Rattle.bowl.specs.declared.BowlStepsAnswer.{BowlStepsAnswer}
use Rattle.bowl.specs.Steps.{is_shown, steps_given, mesh_unstepped, hidden_at}

-- the quads of a mesh that the bowl can show
abbrev pub shown_in : State → ℕ → Bool
shown_in s k = is_shown s.xs s.ys (quad_in s.quads k)

-- 23 of the mesh doesn't refuse it, and the buffer has two places a node
pub record Steppable (s : State) (places : ℕ) : Type 0 where
  pub sound : mesh_refusal s ≡ 0
  pub room : 2 * s.counts.nodes ≤ places

pub data StepsMean (s : State) (places : ℕ) (r : BowlStepsAnswer) : Type 0 where
  is_given : r ≡ steps_given → Steppable s places → ((k : ℕ) → k < s.counts.quads → shown_in s k ≡ true) → StepsMean s places r
  is_unsound : r ≡ mesh_unstepped → (Steppable s places → ⊥) → StepsMean s places r
  is_hidden : (k : ℕ) → r ≡ hidden_at k → Steppable s places → k < s.counts.quads → shown_in s k ≡ false
      → ((j : ℕ) → j < k → shown_in s j ≡ true) → StepsMean s places r
