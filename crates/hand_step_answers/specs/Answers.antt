-- The answers of hand stepping as they cross to the host: the numbers of each case. Definitions only.
use Rattle.std.specs.Prelude.{ℕ, ◌+◌, Result, Ok, Err, Float, Option, Some, None}
use Rattle.numbers.specs.Float.{zero_f}
use Rattle.front.specs.declared.Counts.{Counts}
use Rattle.front.specs.declared.Corner.{Corner}
use Rattle.front.specs.declared.Corner.TheVariants.{Reused, Fresh}
use Rattle.front.specs.Place.{added, corner_id}
use Rattle.front.specs.declared.FarCorners.{FarCorners}
use Rattle.hand_steps.specs.declared.StepOutcome.{StepOutcome}
use Rattle.hand_steps.specs.Outcomes.{outcome_number}
use Rattle.hand_previews.specs.declared.View.{View}
use Rattle.hand_step_answers.specs.declared.StepAnswer.{StepAnswer}
use Rattle.hand_step_answers.specs.declared.PreviewAnswer.{PreviewAnswer}

-- ---- a step

abbrev pub refused_step : ℕ → StepAnswer
refused_step n = record { refusal = n; outcome = 0; nodes = 0; quads = 0; edges = 0; front = 0 }

abbrev pub done_step : StepOutcome → Counts → StepAnswer
done_step w k = record { refusal = 0; outcome = outcome_number w; nodes = k.nodes; quads = k.quads; edges = k.edges; front = k.front }

-- with the counts after it
abbrev pub step_numbers : Result StepOutcome ℕ → Counts → StepAnswer
step_numbers (Err n) k = refused_step n
step_numbers (Ok w) k = done_step w k

-- ---- a preview

abbrev pub refused_preview : ℕ → PreviewAnswer
refused_preview n =
    record {
      refusal = n;
      outcome = 0;
      a = 0;
      b = 0;
      d = 0;
      c = 0;
      new_nodes = 0;
      cx = zero_f;
      cy = zero_f;
      dx = zero_f;
      dy = zero_f;
      front = 0;
    }

-- no quad
abbrev pub no_quad : ℕ → ℕ → PreviewAnswer
no_quad outcome front =
    record {
      refusal = 0;
      outcome = outcome;
      a = 0;
      b = 0;
      d = 0;
      c = 0;
      new_nodes = 0;
      cx = zero_f;
      cy = zero_f;
      dx = zero_f;
      dy = zero_f;
      front = front;
    }

-- the coordinates of a new corner
abbrev pub fresh_x : Corner → Float
fresh_x (Reused id) = zero_f
fresh_x (Fresh x y) = x

abbrev pub fresh_y : Corner → Float
fresh_y (Reused id) = zero_f
fresh_y (Fresh x y) = y

abbrev pub quad_numbers : Option FarCorners → ℕ → ℕ → ℕ → ℕ → ℕ → PreviewAnswer
quad_numbers None outcome front n a b = no_quad outcome front
quad_numbers (Some q) outcome front n a b =
    record {
      refusal = 0;
      outcome = outcome;
      a = a;
      b = b;
      d = corner_id (n + added q.c) q.d;
      c = corner_id n q.c;
      new_nodes = added q.c + added q.d;
      cx = fresh_x q.c;
      cy = fresh_y q.c;
      dx = fresh_x q.d;
      dy = fresh_y q.d;
      front = front;
    }

abbrev pub view_numbers : View → ℕ → ℕ → ℕ → PreviewAnswer
view_numbers v n a b = quad_numbers v.quad (outcome_number v.outcome) v.front n a b

abbrev pub preview_numbers : Result View ℕ → ℕ → ℕ → ℕ → PreviewAnswer
preview_numbers (Err r) n a b = refused_preview r
preview_numbers (Ok v) n a b = view_numbers v n a b
