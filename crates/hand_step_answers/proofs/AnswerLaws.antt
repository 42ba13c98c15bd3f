-- What the code of a preview's answer puts together is the definition's. Assumes nothing.
use Rattle.std.specs.Prelude.{◌≡◌, ℕ, ◌+◌, Float, Some}
use Rattle.front.specs.declared.Corner.{Corner}
use Rattle.front.specs.Place.{added, corner_id}
use Rattle.hand_previews.specs.declared.View.{View}
use Rattle.hand_step_answers.specs.declared.PreviewAnswer.{PreviewAnswer}
use Rattle.hand_steps.specs.Outcomes.{outcome_number}
use Rattle.hand_step_answers.specs.Answers.{fresh_x, fresh_y, view_numbers}
use Rattle.paving.specs.Attempt.{far}

pub view_made : (v : View) (n a b : ℕ) (c d : Corner) → v.quad ≡ Some (far c d) → {o C D p q : ℕ} {cx cy dx dy : Float} → o ≡ outcome_number v.outcome
    → p ≡ added c → D ≡ corner_id (n + p) d → C ≡ corner_id n c → q ≡ added d → cx ≡ fresh_x c → cy ≡ fresh_y c → dx ≡ fresh_x d → dy ≡ fresh_y d
    → ◌≡◌ {A = PreviewAnswer}
    (record {
      refusal = 0;
      outcome = o;
      a = a;
      b = b;
      d = D;
      c = C;
      new_nodes = p + q;
      cx = cx;
      cy = cy;
      dx = dx;
      dy = dy;
      front = v.front;
    })
    (view_numbers v n a b)
view_made v n a b c d e eo ep e_d e_c eq ex ey ez ew = rw (e, eo, e_d, ep, e_c, eq, ex, ey, ez, ew)
