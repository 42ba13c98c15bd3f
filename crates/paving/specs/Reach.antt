-- The states that a run of passes goes through: from one to the next by a snapshot or by one quad of the reference. Definitions only.
use Rattle.std.specs.Prelude.{◌≡◌, true, false, ℕ, suc, Float, Some}
use Rattle.outline.specs.declared.Point.{Point}
use Rattle.outline.specs.Outline.{Outline}
use Rattle.front.specs.declared.Corner.{Corner}
use Rattle.front.specs.State.{State}
use Rattle.front.specs.Place.{place, is_full}
use Rattle.paving.specs.Attempt.{attempt_quad, far}
use Rattle.paving.specs.Advance.{is_there, with_snapshot}

-- the front edge a to b was tried in s, with some directions, and answered the quad a, b, d, c, which fits the places lent
pub record Placement (o : Outline) (size : Float) (s : State) (a b : ℕ) (c d : Corner) : Type 0 where
  pub there : is_there s a b ≡ true
  pub da : Point
  pub db : Point
  pub answered : attempt_quad o size s a b da db ≡ Some (far c d)
  pub fits : is_full s a b c d ≡ false

-- t is reached from s by k quads
pub data Reaches (o : Outline) (size : Float) (s : State) : ℕ → State → Type 0 where
  begin : Reaches o size s 0 s
  snapshot : {k : ℕ} {t : State} → Reaches o size s k t → Reaches o size s k (with_snapshot t)
  placed : {k : ℕ} {t : State} {a b : ℕ} {c d : Corner} → Reaches o size s k t → Placement o size t a b c d
      → Reaches o size s (suc k) (place a b c d t)
