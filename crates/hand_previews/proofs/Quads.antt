-- What would become of the edge, from the quad that a placing places, or from why it places none.
use Rattle.std.specs.Prelude.{Bool, Result, Ok, Err, ◌≡◌, ℕ, leb, Float, Option, Some, None}
use Rattle.std.proofs.Math.Bool.{true, false, cond}
use Rattle.std.proofs.Math.Path.{refl}
use Rattle.outline.specs.Outline.{Outline}
use Rattle.field_direction.specs.Record.{FieldRecord}
use Rattle.front.specs.State.{State}
use Rattle.front.specs.Place.{is_full}
use Rattle.front.specs.declared.FarCorners.{FarCorners}
use Rattle.paving.specs.Attempt.{try_edge}
use Rattle.paving.specs.Advance.{most_quads}
use Rattle.hand_steps.specs.declared.StepOutcome.{StepOutcome}
use Rattle.hand_steps.specs.declared.StepOutcome.TheVariants.{Placed, Full, Cap}
use Rattle.hand_steps.specs.Hand.{fitting, quad_on}
use Rattle.hand_previews.specs.declared.Foreseen.{Foreseen}
use Rattle.hand_previews.specs.Preview.{foresight, foreseen, foreseen_on}

abbrev pub foreseen_as : Result FarCorners StepOutcome → Foreseen
foreseen_as (Ok q) = foresight Placed (Some q)
foreseen_as (Err w) = foresight w None

module _ (o : Outline) (size : Float) (field : FieldRecord) (a b : ℕ) (s : State) where
  pub quad_foreseen : foreseen_as (quad_on o size field a b s) ≡ foreseen_on o size field a b s
  unfolding quad_on foreseen_on
  quad_foreseen = by (leb most_quads s.counts.quads) (try_edge o size field s a b)
    where
      quad : (q : FarCorners) (full : Bool) → foreseen_as (cond full (Err Full) (Ok q)) ≡ cond full (foresight Full None) (foresight Placed (Some q))
      quad q true = refl
      quad q false = refl

      by : (cap : Bool) (t : Option FarCorners) → foreseen_as (cond cap (Err Cap) (fitting a b t s)) ≡ cond cap (foresight Cap None) (foreseen a b t s)
      by true t = refl
      by false None = refl
      by false (Some q) = quad q (is_full s a b q.c q.d)
