-- What SCOPE says of a step, as laws: 23 before 24, cap with nothing placed, full with no second attempt. Assumes nothing.
use Rattle.std.specs.Prelude.{true, false, ◌≡◌, ℕ, ◌<◌, ◌≤◌, Float, Some, None}
use Rattle.std.proofs.Common.{le-leb}
use Rattle.std.proofs.lemmas.Bool.{lt-leb}
use Rattle.outline.specs.Outline.{Outline}
use Rattle.field_direction.specs.Record.{FieldRecord}
use Rattle.front.specs.declared.Corner.{Corner}
use Rattle.front.specs.State.{State}
use Rattle.front.specs.Place.{place, is_full}
use Rattle.paving.specs.Attempt.{try_edge, far}
use Rattle.paving.specs.Advance.{most_quads}
use Rattle.hand_mesh_check.specs.Check.{mesh_refusal}
use Rattle.hand_steps.specs.declared.StepOutcome.TheVariants.{Placed, None as NoQuad, Full, Cap}
use Rattle.hand_steps.specs.Hand.{hand_refusal, handled, place_on}

-- a mesh that 23 refuses is refused with 23, wherever the edge is
pub mesh_first : (s : State) (a b : ℕ) → mesh_refusal s ≡ 23 → hand_refusal s a b ≡ 23
unfolding hand_refusal
mesh_first s a b e = rw e

module _ (o : Outline) (size : Float) (field : FieldRecord) (a b : ℕ) (s : State) where
  -- with 250,000 quads or more nothing is placed
  pub at_the_cap : most_quads ≤ s.counts.quads → place_on o size field a b s ≡ handled s Cap
  unfolding place_on
  at_the_cap h = rw (le-leb _ _ h)

  module _ (few : s.counts.quads < most_quads) where
    pub no_quad_lem : try_edge o size field s a b ≡ None → place_on o size field a b s ≡ handled s NoQuad
    unfolding place_on
    no_quad_lem t = rw (lt-leb _ _ few, t)

    module _ (c d : Corner) (t : try_edge o size field s a b ≡ Some (far c d)) where
      -- a quad that doesn't fit ends the step: nothing is placed, and the other attempt isn't made
      pub full_ends : is_full s a b c d ≡ true → place_on o size field a b s ≡ handled s Full
      unfolding place_on
      full_ends f = rw (lt-leb _ _ few, t, f)

      pub fits_placed : is_full s a b c d ≡ false → place_on o size field a b s ≡ handled (place a b c d s) Placed
      unfolding place_on
      fits_placed f = rw (lt-leb _ _ few, t, f)
