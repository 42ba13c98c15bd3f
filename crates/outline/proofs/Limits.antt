-- Refusals 1 and 2 at their limits, computed from the definitions. Assumes nothing.
use Rattle.std.specs.Prelude.{◌≡◌, refl, true, false, List, [], ◌∷◌, ℕ, ◌*◌, replicate, Float}
use Rattle.std.specs.Float.{nan}
use Rattle.laws.specs.Loop.{for_up, any_up, sum_up}
use Rattle.numbers.specs.Float.{is_finite, zero_f}
use Rattle.outline.specs.Outline.{outline, hole_start, any_float, misshapen, loop_refusal}

-- so many points at the origin
abbrev origins : ℕ → List Float
origins n = replicate (2 * n) zero_f

pub record Limits : Type 0 where
  -- 4,096 points pass, 4,097 don't, those of the holes counted
  pub most : misshapen (outline (origins 4096) [] []) ≡ false
  pub more : misshapen (outline (origins 4097) [] []) ≡ true
  pub holes_counted : misshapen (outline (origins 4094) (origins 3) (3 ∷ [])) ≡ true
  -- two points, one of them no number: 2 comes before 3
  pub few_first : loop_refusal (nan ∷ zero_f ∷ zero_f ∷ zero_f ∷ []) ≡ 2

pub limits : Limits
unfolding misshapen hole_start sum_up for_up loop_refusal any_float any_up is_finite
limits = record { most = refl; more = refl; holes_counted = refl; few_first = refl }
