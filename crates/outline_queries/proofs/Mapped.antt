-- The distance that is answered is that of the nearest segment that is. Assumes nothing.
use Rattle.std.specs.Prelude.{◌≡◌, refl, ℕ, zero, suc, Result, Ok, Err, Float}
use Rattle.std.proofs.Common.{ap, ◌∙◌}
use Rattle.outline.specs.declared.Point.{Point}
use Rattle.outline.specs.declared.Near.{Near}
use Rattle.outline.specs.Outline.{Outline, query_refusal}
use Rattle.outline.specs.Queries.{nearest_segment, answer_by}
use Rattle.outline_queries.specs.Answers.{nearest_answer, distance_answer}

abbrev distance_in : Result Near ℕ → Result Float ℕ
distance_in (Ok near) = Ok near.distance
distance_in (Err n) = Err n

mapped : (a : Near) (q : ℕ) → distance_in (answer_by Err (Ok a) q) ≡ answer_by Err (Ok a.distance) q
mapped a zero = refl
mapped a (suc n) = refl

module _ (o : Outline) (p : Point) where
  distance_is : distance_in (nearest_answer o p) ≡ distance_answer o p
  unfolding nearest_answer distance_answer
  distance_is = mapped (nearest_segment o p) (query_refusal o p)

  pub distance_found : {near : Near} → Ok near ≡ nearest_answer o p → Ok near.distance ≡ distance_answer o p
  distance_found e = ap distance_in e ∙ distance_is

  pub distance_refused : {n : ℕ} → Err n ≡ nearest_answer o p → Err n ≡ distance_answer o p
  distance_refused e = ap distance_in e ∙ distance_is
