-- The answers of the queries: refused with its number, or answered; and as they cross to the host. Definitions only.
use Rattle.std.specs.Prelude.{Bool, false, ◌≡◌, ℕ, Result, Ok, Err, Float}
use Rattle.numbers.specs.Float.{zero_f}
use Rattle.outline.specs.declared.Point.{Point}
use Rattle.outline.specs.declared.Near.{Near}
use Rattle.outline.specs.Outline.{Outline, point, query_refusal}
use Rattle.outline.specs.Queries.{contains, near, nearest_segment, distance_to_boundary, answer_by}
use Rattle.outline_nearest.specs.Named.{Named}
use Rattle.outline_queries.specs.declared.ContainsAnswer.{ContainsAnswer}
use Rattle.outline_queries.specs.declared.NearestAnswer.{NearestAnswer}
use Rattle.outline_queries.specs.declared.DistanceAnswer.{DistanceAnswer}

-- ---- refused, or answered

unfoldable pub contains_answer : Outline → Point → Result Bool ℕ
contains_answer o p = answer_by Err (Ok (contains o p)) (query_refusal o p)

unfoldable pub nearest_answer : Outline → Point → Result Near ℕ
nearest_answer o p = answer_by Err (Ok (nearest_segment o p)) (query_refusal o p)

unfoldable pub distance_answer : Outline → Point → Result Float ℕ
distance_answer o p = answer_by Err (Ok (distance_to_boundary o p)) (query_refusal o p)

-- ---- as numbers: 0 says that nothing is refused, and the values of a refusal are false, 0.0 or 0

-- of `contains`: whether the point is inside
unfoldable pub contains_numbers : Result Bool ℕ → ContainsAnswer
contains_numbers (Err n) = record { refusal = n; inside = false }
contains_numbers (Ok b) = record { refusal = 0; inside = b }

-- of `nearest_segment`: the ends, the distance and the name
unfoldable pub nearest_numbers : Result Near ℕ → NearestAnswer
nearest_numbers (Err n) = record { refusal = n; ax = zero_f; ay = zero_f; bx = zero_f; by = zero_f; distance = zero_f; loop_index = 0; segment_index = 0 }
nearest_numbers (Ok s) = record {
  refusal = 0;
  ax = s.a.x;
  ay = s.a.y;
  bx = s.b.x;
  by = s.b.y;
  distance = s.distance;
  loop_index = s.loop_index;
  segment_index = s.segment_index;
}

-- the segment whose numbers these are
abbrev pub near_of : NearestAnswer → Near
near_of r = near (point r.ax r.ay) (point r.bx r.by) r.distance r.loop_index r.segment_index

-- what a host gets of a nearest segment
pub record NearestGiven (o : Outline) (p : Point) (r : NearestAnswer) : Type 0 where
  pub equal : r ≡ nearest_numbers (nearest_answer o p)
  -- where nothing is refused, the name is a segment's of the outline, with the ends and the distance answered, and it is the first of the nearest
  pub named : r.refusal ≡ 0 → Named o p (near_of r)

-- of `distance_to_boundary`
unfoldable pub distance_numbers : Result Float ℕ → DistanceAnswer
distance_numbers (Err n) = record { refusal = n; distance = zero_f }
distance_numbers (Ok d) = record { refusal = 0; distance = d }
