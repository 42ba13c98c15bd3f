-- What the name of the nearest segment says (the nearest edge by name). Definitions only.
use Rattle.std.specs.Prelude.{true, ◌⊎◌, ◌≡◌, ℕ, ◌≤◌, ◌<◌, length, Float}
use Rattle.std.specs.Float.Ieee.{lt, le}
use Rattle.outline.specs.declared.Point.{Point}
use Rattle.outline.specs.declared.Near.{Near}
use Rattle.outline.specs.Outline.{Outline, loop_at, points, point_at, point_after}
use Rattle.outline.specs.Queries.{point_segment_distance}

-- how far p is from segment i of loop k
abbrev pub segment_distance : Outline → Point → ℕ → ℕ → Float
segment_distance o p k i = point_segment_distance p (point_at (loop_at o k) i) (point_after (loop_at o k) i)

-- segment i of loop k comes before segment j of loop m
abbrev pub ComesBefore : ℕ → ℕ → ℕ → ℕ → Type 0
ComesBefore k i m j = (k < m) ⊎ ((k ≡ m) × (i < j))

-- n is a segment of o by its name
pub record Own (o : Outline) (p : Point) (n : Near) : Type 0 where
  -- the loop is one of the outline's
  pub loop : n.loop_index ≤ length o.lens
  -- the place is one of the loop's segments
  pub segment : n.segment_index < points (loop_at o n.loop_index)
  -- ends and distance are that segment's own
  pub a : n.a ≡ point_at (loop_at o n.loop_index) n.segment_index
  pub b : n.b ≡ point_after (loop_at o n.loop_index) n.segment_index
  pub distance : n.distance ≡ segment_distance o p n.loop_index n.segment_index

-- n is the segment of o that is nearest to p
pub record Named (o : Outline) (p : Point) (n : Near) : Type 0 where
  pub own : Own o p n
  -- no segment is nearer
  pub least : (k i : ℕ) → k ≤ length o.lens → i < points (loop_at o k) → le n.distance (segment_distance o p k i) ≡ true
  -- of equal distances the first: every segment before it is farther
  pub first : (k i : ℕ) → ComesBefore k i n.loop_index n.segment_index → i < points (loop_at o k) → lt n.distance (segment_distance o p k i) ≡ true
