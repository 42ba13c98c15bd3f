-- `contains`, `nearest_segment` and `distance_to_boundary`: each float operation as it stands in src/two_d.rs. Definitions only.
use Rattle.std.specs.Prelude.{Bool, false, not, ◌&&◌, cond, List, ℕ, zero, suc, length, Float}
use Rattle.std.specs.Float.Ieee.{lt, le, unlike}
use Rattle.laws.specs.Loop.{for_up, any_up}
use Rattle.numbers.specs.Float.{◌⊕◌, ◌⊖◌, ◌⊗◌, ◌⊘◌, sqrt, zero_f, one_f, infinity_f, clamp_f}
use Rattle.outline.specs.declared.Point.{Point}
use Rattle.outline.specs.declared.Near.{Near}
use Rattle.outline.specs.Outline.{Outline, hole_at, points, point, point_at, point_after}

-- ---- `contains`

-- the test of `point_in_polygon`: the edge a to b straddles p's height, the lower end counted, and the ray from p to the right meets it
unfoldable pub ray_crosses : Point → Point → Point → Bool
ray_crosses p a b =
    let t = (p.y ⊖ a.y) ⊘ (b.y ⊖ a.y) in
    unlike (lt p.y a.y) (lt p.y b.y) && lt p.x (a.x ⊕ t ⊗ (b.x ⊖ a.x))

-- each crossing changes sides
abbrev pub polygon_turn : Point → List Float → ℕ → Bool → Bool
polygon_turn p s i inside = unlike inside (ray_crosses p (point_at s i) (point_after s i))

-- `point_in_polygon`: an odd number of crossings
unfoldable pub point_in_polygon : Point → List Float → Bool
point_in_polygon p s = for_up (points s) (polygon_turn p s) false

abbrev pub in_hole : Outline → Point → ℕ → Bool
in_hole o p k = point_in_polygon p (hole_at o k)

-- `contains`: inside the outer loop and outside every hole
unfoldable pub contains : Outline → Point → Bool
contains o p = point_in_polygon p o.outer && not (any_up (length o.lens) (in_hole o p))

-- ---- `nearest_segment`, `distance_to_boundary`

-- (p.x - q.x)² + (p.y - q.y)²: `powi(2)` is the product with itself
unfoldable pub squared_distance : Point → Point → Float
squared_distance p q =
    let dx = p.x ⊖ q.x in
    let dy = p.y ⊖ q.y in
    dx ⊗ dx ⊕ dy ⊗ dy

-- the point of a to b next to p: a itself where the squared length is not above 0
unfoldable pub foot_of : Point → Point → Point → Point
foot_of p a b =
    let abx = b.x ⊖ a.x in
    let aby = b.y ⊖ a.y in
    let length2 = abx ⊗ abx ⊕ aby ⊗ aby in
    let t = clamp_f (((p.x ⊖ a.x) ⊗ abx ⊕ (p.y ⊖ a.y) ⊗ aby) ⊘ length2) zero_f one_f in
    cond (le length2 zero_f) a (point (a.x ⊕ t ⊗ abx) (a.y ⊕ t ⊗ aby))

-- `point_segment_distance`
unfoldable pub point_segment_distance : Point → Point → Point → Float
point_segment_distance p a b = sqrt (squared_distance p (foot_of p a b))

-- a segment's ends and its distance; and its name, segment i of loop k
abbrev pub near : Point → Point → Float → ℕ → ℕ → Near
near a b distance k i = record { a = a; b = b; distance = distance; loop_index = k; segment_index = i }

-- what the search starts with
abbrev pub nowhere : Near
nowhere = near (point zero_f zero_f) (point zero_f zero_f) infinity_f 0 0

-- a to b, segment i of loop k, where it is nearer to p than the best so far: so of equals the first stays
unfoldable pub nearer : Point → Point → Point → ℕ → ℕ → Near → Near
nearer p a b k i best =
    let d = point_segment_distance p a b in
    cond (lt d best.distance) (near a b d k i) best

abbrev pub segment_turn : Point → List Float → ℕ → ℕ → Near → Near
segment_turn p s k i best = nearer p (point_at s i) (point_after s i) k i best

-- s has the points of loop k
unfoldable pub nearest_in_loop : Point → List Float → ℕ → Near → Near
nearest_in_loop p s k best = for_up (points s) (segment_turn p s k) best

-- hole k is loop k + 1
abbrev pub hole_turn : Outline → Point → ℕ → Near → Near
hole_turn o p k best = nearest_in_loop p (hole_at o k) (suc k) best

-- `nearest_segment`, with the segment's name (the nearest edge by name): the outer loop's segments, then each hole's
unfoldable pub nearest_segment : Outline → Point → Near
nearest_segment o p = for_up (length o.lens) (hole_turn o p) (nearest_in_loop p o.outer 0 nowhere)

-- `distance_to_boundary`
abbrev pub distance_to_boundary : Outline → Point → Float
distance_to_boundary o p = (nearest_segment o p).distance

-- ---- the answers

-- refused with its number, or answered where that is 0
abbrev pub answer_by : {A : Type 0} → (ℕ → A) → A → ℕ → A
answer_by refused answer zero = answer
answer_by refused answer (suc n) = refused (suc n)
