-- The search for the nearest segment as the code runs it: a root is taken only where the squared distance beats the best so far. Definitions only;
-- that it finds the same is a law (SearchLaws).
use Rattle.std.specs.Prelude.{◌&&◌, cond, List, ℕ, suc, length, Float}
use Rattle.std.specs.Float.Ieee.{lt}
use Rattle.laws.specs.Loop.{for_up}
use Rattle.numbers.specs.Float.{sqrt, infinity_f}
use Rattle.outline.specs.declared.Point.{Point}
use Rattle.outline.specs.declared.Near.{Near}
use Rattle.outline.specs.declared.Search.{Search}
use Rattle.outline.specs.Outline.{Outline, hole_at, points, point_at, point_after}
use Rattle.outline.specs.Queries.{squared_distance, foot_of, near, nowhere}

abbrev pub search : Near → Float → Search
search found squared = record { near = found; squared = squared }

-- what the search starts with
abbrev pub search_start : Search
search_start = search nowhere infinity_f

-- one segment: its root is compared only where its square is below the best one's
unfoldable pub searched : Point → Point → Point → ℕ → ℕ → Search → Search
searched p a b k i best =
    let squared = squared_distance p (foot_of p a b) in
    let d = sqrt squared in
    cond (lt squared best.squared && lt d best.near.distance) (search (near a b d k i) squared) best

abbrev pub search_turn : Point → List Float → ℕ → ℕ → Search → Search
search_turn p s k i best = searched p (point_at s i) (point_after s i) k i best

unfoldable pub search_loop : Point → List Float → ℕ → Search → Search
search_loop p s k best = for_up (points s) (search_turn p s k) best

abbrev pub search_hole : Outline → Point → ℕ → Search → Search
search_hole o p k best = search_loop p (hole_at o k) (suc k) best

-- the search over all loops, from the best so far
unfoldable pub search_from : Outline → Point → Search → Search
search_from o p best = for_up (length o.lens) (search_hole o p) (search_loop p o.outer 0 best)
