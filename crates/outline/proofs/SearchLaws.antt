-- What holds of the definitions of proofs/SearchBase.antt.
use Rattle.std.specs.Prelude.{false, List, ◌≡◌, refl, ℕ, suc, length, Float}
use Rattle.std.specs.Float.{binary64}
use Rattle.std.specs.Float.Ieee.Fits.{inf-fits}
use Rattle.laws.specs.Loop.{for_up_related}
use Rattle.numbers.specs.Root.{root}
use Rattle.outline.specs.declared.Point.{Point}
use Rattle.outline.specs.declared.Near.{Near}
use Rattle.outline.specs.declared.Search.{Search}
use Rattle.outline.specs.Outline.{Outline, hole_at, points, point_at, point_after}
use Rattle.outline.specs.Queries.{nowhere, segment_turn, nearest_in_loop, hole_turn}
use Rattle.outline.specs.Queries.{nearest_segment}
use Rattle.outline.specs.Search.{search_start, search_turn, search_loop, search_hole, search_from}
use Rattle.outline.proofs.SearchBase.{Finds, finds_segment}

finds_loop : (p : Point) (l : List Float) (k : ℕ) (s : Search) (n : Near) → Finds s n → Finds (search_loop p l k s) (nearest_in_loop p l k n)
unfolding search_loop nearest_in_loop
finds_loop p l k s n f =
    for_up_related Finds (points l) (search_turn p l k) (segment_turn p l k) s n f
    (λ i t m g. finds_segment p (point_at l i) (point_after l i) k i t m g)

finds_start : Finds search_start nowhere
unfolding root
finds_start = record { same = refl; held = inf-fits binary64 false; root = refl }

finds_all : (o : Outline) (p : Point) → Finds (search_from o p search_start) (nearest_segment o p)
unfolding search_from nearest_segment
finds_all o p =
    for_up_related Finds (length o.lens) (search_hole o p) (hole_turn o p) (search_loop p o.outer 0 search_start) (nearest_in_loop p o.outer 0 nowhere)
    (finds_loop p o.outer 0 search_start nowhere finds_start)
    (λ k s n f. finds_loop p (hole_at o k) (suc k) s n f)

-- both searches find the same segment, bit for bit
pub search_same : (o : Outline) (p : Point) → (search_from o p search_start).near ≡ nearest_segment o p
search_same o p = (finds_all o p).same
