-- `front_loops` of src/alt_crossfield.rs. Definitions only.
use Rattle.std.specs.Prelude.{List, ℕ}
use Rattle.topology.specs.Listing.{walks}
use Rattle.front.specs.State.{State, next_of}

-- `front_loops`: starts from the smallest id and lists loops of three or more
unfoldable pub front_loops : State → List (List ℕ)
front_loops s = walks 3 s.counts.nodes s.counts.front (next_of s)
