-- Examples of what `front_loops` leaves, by computation.
use Rattle.std.specs.Prelude.{[], ◌∷◌, ◌≡◌, refl}
use Rattle.topology.specs.Links.{off, link_of}
use Rattle.topology.specs.Walk.{walk_by, prepend}
use Rattle.topology.specs.Listing.{long_loops, add_loop}
use Rattle.laws.specs.Loop.{for_up}
use Rattle.laws.specs.Overlay.{overlay}
use Rattle.laws.specs.Tabulate.{tabulate}
use mathlib.Core.List.{flatten}
use Rattle.front.specs.State as state
use Rattle.front_loop_list.specs.Listed.{lists, listed_of, loops_in, front_mark, written, listed_in}

-- Seven nodes: 0 and 6 make a loop of two, 1, 4, 2 and 5 one of four, and 3 is off the front. The eighth place is no node's.
pub one_of_two : listed_in (state.counted 7 0 0 6) (6 ∷ 4 ∷ 5 ∷ off ∷ 2 ∷ 1 ∷ 0 ∷ 1 ∷ [])
    (9 ∷ 9 ∷ 9 ∷ 9 ∷ 9 ∷ 9 ∷ 9 ∷ 9 ∷ []) (9 ∷ 9 ∷ 9 ∷ 9 ∷ 9 ∷ 9 ∷ 9 ∷ []) (9 ∷ 9 ∷ 9 ∷ 9 ∷ 9 ∷ 9 ∷ 9 ∷ [])
    ≡ lists (1 ∷ 1 ∷ 1 ∷ 0 ∷ 1 ∷ 1 ∷ 1 ∷ 9 ∷ []) (1 ∷ 4 ∷ 2 ∷ 5 ∷ 9 ∷ 9 ∷ 9 ∷ []) (4 ∷ 9 ∷ 9 ∷ 9 ∷ 9 ∷ 9 ∷ 9 ∷ []) (listed_of 1 4)
unfolding listed_in loops_in written overlay front_mark tabulate flatten long_loops add_loop for_up walk_by prepend link_of
one_of_two = refl
