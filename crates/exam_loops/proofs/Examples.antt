-- Loops of lent links, each reading on the smallest input that shows it. The check computes them.
use Rattle.std.specs.Prelude.{[], ◌∷◌, ◌≡◌, refl, Ok, Err}
use Rattle.laws.specs.Loop.{for_up, any_up}
use Rattle.topology.specs.Links.{off, link_of}
use Rattle.topology.specs.Walk.{walk_by, prepend}
use Rattle.topology.specs.Listing.{long_loops, add_loop}
use Rattle.laws.specs.Overlay.{overlay}
use Rattle.exam_loops.specs.Loops.{links_back, are_paired, links_sound, linked_loops, loop_numbered, loop_reading, read_into, read_loop}

-- nodes 0, 4, 2 and 1, 5, 3 make two loops, and 6 is off the front
two_loops : linked_loops 7 (4 ∷ 5 ∷ 0 ∷ 1 ∷ 2 ∷ 3 ∷ off ∷ []) (2 ∷ 3 ∷ 4 ∷ 5 ∷ 0 ∷ 1 ∷ off ∷ []) ≡ (0 ∷ 4 ∷ 2 ∷ []) ∷ (1 ∷ 5 ∷ 3 ∷ []) ∷ []
unfolding linked_loops links_sound are_paired links_back any_up long_loops add_loop for_up walk_by prepend link_of
two_loops = refl

-- one bad link anywhere, here that of node 3, which is on no loop, empties every loop
one_bad_link : linked_loops 4 (1 ∷ 2 ∷ 0 ∷ off ∷ []) (2 ∷ 0 ∷ 1 ∷ 0 ∷ []) ≡ []
unfolding linked_loops links_sound are_paired links_back any_up long_loops add_loop for_up walk_by prepend link_of
one_bad_link = refl

-- so does a link out of range, and a link that isn't answered
out_of_range : linked_loops 3 (1 ∷ 2 ∷ 3 ∷ []) (2 ∷ 0 ∷ 1 ∷ []) ≡ []
unfolding linked_loops links_sound are_paired links_back any_up long_loops add_loop for_up walk_by prepend link_of
out_of_range = refl

not_inverse : linked_loops 3 (1 ∷ 2 ∷ 0 ∷ []) (1 ∷ 2 ∷ 0 ∷ []) ≡ []
unfolding linked_loops links_sound are_paired links_back any_up long_loops add_loop for_up walk_by prepend link_of
not_inverse = refl

-- a chain that is open isn't listed
open_chain : linked_loops 2 (1 ∷ off ∷ []) (off ∷ 0 ∷ []) ≡ []
unfolding linked_loops links_sound are_paired links_back any_up long_loops add_loop for_up walk_by prepend link_of
open_chain = refl

-- nor are loops of one node and of two
one_node_lem : linked_loops 1 (0 ∷ []) (0 ∷ []) ≡ []
unfolding linked_loops links_sound are_paired links_back any_up long_loops add_loop for_up walk_by prepend link_of
one_node_lem = refl

two_nodes : linked_loops 2 (1 ∷ 0 ∷ []) (1 ∷ 0 ∷ []) ≡ []
unfolding linked_loops links_sound are_paired links_back any_up long_loops add_loop for_up walk_by prepend link_of
two_nodes = refl

-- where a list of links is shorter than the nodes, what is missing is off; past the nodes nothing is looked at
short_links : linked_loops 4 (1 ∷ 2 ∷ 0 ∷ []) (2 ∷ 0 ∷ 1 ∷ []) ≡ (0 ∷ 1 ∷ 2 ∷ []) ∷ []
unfolding linked_loops links_sound are_paired links_back any_up long_loops add_loop for_up walk_by prepend link_of
short_links = refl

long_links : linked_loops 3 (1 ∷ 2 ∷ 0 ∷ 9 ∷ []) (2 ∷ 0 ∷ 1 ∷ 0 ∷ []) ≡ (0 ∷ 1 ∷ 2 ∷ []) ∷ []
unfolding linked_loops links_sound are_paired links_back any_up long_loops add_loop for_up walk_by prepend link_of
long_links = refl

-- a loop on the first places; with one place less 14, and the list as it was
fits : read_loop 3 (1 ∷ 2 ∷ 0 ∷ []) (2 ∷ 0 ∷ 1 ∷ []) 0 (7 ∷ 7 ∷ 7 ∷ 7 ∷ []) ≡ loop_reading (Ok 3) (0 ∷ 1 ∷ 2 ∷ 7 ∷ [])
unfolding read_loop read_into overlay loop_numbered linked_loops links_sound are_paired links_back any_up long_loops add_loop for_up walk_by prepend link_of
fits = refl

too_short : read_loop 3 (1 ∷ 2 ∷ 0 ∷ []) (2 ∷ 0 ∷ 1 ∷ []) 0 (7 ∷ 7 ∷ []) ≡ loop_reading (Err 14) (7 ∷ 7 ∷ [])
unfolding read_loop read_into overlay loop_numbered linked_loops links_sound are_paired links_back any_up long_loops add_loop for_up walk_by prepend link_of
too_short = refl

-- past the loops listed an empty one, for which no place is too few
past_listed : read_loop 3 (1 ∷ 2 ∷ 0 ∷ []) (2 ∷ 0 ∷ 1 ∷ []) 7 [] ≡ loop_reading (Ok 0) []
unfolding read_loop read_into overlay loop_numbered linked_loops links_sound are_paired links_back any_up long_loops add_loop for_up walk_by prepend link_of
past_listed = refl
