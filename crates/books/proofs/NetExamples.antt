-- The figures of the edges worked out on their smallest input, the unit square at size 1: one quad, and a loop of two is left, which nets nothing.
use Rattle.std.specs.Prelude.{List, [], ◌∷◌, ◌≡◌, refl, pos, negsuc}
use Rattle.topology.specs.Balance.{difference}
use Rattle.books.specs.Book.{Edge, edge, Quad, quad_edges}
use Rattle.books.specs.Net.{count_edge, net}

abbrev start : List Edge
start = edge 0 1 ∷ edge 1 2 ∷ edge 2 3 ∷ edge 3 0 ∷ []

abbrev quad : Quad
quad = record { a = 0; b = 1; d = 2; c = 3 }

abbrev left : List Edge
left = edge 3 2 ∷ edge 2 3 ∷ []

-- from 0 to 1: once, and never back; from 2 to 0 never
pub net_one_way : ((net 0 1 start) ≡ pos 1) × ((net 1 0 start) ≡ negsuc 0) × (net 2 0 start ≡ pos 0)
unfolding net count_edge difference
net_one_way = (refl, refl, refl)

-- the quad has all of it, also from 2 to 3, where the front left has one step each way
pub paved_shut : (net 0 1 (quad_edges quad) ≡ pos 1) × (net 2 3 (quad_edges quad) ≡ pos 1) × (net 2 3 left ≡ pos 0) × (net 2 3 start ≡ pos 1)
unfolding net count_edge difference quad_edges
paved_shut = (refl, refl, refl, refl)

-- any two numbers, also one twice and those of no node
pub no_steps : (net 1 1 start ≡ pos 0) × (net 7 9 start ≡ pos 0)
unfolding net count_edge difference
no_steps = (refl, refl)

-- an edge that stands twice counts twice
pub twice : net 0 1 (edge 0 1 ∷ edge 1 0 ∷ edge 0 1 ∷ edge 0 1 ∷ []) ≡ pos 2
unfolding net count_edge difference
twice = refl
