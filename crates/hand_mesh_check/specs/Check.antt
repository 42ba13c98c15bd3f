-- Refusal 23, a lent mesh that isn't sound, clause by clause over the lists that each reads; and 24, an edge that isn't on the front. Definitions only.
use Rattle.std.specs.Prelude.{Bool, not, ◌&&◌, ◌||◌, cond, List, [], ℕ, ◌*◌, ltb, leb, eqb, length, get_or, replicate, Float}
use Rattle.std.specs.Float.{nan}
use Rattle.laws.specs.Loop.{any_up, sum_up}
use Rattle.numbers.specs.Float.{bits}
use Rattle.topology.specs.Links.{off, link_of}
use Rattle.field_direction.specs.Direction.{within}
use Rattle.front.specs.declared.Counts.{Counts}
use Rattle.front.specs.declared.Mesh.{Mesh}
use Rattle.front.specs.declared.Paving.{Paving}
use Rattle.front.specs.State.{State, state_of, counted, node_places, quad_places, edge_places}
use Rattle.front.specs.Lent.{paving_state}
use Rattle.paving.specs.Advance.{is_there}

-- a list as long as the given one, with `off` in every place
unfoldable pub all_off : List ℕ → List ℕ
all_off l = replicate (length l) off

-- The state of a mesh as it is lent. No snapshot is lent, since there is no pass; the numbers of the nodes' loops (origins) are, and their places
-- count as node places. So a snapshot of as many places stands in the state, and what the numbers are decides nothing.
abbrev pub lent_state : List Float → List Float → List ℕ → List ℕ → List ℕ → List ℕ → List ℕ → Counts → State
lent_state xs ys next prev origins quads edges k = state_of xs ys next prev (all_off origins) quads edges k

-- that of a mesh that is read, with the numbers of its nodes' loops
abbrev pub lent_in : Mesh → List ℕ → State
lent_in m origins = lent_state m.xs.now m.ys.now m.next.now m.prev.now origins m.quads.now m.edges.now m.counts

-- and that of a paving
abbrev pub lent_paving : Paving → List ℕ → State
lent_paving p origins = paving_state p (all_off origins)

-- ---- 23: the lent mesh isn't sound

-- n nodes, q quads or e edges are beyond the places lent
unfoldable pub beyond_places : State → ℕ → ℕ → ℕ → Bool
beyond_places s n q e = ltb (node_places s) n || (ltb (quad_places s) q || ltb (edge_places s) e)

-- a count is beyond its buffers
abbrev pub counts_beyond : State → Bool
counts_beyond s = beyond_places s s.counts.nodes s.counts.quads s.counts.edges

-- entry i of a list of ids is out of range, where there are n nodes
abbrev pub beyond_nodes : ℕ → List ℕ → ℕ → Bool
beyond_nodes n l i = leb n (get_or l i 0)

-- an id of the quads or of the edges counted is out of range
unfoldable pub ids_beyond : ℕ → List ℕ → ℕ → List ℕ → ℕ → Bool
ids_beyond n quads q edges e = any_up (4 * q) (beyond_nodes n quads) || any_up (2 * e) (beyond_nodes n edges)

-- the link of node u is there, and is out of range or isn't answered by the link back
unfoldable pub link_unsound : ℕ → List ℕ → List ℕ → ℕ → Bool
link_unsound n links back u =
    let v = link_of n links u in
    not (eqb v off) && (leb n v || not (eqb (link_of n back v) u))

-- how many of the first n nodes have a link
abbrev pub is_linked : ℕ → List ℕ → ℕ → ℕ
is_linked n links u = cond (eqb (link_of n links u) off) 0 1

unfoldable pub link_count : ℕ → List ℕ → ℕ
link_count n links = sum_up n (is_linked n links)

-- the links of the first n nodes aren't inverse to each other, or aren't as many as the front edges counted
unfoldable pub front_unsound : ℕ → List ℕ → List ℕ → ℕ → Bool
front_unsound n next prev f =
    any_up n (link_unsound n next prev) || (any_up n (link_unsound n prev next) || not (eqb (link_count n next) f))

-- 1,001
abbrev pub farthest_node : Float
farthest_node = bits 0x408f_4800_0000_0000

-- a coordinate isn't finite, or is beyond 1,001 either way
unfoldable pub coordinate_unsound : Float → Bool
coordinate_unsound x = not (within farthest_node x)

abbrev pub node_unsound : List Float → List Float → ℕ → Bool
node_unsound xs ys i = coordinate_unsound (get_or xs i nan) || coordinate_unsound (get_or ys i nan)

unfoldable pub mesh_unsound : State → Bool
mesh_unsound s =
    let n = s.counts.nodes in
    counts_beyond s || (ids_beyond n s.quads s.counts.quads s.edges s.counts.edges
    || (front_unsound n s.next s.prev s.counts.front || any_up n (node_unsound s.xs s.ys)))

unfoldable pub mesh_refusal : State → ℕ
mesh_refusal s = cond (mesh_unsound s) 23 0

-- ---- 24: the edge a to b isn't on the front

unfoldable pub edge_refusal : State → ℕ → ℕ → ℕ
edge_refusal s a b = cond (is_there s a b) 0 24

-- the state that has just the links that 24 reads
abbrev pub links_of : List ℕ → ℕ → State
links_of next n = state_of [] [] next [] [] [] [] (counted n 0 0 0)
