-- `Paving::from_boundary` of src/alt_crossfield.rs: the outline sampled into a front, with refusal 10. Definitions only.
use Rattle.std.specs.Prelude.{Bool, ◌&&◌, ◌||◌, cond, List, ℕ, suc, ◌+◌, ◌-◌, ◌%◌, ◌<◌, max, ltb, eqb, length, Float}
use Rattle.std.specs.Float.Ieee.{lt, unlike}
use Rattle.laws.specs.Loop.{for_up, sum_up}
use Rattle.laws.specs.Tabulate.{tabulate}
use Rattle.numbers.specs.Float.{◌⊕◌, ◌⊖◌, ◌⊗◌, ◌⊘◌, bits, zero_f, two_f, half_f, to_float}
use Rattle.numbers.specs.Whole.{ceil_count}
use Rattle.topology.specs.Links.{off}
use Rattle.outline.specs.declared.Point.{Point}
use Rattle.outline.specs.Outline.{Outline, loop_at, points, point, point_at, point_after, after}
use Rattle.geometry.specs.Plane.{distance, area_term}
use Rattle.front.specs.declared.Ring.{Ring}
use Rattle.front.specs.State.{State, node_places, edge_places, node_in, push_node, add_front, add_edge, cleared}

-- ---- how many

-- 1.05
abbrev pub stretch : Float
stretch = bits 0x3ff0_cccc_cccc_cccd

-- each segment is cut into max(ceil(length/(1.05 × size)), 1) parts
unfoldable pub parts_of : Float → Float → ℕ
parts_of size length = max (ceil_count (length ⊘ (stretch ⊗ size))) 1

-- the parts of segment i of a loop
unfoldable pub parts : Float → List Float → ℕ → ℕ
parts size s i = parts_of size (distance (point_at s i) (point_after s i))

-- the points of a loop before it is made even
unfoldable pub loop_parts : Float → List Float → ℕ
loop_parts size s = sum_up (points s) (parts size s)

-- the nodes of loop k: an odd loop gets one more
unfoldable pub loop_nodes : Outline → Float → ℕ → ℕ
loop_nodes o size k = loop_parts size (loop_at o k) + loop_parts size (loop_at o k) % 2

-- the outer loop and the holes
abbrev pub loop_count : Outline → ℕ
loop_count o = suc (length o.lens)

-- the points sampled
unfoldable pub sampled_count : Outline → Float → ℕ
sampled_count o size = sum_up (loop_count o) (loop_nodes o size)

-- 10: the sampled outline has more nodes than there are node places or edge places
abbrev pub sampled_refusal : Outline → Float → ℕ → ℕ → ℕ
sampled_refusal o size nodes edges = cond (ltb nodes (sampled_count o size) || ltb edges (sampled_count o size)) 10 0

-- of those lent
unfoldable pub front_refusal : Outline → Float → State → ℕ
front_refusal o size s = sampled_refusal o size (node_places s) (edge_places s)

-- ---- the nodes of a loop

-- point k of n on the segment a to b
unfoldable pub cut : Point → Point → ℕ → ℕ → Point
cut a b n k =
    let t = to_float k ⊘ to_float n in
    point (a.x ⊕ t ⊗ (b.x ⊖ a.x)) (a.y ⊕ t ⊗ (b.y ⊖ a.y))

abbrev pub cut_turn : Point → Point → ℕ → ℕ → State → State
cut_turn a b n k st = push_node (cut a b n k) st

unfoldable pub sample_segment : Point → Point → ℕ → State → State
sample_segment a b n st = for_up n (cut_turn a b n) st

abbrev pub sample_turn : Float → List Float → ℕ → State → State
sample_turn size s i st = sample_segment (point_at s i) (point_after s i) (parts size s i) st

unfoldable pub sample_loop : Float → List Float → State → State
sample_loop size s st = for_up (points s) (sample_turn size s) st

-- ---- the ring of a loop's nodes: `ids`

-- `signed_area` of n nodes from base on, in the order sampled
abbrev pub area_turn : List Float → List Float → ℕ → ℕ → ℕ → Float → Float
area_turn xs ys base n i sum = sum ⊕ area_term (node_in xs ys (base + i)) (node_in xs ys (base + after n i))

unfoldable pub signed_area : List Float → List Float → ℕ → ℕ → Float
signed_area xs ys base n = half_f ⊗ for_up n (area_turn xs ys base n) zero_f

-- id k of n from base on, backwards where turned
abbrev pub ordered_at : ℕ → ℕ → Bool → ℕ → ℕ
ordered_at base n turned k = cond turned (base + (n - 1 - k)) (base + k)

-- the length of the edge from id k to the next one
unfoldable pub edge_length : List Float → List Float → ℕ → ℕ → Bool → ℕ → Float
edge_length xs ys base n turned k =
    distance (node_in xs ys (ordered_at base n turned k)) (node_in xs ys (ordered_at base n turned (after n k)))

-- the longest edge, the last of equals
abbrev pub longest_turn : List Float → List Float → ℕ → ℕ → Bool → ℕ → ℕ → ℕ
longest_turn xs ys base n turned k best = cond (lt (edge_length xs ys base n turned k) (edge_length xs ys base n turned best)) best k

unfoldable pub longest_edge : List Float → List Float → ℕ → ℕ → Bool → ℕ
longest_edge xs ys base n turned = for_up n (longest_turn xs ys base n turned) 0

-- the outer loop runs with float area above 0, holes the other way; an odd loop is split at its longest edge
unfoldable pub ring_of : ℕ → List Float → List Float → ℕ → ℕ → Ring
ring_of k xs ys base n =
    let turned = unlike (lt zero_f (signed_area xs ys base n)) (eqb k 0) in
    record { base = base; count = n; turned = turned; split = eqb (n % 2) 1; longest = longest_edge xs ys base n turned }

-- how many ids the ring has
abbrev pub ring_count : Ring → ℕ
ring_count r = r.count + cond r.split 1 0

-- the node sampled as number k of the ring
abbrev pub sampled_at : Ring → ℕ → ℕ
sampled_at r k = ordered_at r.base r.count r.turned k

-- `ids[k]`: after the longest edge's first node stands the midpoint, the last node of the loop
unfoldable pub ring_at : Ring → ℕ → ℕ
ring_at r k =
    cond (r.split && ltb r.longest k) (cond (eqb k (r.longest + 1)) (r.base + r.count) (sampled_at r (k - 1))) (sampled_at r k)

-- the ring's longest edge is one of its edges, and its ids are nodes
pub record RingFits (r : Ring) : Type 0 where
  pub longest : r.longest < r.count
  pub few : r.base + ring_count r < off

-- the midpoint of the longest edge
unfoldable pub midpoint : List Float → List Float → Ring → Point
midpoint xs ys r =
    let a = node_in xs ys (sampled_at r r.longest) in
    let b = node_in xs ys (sampled_at r (after r.count r.longest)) in
    point ((a.x ⊕ b.x) ⊘ two_f) ((a.y ⊕ b.y) ⊘ two_f)

-- an odd loop gets the midpoint of its longest edge
unfoldable pub split_longest : Ring → State → State
split_longest r st = cond r.split (push_node (midpoint st.xs st.ys r) st) st

-- ---- the front

-- each id is joined to the next, the last to the first
abbrev pub join_turn : Ring → ℕ → State → State
join_turn r i st =
    let u = ring_at r i in
    let v = ring_at r (after (ring_count r) i) in
    add_edge u v (add_front u v st)

unfoldable pub join_ring : Ring → State → State
join_ring r st = for_up (ring_count r) (join_turn r) st

-- the ring of loop k, of which n nodes were sampled from base on
abbrev pub ring_in : ℕ → ℕ → State → Ring
ring_in k base st = ring_of k st.xs st.ys base (st.counts.nodes - base)

-- loop k, which begins at node `base`
unfoldable pub close_loop : ℕ → ℕ → State → State
close_loop k base st = join_ring (ring_in k base st) (split_longest (ring_in k base st) st)

unfoldable pub boundary_turn : Outline → Float → ℕ → State → State
boundary_turn o size k st = close_loop k st.counts.nodes (sample_loop size (loop_at o k) st)

-- `from_boundary`, in the lists lent
unfoldable pub from_boundary : Outline → Float → State → State
from_boundary o size lent = for_up (loop_count o) (boundary_turn o size) (cleared lent)

-- ---- the loops of the front, each as the list of its ids

-- `ids`
unfoldable pub ring_ids : Ring → List ℕ
ring_ids r = tabulate (ring_count r) (ring_at r)

-- the ids of loop k, where st is the state before it
abbrev pub loop_ids : Outline → Float → ℕ → State → List ℕ
loop_ids o size k st = ring_ids (ring_in k st.counts.nodes (sample_loop size (loop_at o k) st))

-- the loops of the front that `from_boundary` leaves
unfoldable pub boundary_loops : Outline → Float → State → List (List ℕ)
boundary_loops o size lent = tabulate (loop_count o) (λ k. loop_ids o size k (for_up k (boundary_turn o size) (cleared lent)))
