-- What the code of `place` stores, list by list. StoreLaws has the theorem that these stores are the state that `place` leaves. Definitions only.
use Rattle.std.specs.Prelude.{ℕ, ◌+◌, ◌-◌, ◌*◌, ◌<◌, ◌≤◌, min, max, List, ◌≡◌, Bool, true, false, ◌||◌, cond, ltb, length, set, Float, Result, Ok, Err}
use Rattle.topology.specs.Links.{off}
use Rattle.front.specs.declared.Counts.{Counts}
use Rattle.front.specs.declared.Corner.{Corner}
use Rattle.front.specs.declared.Corner.TheVariants.{Reused, Fresh}
use Rattle.front.specs.declared.Full.{Full}
use Rattle.front.specs.State.{State, counted, fewest, most_nodes, node_places, quad_places, edge_places, edge_in}
use Rattle.front.specs.Place.{added, place, is_full}

-- ---- the whole

-- what `place` answers: whether it is full
unfoldable pub place_answer : ℕ → ℕ → Corner → Corner → State → Result (Unit {0}) Full
place_answer a b c d s = cond (is_full s a b c d) (Err (record {})) (Ok tt)

-- the state that it leaves: as it was, where it is full
unfoldable pub place_if_room : ℕ → ℕ → Corner → Corner → State → State
place_if_room a b c d s = cond (is_full s a b c d) s (place a b c d s)

-- what `place` ensures: of a quad in s it answers r, and leaves t
pub record PlacesQuad (a b : ℕ) (c d : Corner) (s : State) (r : Result (Unit {0}) Full) (t : State) : Type 0 where
  pub answer : r ≡ place_answer a b c d s
  pub state : t ≡ place_if_room a b c d s

-- ---- the counts

-- a quad with the far corners c and d adds e mesh edges; each new node adds two front edges, and the quad takes two
abbrev pub counts_with_quad : Counts → Corner → Corner → ℕ → Counts
counts_with_quad k c d e =
    counted (k.nodes + (added c + added d)) (k.quads + 1) (k.edges + e) (k.front + 2 * (added c + added d) - 2)

-- n nodes, q quads or e mesh edges are beyond the places lent, where one more list has so many places for nodes; the snapshot isn't asked
unfoldable pub places_exceeded : State → ℕ → ℕ → ℕ → ℕ → Bool
places_exceeded s others n q e =
    ltb (min (fewest (length s.xs) (length s.ys) (length s.next) (length s.prev) others) most_nodes) n || (ltb (quad_places s) q || ltb (edge_places s) e)

-- m nodes, a quad and e mesh edges more are beyond those lent
unfoldable pub is_beyond : State → ℕ → ℕ → Bool
is_beyond s m e =
    ltb (node_places s) (s.counts.nodes + m) || (ltb (quad_places s) (s.counts.quads + 1) || ltb (edge_places s) (s.counts.edges + e))

-- ---- the new nodes

abbrev pub store_x : Corner → ℕ → List Float → List Float
store_x (Reused id) n l = l
store_x (Fresh x y) n l = set l n x

abbrev pub store_y : Corner → ℕ → List Float → List Float
store_y (Reused id) n l = l
store_y (Fresh x y) n l = set l n y

-- ---- the mesh edges

abbrev pub reuses_node : Corner → Bool
reuses_node (Reused id) = true
reuses_node (Fresh x y) = false

-- one of the first n edges joins the far corners. A new corner has no edge yet.
abbrev pub known_across : List ℕ → ℕ → Corner → Corner → Bool
known_across edges n (Reused c) (Reused d) = edge_in edges n d c
known_across edges n (Reused c) (Fresh x y) = false
known_across edges n (Fresh x y) d = false

-- how many edges are stored for one: 1, unless it is known
abbrev pub unless : Bool → ℕ
unless known = cond known 0 1

-- the edge u to v becomes edge n, unless it is known
unfoldable pub store_edge : Bool → ℕ → ℕ → ℕ → List ℕ → List ℕ
store_edge known n u v l = cond known l (set (set l (2 * n) (min u v)) (2 * n + 1) (max u v))

-- how many edges a quad adds: a to b is known, and so are the sides at reused corners
unfoldable pub new_edges : Bool → Corner → Corner → ℕ
new_edges across c d = unless (reuses_node d) + unless across + unless (reuses_node c)

-- the edges b to d, d to c and c to a, from place n on
unfoldable pub store_edges : Bool → Corner → Corner → ℕ → ℕ → ℕ → ℕ → ℕ → List ℕ → List ℕ
store_edges across c d a b id_c id_d n l =
    let n1 = n + unless (reuses_node d) in
    let n2 = n1 + unless across in
    store_edge (reuses_node c) n2 id_c a (store_edge across n1 id_d id_c (store_edge (reuses_node d) n b id_d l))

-- ---- the quad

abbrev pub store_quad : ℕ → ℕ → ℕ → ℕ → ℕ → List ℕ → List ℕ
store_quad k a b d c l = set (set (set (set l (4 * k) a) (4 * k + 1) b) (4 * k + 2) d) (4 * k + 3) c

-- ---- the links

-- beside a reused corner the edge's end x leaves the front; beside a new one u gets the link v
abbrev pub store_side : Corner → ℕ → ℕ → ℕ → List ℕ → List ℕ
store_side (Reused id) x u v l = set l x off
store_side (Fresh _ _) x u v l = set l u v

unfoldable pub store_next : Corner → Corner → ℕ → ℕ → ℕ → ℕ → List ℕ → List ℕ
store_next c d a b id_c id_d l = store_side d b id_d b (set (store_side c a a id_c l) id_c id_d)

unfoldable pub store_prev : Corner → Corner → ℕ → ℕ → ℕ → ℕ → List ℕ → List ℕ
store_prev c d a b id_c id_d l = store_side d b b id_d (set (store_side c a id_c a l) id_d id_c)

-- ---- what the parts require

-- the ids of a quad are below n
pub record Ids (n a b c d : ℕ) : Type 0 where
  pub id_a : a < n
  pub id_b : b < n
  pub id_c_lem : c < n
  pub id_d_lem : d < n

-- the counts after a quad can be written down
pub record Countable (k : Counts) (c d : Corner) (e : ℕ) : Type 0 where
  pub nodes : k.nodes + (added c + added d) ≤ 4294967294
  pub quads : k.quads + 1 < 18446744073709551616
  pub edges : k.edges + e < 18446744073709551616
  pub front : 2 ≤ k.front + 2 * (added c + added d)
  pub fronts : k.front + 2 * (added c + added d) < 18446744073709551616
