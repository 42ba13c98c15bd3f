-- The part of a state that an attempt reads, as it is lent to the code, and what the code asks of it. Definitions only.
use Rattle.std.specs.Prelude.{List, [], ℕ, ◌*◌, ◌≤◌, length, Float}
use Rattle.index_pools.specs.Pool.{Indexed}
use Rattle.field_direction.specs.declared.Grid.{Grid}
use Rattle.field_direction.specs.Cells.{FieldLent}
use Rattle.front.specs.declared.Counts.{Counts}
use Rattle.front.specs.declared.Mesh.{Mesh}
use Rattle.front.specs.State.{State, counted}
use Rattle.paving.specs.declared.Surroundings.{Surroundings}
use Rattle.paving_indexed.specs.declared.Pools.{Pools}
use Rattle.paving_indexed.specs.Rects.{node_rects, edge_rects}

-- ---- states with the lists that are read, the others empty

abbrev pub seen_state : List Float → List Float → List ℕ → List ℕ → List ℕ → Counts → State
seen_state xs ys next prev edges counts =
    record { xs = xs; ys = ys; next = next; prev = prev; snapshot = []; quads = []; edges = edges; counts = counts }

-- what an attempt reads of a state
abbrev pub seen_of : State → State
seen_of s = seen_state s.xs s.ys s.next s.prev s.edges s.counts

-- nodes alone
abbrev pub seen_nodes : List Float → List Float → Counts → State
seen_nodes xs ys counts = seen_state xs ys [] [] [] counts

-- coordinates alone
abbrev pub seen_points : List Float → List Float → State
seen_points xs ys = seen_nodes xs ys (counted 0 0 0 0)

-- nodes and edges
abbrev pub seen_edges : List Float → List Float → List ℕ → Counts → State
seen_edges xs ys edges counts = seen_state xs ys [] [] edges counts

-- points, and the links of so many nodes
abbrev pub seen_links : List Float → List Float → List ℕ → List ℕ → ℕ → State
seen_links xs ys next prev nodes = seen_state xs ys next prev [] (counted nodes 0 0 0)

-- ---- what the code asks

-- two new nodes have numbers, and the links of the nodes counted are lent
pub record LinksLent (next prev : List ℕ) (nodes : ℕ) : Type 0 where
  pub nodes_few : nodes ≤ 4294967294
  pub next_fit : nodes ≤ length next
  pub prev_fit : nodes ≤ length prev

-- the nodes counted are filed
pub record NodesLent (size : Float) (xs ys : List Float) (node_pool : List ℕ) (counts : Counts) : Type 0 where
  pub filed : Indexed node_pool (node_rects size xs ys) counts.nodes

-- the first n edges are lent and filed
pub record EdgesIndexed (size : Float) (xs ys : List Float) (edges edge_pool : List ℕ) (n : ℕ) : Type 0 where
  pub edges_fit : 2 * n ≤ length edges
  pub filed : Indexed edge_pool (edge_rects size xs ys edges) n

-- the edges counted are, and two new nodes have numbers
pub record EdgesLent (size : Float) (xs ys : List Float) (edges edge_pool : List ℕ) (counts : Counts) : Type 0 where
  pub nodes_few : counts.nodes ≤ 4294967294
  pub indexed : EdgesIndexed size xs ys edges edge_pool counts.edges

-- and so are the nodes
pub record QuadLent (size : Float) (xs ys : List Float) (edges node_pool edge_pool : List ℕ) (counts : Counts) : Type 0 where
  pub nodes : NodesLent size xs ys node_pool counts
  pub within : EdgesLent size xs ys edges edge_pool counts

-- and the links of the nodes counted are lent
pub record AttemptLent (size : Float) (xs ys : List Float) (next prev edges node_pool edge_pool : List ℕ) (counts : Counts) : Type 0 where
  pub quad : QuadLent size xs ys edges node_pool edge_pool counts
  pub next_fit : counts.nodes ≤ length next
  pub prev_fit : counts.nodes ≤ length prev

-- and so is the field
pub record TryLent (g : Grid) (values : List Float) (size : Float) (xs ys : List Float)
    (next prev edges node_pool edge_pool : List ℕ) (counts : Counts) : Type 0 where
  pub attempt : AttemptLent size xs ys next prev edges node_pool edge_pool counts
  pub field : FieldLent g values

-- ---- what the code asks, of surroundings, a mesh and pools

abbrev pub AttemptLentIn : Surroundings → Mesh → Pools → Type 0
AttemptLentIn a m p =
    AttemptLent a.size m.xs.now m.ys.now m.next.now m.prev.now m.edges.now p.nodes.now p.edges.now m.counts

abbrev pub TryLentIn : Surroundings → Mesh → Pools → Type 0
TryLentIn a m p =
    TryLent a.field.grid a.field.values.now a.size m.xs.now m.ys.now m.next.now m.prev.now m.edges.now p.nodes.now p.edges.now
    m.counts
