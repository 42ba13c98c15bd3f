-- The state of a paving as it is lent, and its elementary changes: `push_node`, `add_front`, `remove_front`, `add_mesh_edge` of
-- src/alt_crossfield.rs. Definitions only.
use Rattle.std.specs.Prelude.{Bool, ◌&&◌, cond, List, ℕ, ◌+◌, ◌-◌, ◌*◌, ◌/◌, min, max, eqb, length, get_or, set, Float}
use Rattle.std.specs.Float.{nan}
use Rattle.laws.specs.Loop.{any_up}
use Rattle.topology.specs.Links.{off, link_of}
use Rattle.outline.specs.declared.Point.{Point}
use Rattle.outline.specs.Outline.{point}
use Rattle.front.specs.declared.Counts.{Counts}

-- The lent lists, each of a fixed length, and the counts. Node i is (xs[i], ys[i]); next and prev hold `off` for a node off the front; snapshot holds
-- next as it was when the pass began.
-- Quad k is quads[4k], .., quads[4k + 3]: a, b, d, c. Edge k is edges[2k], edges[2k + 1], the smaller id first. Places past the counts keep their contents.
pub record State : Type 0 where
  pub xs : List Float
  pub ys : List Float
  pub next : List ℕ
  pub prev : List ℕ
  pub snapshot : List ℕ
  pub quads : List ℕ
  pub edges : List ℕ
  pub counts : Counts

-- The state over the lists as they are lent. The snapshot is among them, though a placing only counts its places: so a pass, which lends all
-- seven lists, and what it calls speak of one state.
abbrev pub state_of : List Float → List Float → List ℕ → List ℕ → List ℕ → List ℕ → List ℕ → Counts → State
state_of xs ys next prev snapshot quads edges counts =
    record { xs = xs; ys = ys; next = next; prev = prev; snapshot = snapshot; quads = quads; edges = edges; counts = counts }

abbrev pub counted : ℕ → ℕ → ℕ → ℕ → Counts
counted nodes quads edges front = record { nodes = nodes; quads = quads; edges = edges; front = front }

-- ---- the places lent: of several lists the one with the fewest counts

-- of so many places of the lists that hold a number a node
abbrev pub fewest : ℕ → ℕ → ℕ → ℕ → ℕ → ℕ
fewest xs ys next prev snapshot = min (min (min xs ys) (min next prev)) snapshot

-- node places past this many count as not lent
abbrev pub most_nodes : ℕ
most_nodes = 4294967294

unfoldable pub node_places : State → ℕ
node_places s = min (fewest (length s.xs) (length s.ys) (length s.next) (length s.prev) (length s.snapshot)) most_nodes

unfoldable pub quad_places : State → ℕ
quad_places s = length s.quads / 4

unfoldable pub edge_places : State → ℕ
edge_places s = length s.edges / 2

-- ---- reading

-- `point`: node id's coordinates
unfoldable pub node_in : List Float → List Float → ℕ → Point
node_in xs ys id = point (get_or xs id nan) (get_or ys id nan)

abbrev pub node : State → ℕ → Point
node s id = node_in s.xs s.ys id

-- `next.get(&u)` and `prev.get(&v)`, with `off` for None
abbrev pub next_of : State → ℕ → ℕ
next_of s u = link_of s.counts.nodes s.next u

abbrev pub prev_of : State → ℕ → ℕ
prev_of s v = link_of s.counts.nodes s.prev v

abbrev pub edge_from : State → ℕ → ℕ
edge_from s k = get_or s.edges (2 * k) 0

abbrev pub edge_to : State → ℕ → ℕ
edge_to s k = get_or s.edges (2 * k + 1) 0

-- edge k of a list of edges joins u and v, u the smaller
abbrev pub edge_is : List ℕ → ℕ → ℕ → ℕ → Bool
edge_is edges u v k = eqb (get_or edges (2 * k) 0) u && eqb (get_or edges (2 * k + 1) 0) v

-- one of the first n edges of the list joins u and v
abbrev pub edge_in : List ℕ → ℕ → ℕ → ℕ → Bool
edge_in edges n u v = any_up n (edge_is edges (min u v) (max u v))

-- `edge_set` has the edge between u and v
unfoldable pub has_edge : State → ℕ → ℕ → Bool
has_edge s u v = edge_in s.edges s.counts.edges u v

-- the ids of quad a b d c
pub record Quad : Type 0 where
  pub a : ℕ
  pub b : ℕ
  pub d : ℕ
  pub c : ℕ

-- quad k as it is answered
unfoldable pub quad_at : State → ℕ → Quad
quad_at s k =
    record { a = get_or s.quads (4 * k) 0; b = get_or s.quads (4 * k + 1) 0; d = get_or s.quads (4 * k + 2) 0; c = get_or s.quads (4 * k + 3) 0 }

-- ---- elementary changes

-- `push_node`: the new node is off the front, whatever the lent lists held in its place
unfoldable pub push_node : Point → State → State
push_node p s =
    let n = s.counts.nodes in
    record {
      xs = set s.xs n p.x;
      ys = set s.ys n p.y;
      next = set s.next n off;
      prev = set s.prev n off;
      snapshot = s.snapshot;
      quads = s.quads;
      edges = s.edges;
      counts = counted (n + 1) s.counts.quads s.counts.edges s.counts.front;
    }

-- the same state with other links and another count of front edges
abbrev pub with_front : State → List ℕ → List ℕ → ℕ → State
with_front s next prev front =
    record {
      xs = s.xs;
      ys = s.ys;
      next = next;
      prev = prev;
      snapshot = s.snapshot;
      quads = s.quads;
      edges = s.edges;
      counts = counted s.counts.nodes s.counts.quads s.counts.edges front;
    }

-- `add_front`: the count grows where u had no successor
unfoldable pub add_front : ℕ → ℕ → State → State
add_front u v s = with_front s (set s.next u v) (set s.prev v u) (s.counts.front + cond (eqb (next_of s u) off) 1 0)

-- `remove_front`: nothing, where v is not u's successor
unfoldable pub remove_front : ℕ → ℕ → State → State
remove_front u v s = cond (eqb (next_of s u) v) (with_front s (set s.next u off) (set s.prev v off) (s.counts.front - 1)) s

-- the same state with one edge more
unfoldable pub push_edge : ℕ → ℕ → State → State
push_edge u v s =
    let n = s.counts.edges in
    record {
      xs = s.xs;
      ys = s.ys;
      next = s.next;
      prev = s.prev;
      snapshot = s.snapshot;
      quads = s.quads;
      edges = set (set s.edges (2 * n) u) (2 * n + 1) v;
      counts = counted s.counts.nodes s.counts.quads (n + 1) s.counts.front;
    }

-- `add_mesh_edge`: nothing, where the edge is there
unfoldable pub add_edge : ℕ → ℕ → State → State
add_edge u v s = cond (has_edge s u v) s (push_edge (min u v) (max u v) s)

-- `quads.push([a, b, d, c])`
unfoldable pub push_quad : ℕ → ℕ → ℕ → ℕ → State → State
push_quad a b d c s =
    let k = s.counts.quads in
    record {
      xs = s.xs;
      ys = s.ys;
      next = s.next;
      prev = s.prev;
      snapshot = s.snapshot;
      quads = set (set (set (set s.quads (4 * k) a) (4 * k + 1) b) (4 * k + 2) d) (4 * k + 3) c;
      edges = s.edges;
      counts = counted s.counts.nodes (k + 1) s.counts.edges s.counts.front;
    }

-- the same lists with no node, quad or edge
unfoldable pub cleared : State → State
cleared s =
    record {
      xs = s.xs;
      ys = s.ys;
      next = s.next;
      prev = s.prev;
      snapshot = s.snapshot;
      quads = s.quads;
      edges = s.edges;
      counts = counted 0 0 0 0;
    }
