-- Sampling as the code does it: a ring's edges are written with no search among the edges. Unsearched.antt proves that this is
-- `from_boundary`. Definitions only.
use Rattle.std.specs.Prelude.{List, ◌≡◌, ℕ, ◌+◌, ◌*◌, ◌<◌, ◌≤◌, Float, length}
use Rattle.laws.specs.Loop.{for_up}
use Rattle.topology.specs.Links.{off}
use Rattle.outline.specs.Outline.{Outline, outline_refusal, after, points}
use Rattle.front.specs.declared.Counts.{Counts}
use Rattle.front.specs.declared.Paving.{Paving}
use Rattle.front.specs.declared.Ring.{Ring}
use Rattle.front.specs.Lent.{SameLists}
use Rattle.front.specs.State.{State, state_of, counted}
use Rattle.front.specs.Sampling.{loop_parts, sample_loop, ring_count, ring_at, RingFits, ring_in, split_longest, sampled_count}
use Rattle.front_sampled.specs.Joins.{with_link}
use Rattle.front_boundary.specs.Counting.{even_up}

-- ---- the lists that a function writes, as part of a state

-- the state with these n nodes
abbrev pub with_nodes : State → List Float → List Float → List ℕ → List ℕ → ℕ → State
with_nodes st xs ys next prev n =
    record {
      xs = xs;
      ys = ys;
      next = next;
      prev = prev;
      snapshot = st.snapshot;
      quads = st.quads;
      edges = st.edges;
      counts = counted n st.counts.quads st.counts.edges st.counts.front;
    }

-- the state with these n edges, each of them on the front
abbrev pub with_front_edges : State → List ℕ → List ℕ → List ℕ → ℕ → State
with_front_edges st next prev edges n =
    record {
      xs = st.xs;
      ys = st.ys;
      next = next;
      prev = prev;
      snapshot = st.snapshot;
      quads = st.quads;
      edges = edges;
      counts = counted st.counts.nodes st.counts.quads n n;
    }

-- a state between two loops: n nodes, as many edges, each of them on the front, and no quad
abbrev pub between_loops : List ℕ → List ℕ → List Float → List Float → List ℕ → List ℕ → List ℕ → ℕ → State
between_loops snapshot quads xs ys next prev edges n =
    state_of xs ys next prev snapshot quads edges (counted n 0 n n)

-- a paving's state between two loops, with another snapshot and other quads
abbrev pub between_in : List ℕ → List ℕ → Paving → State
between_in snapshot quads p = between_loops snapshot quads p.xs.now p.ys.now p.next.now p.prev.now p.edges.now p.counts.nodes

-- the state that a paving's lists hold with another snapshot, other quads and other counts
abbrev pub lent_with : Paving → List ℕ → List ℕ → Counts → State
lent_with p snapshot quads k = state_of p.xs.now p.ys.now p.next.now p.prev.now snapshot quads p.edges.now k

-- ---- what the code writes

-- q has the lists that p has, each as long, and the same quads
pub record SameRoom (p q : Paving) : Type 0 where
  pub lists : SameLists p q
  pub xs : length q.xs.now ≡ length p.xs.now
  pub ys : length q.ys.now ≡ length p.ys.now
  pub next : length q.next.now ≡ length p.next.now
  pub prev : length q.prev.now ≡ length p.prev.now
  pub edges : length q.edges.now ≡ length p.edges.now
  pub quads : q.quads.now ≡ p.quads.now

-- q is p with n nodes more, and nothing else is new
pub record MoreNodes (n : ℕ) (p q : Paving) : Type 0 where
  pub places : SameRoom p q
  pub edges : q.edges.now ≡ p.edges.now
  pub counts : q.counts ≡ counted (p.counts.nodes + n) p.counts.quads p.counts.edges p.counts.front

-- n nodes more, which are those that `change` adds, whatever the rest of the state
pub record NodesWritten (n : ℕ) (change : State → State) (p q : Paving) : Type 0 where
  pub more : MoreNodes n p q
  pub state : (st : State) → with_nodes st q.xs.now q.ys.now q.next.now q.prev.now (p.counts.nodes + n)
      ≡ change (with_nodes st p.xs.now p.ys.now p.next.now p.prev.now p.counts.nodes)

-- q is p with n edges more, each of them on the front, and nothing else is new
pub record MoreEdges (n : ℕ) (p q : Paving) : Type 0 where
  pub places : SameRoom p q
  pub xs : q.xs.now ≡ p.xs.now
  pub ys : q.ys.now ≡ p.ys.now
  pub counts : q.counts ≡ counted p.counts.nodes p.counts.quads (p.counts.edges + n) (p.counts.front + n)

-- n edges more, which are those that `change` adds, whatever the rest of the state
pub record EdgesWritten (n : ℕ) (change : State → State) (p q : Paving) : Type 0 where
  pub more : MoreEdges n p q
  pub state : (st : State) → with_front_edges st q.next.now q.prev.now q.edges.now (p.counts.edges + n)
      ≡ change (with_front_edges st p.next.now p.prev.now p.edges.now p.counts.edges)

-- p and q stand between two loops, and q has besides the loop of n nodes that `change` lays
pub record LoopWritten (n : ℕ) (change : State → State) (p q : Paving) : Type 0 where
  pub places : SameRoom p q
  pub counts : q.counts ≡ counted (p.counts.nodes + n) 0 (p.counts.nodes + n) (p.counts.nodes + n)
  pub state : (snapshot quads : List ℕ) → between_in snapshot quads q ≡ change (between_in snapshot quads p)

-- ---- what the code asks

-- n nodes have places
pub record NodeRoom (n : ℕ) (xs ys : List Float) (next prev : List ℕ) : Type 0 where
  pub in_xs : n ≤ length xs
  pub in_ys : n ≤ length ys
  pub in_next : n ≤ length next
  pub in_prev : n ≤ length prev
  pub few : n < off

abbrev pub NodeRoomIn : ℕ → Paving → Type 0
NodeRoomIn n p = NodeRoom n p.xs.now p.ys.now p.next.now p.prev.now

-- the ring's ids are nodes of the paving, which has places for their edges, and each of its edges is on the front
pub record CanLink (r : Ring) (p : Paving) : Type 0 where
  pub fits : RingFits r
  pub in_next : r.base + ring_count r ≤ length p.next.now
  pub in_prev : r.base + ring_count r ≤ length p.prev.now
  pub in_edges : 2 * (p.counts.edges + ring_count r) ≤ length p.edges.now
  pub front : p.counts.front ≡ p.counts.edges

-- n ids from base on
pub record NodesFrom (base n : ℕ) : Type 0 where
  pub some : 0 < n
  pub few : base + n < off

-- a loop has points, and its nodes from base on have places, and as many edges
pub record LoopRoom (s : List Float) (size : Float) (base : ℕ) (xs ys : List Float) (next prev edges : List ℕ) : Type 0 where
  pub some : 0 < points s
  pub nodes : NodeRoom (base + even_up (loop_parts size s)) xs ys next prev
  pub in_edges : 2 * (base + even_up (loop_parts size s)) ≤ length edges

-- the paving stands between two loops, and loop s has room in it
pub record CanLay (s : List Float) (size : Float) (p : Paving) : Type 0 where
  pub room : LoopRoom s size p.counts.nodes p.xs.now p.ys.now p.next.now p.prev.now p.edges.now
  pub counts : p.counts ≡ counted p.counts.nodes 0 p.counts.nodes p.counts.nodes

-- the outline is not refused, and what is sampled has places
pub record CanSample (o : Outline) (size : Float) (xs ys : List Float) (next prev edges : List ℕ) : Type 0 where
  pub unrefused : outline_refusal o ≡ 0
  pub nodes : NodeRoom (sampled_count o size) xs ys next prev
  pub in_edges : 2 * sampled_count o size ≤ length edges

-- ---- a ring

-- each id is joined to the next, the last to the first, whatever the edges are
abbrev pub link_turn : Ring → ℕ → State → State
link_turn r i st = with_link (ring_at r i) (ring_at r (after (ring_count r) i)) st

unfoldable pub link_ring : Ring → State → State
link_ring r st = for_up (ring_count r) (link_turn r) st

-- loop k, whose points are s
unfoldable pub lay_loop : ℕ → List Float → Float → State → State
lay_loop k s size st =
    let t = sample_loop size s st in
    let r = ring_in k st.counts.nodes t in
    link_ring r (split_longest r t)
