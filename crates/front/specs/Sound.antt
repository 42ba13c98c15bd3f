-- What holds of a state of a paving, and how an earlier and a later state of one run differ. Definitions only.
use Rattle.std.specs.Prelude.{◌≡◌, List, ℕ, ◌+◌, ◌*◌, ◌≤◌, length, take, drop}
use Rattle.topology.specs.Sums.{front_sum, one}
use Rattle.topology.specs.Front.{FrontOf}
use Rattle.front.specs.State.{State, node_places, quad_places, edge_places}

-- n points were sampled, and ls are the loops of the front
pub record Sound (n : ℕ) (s : State) (ls : List (List ℕ)) : Type 0 where
  -- the links are those of the loops, inverse to each other; each loop is even
  pub front : FrontOf s.counts.nodes s.next s.prev ls
  pub edges : s.counts.front ≡ front_sum one ls
  -- front edges plus twice the quads plus the points sampled make twice the nodes
  pub counts : s.counts.front + 2 * s.counts.quads + n ≡ 2 * s.counts.nodes
  pub nodes_fit : s.counts.nodes ≤ node_places s
  pub quads_fit : s.counts.quads ≤ quad_places s
  pub edges_fit : s.counts.edges ≤ edge_places s

-- b is a but for places from m up to n
pub record Extends {A : Type 0} (m n : ℕ) (a b : List A) : Type 0 where
  pub long : length b ≡ length a
  pub before : take m b ≡ take m a
  pub past : drop n b ≡ drop n a

-- t comes after s in one run: nodes, quads and edges are only added, and places past t's counts keep their contents
pub record Frame (s t : State) : Type 0 where
  pub nodes : s.counts.nodes ≤ t.counts.nodes
  pub quads : s.counts.quads ≤ t.counts.quads
  pub edges : s.counts.edges ≤ t.counts.edges
  pub xs : Extends s.counts.nodes t.counts.nodes s.xs t.xs
  pub ys : Extends s.counts.nodes t.counts.nodes s.ys t.ys
  pub next : Extends 0 t.counts.nodes s.next t.next
  pub prev : Extends 0 t.counts.nodes s.prev t.prev
  pub snapshot : Extends 0 t.counts.nodes s.snapshot t.snapshot
  pub quad_list : Extends (4 * s.counts.quads) (4 * t.counts.quads) s.quads t.quads
  pub edge_list : Extends (2 * s.counts.edges) (2 * t.counts.edges) s.edges t.edges
