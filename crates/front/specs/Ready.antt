-- When a quad can be placed: the far corners are chosen as the reference chooses them, in a sound state whose mesh edges are known. And what it
-- means that the quad fits the places lent.
use Rattle.std.specs.Prelude.{ℕ, ◌+◌, ◌<◌, ◌≤◌, List, ◌≡◌, true, false, ◌≢◌, ltb}
use Rattle.std.proofs.Common.{ltb-false}
use Rattle.laws.specs.Tests.{neither}
use Rattle.topology.specs.Links.{off}
use Rattle.front.specs.declared.Corner.{Corner}
use Rattle.front.specs.declared.Corner.TheVariants.{Reused, Fresh}
use Rattle.front.specs.State.{State, next_of, prev_of, edge_from, edge_to, has_edge, node_places, quad_places, edge_places}
use Rattle.front.specs.Place.{added, id_c, id_d, edges_added, is_full}
use Rattle.front.specs.Sound.{Sound}

-- ---- definitions

-- a reused corner is the neighbour v, which is on the front and not the edge's other end
abbrev pub Chosen : Corner → ℕ → ℕ → Type 0
Chosen (Reused id) other v = (v ≡ id) × (id ≢ off) × (id ≢ other)
Chosen (Fresh x y) other v = Unit {0}

-- the quad a, b, d, c stands on the front edge a to b of s
pub record Choice (s : State) (a b : ℕ) (c d : Corner) : Type 0 where
  pub edge : next_of s a ≡ b
  pub node : b ≢ off
  pub chosen_c : Chosen c b (prev_of s a)
  pub chosen_d : Chosen d a (next_of s b)
  pub apart : id_c s c ≢ id_d s c d

-- each mesh edge of s is stored with the smaller id first, and joins two of the first n nodes
abbrev pub Joined : ℕ → State → Type 0
Joined n s = (k : ℕ) → k < s.counts.edges → (edge_from s k < edge_to s k) × (edge_to s k < n)

-- the mesh edges of s are known: every front edge is one
pub record Known (s : State) : Type 0 where
  pub fronts : (u v : ℕ) → v ≢ off → next_of s u ≡ v → has_edge s u v ≡ true
  pub joined : Joined s.counts.nodes s

-- the quad can be placed: what a run keeps, and what its checks have shown
pub record Ready (s : State) (a b : ℕ) (c d : Corner) : Type 0 where
  pub sampled : ℕ
  pub loops : List (List ℕ)
  pub sound : Sound sampled s loops
  pub known : Known s
  pub choice : Choice s a b c d

-- the quad fits the places lent
pub record Fits (s : State) (a b : ℕ) (c d : Corner) : Type 0 where
  pub nodes_fit : s.counts.nodes + added c + added d ≤ node_places s
  pub quads_fit : s.counts.quads + 1 ≤ quad_places s
  pub edges_fit : s.counts.edges + edges_added s a b (id_d s c d) (id_c s c) ≤ edge_places s

-- ---- laws

pub room_fits : (s : State) (a b : ℕ) (c d : Corner) → is_full s a b c d ≡ false → Fits s a b c d
unfolding is_full
room_fits s a b c d e =
    let nodes = neither (ltb (node_places s) (s.counts.nodes + added c + added d)) _ e in
    let quads = neither (ltb (quad_places s) (s.counts.quads + 1)) _ nodes.1 in
    record {
      nodes_fit = ltb-false _ _ nodes.0;
      quads_fit = ltb-false _ _ quads.0;
      edges_fit = ltb-false _ _ quads.1;
    }
