-- What the code of a placing asks of the lists. Definitions only.
use Rattle.std.specs.Prelude.{List, ℕ, ◌+◌, ◌*◌, ◌≤◌, length, Float}
use Rattle.front.specs.declared.Counts.{Counts}
use Rattle.front.specs.declared.Corner.{Corner}
use Rattle.front.specs.declared.NewQuad.{NewQuad}
use Rattle.front.specs.declared.Paving.{Paving}
use Rattle.front.specs.State.{add_edge}
use Rattle.front.specs.Place.{added, corner_id, add_edges}
use Rattle.front.specs.Stores.{Ids}
use Rattle.hand_mesh_changes.specs.Parts.{edges_in, NodesFit}

-- a quad on the edge a to b has its places, and its ids are in range
pub record QuadRoom (xs ys : List Float) (next prev quads edges : List ℕ) (k : Counts) (a b : ℕ) (c d : Corner) : Type 0 where
  pub nodes : NodesFit xs ys next prev (k.nodes + (added c + added d))
  pub quads_fit : 4 * (k.quads + 1) ≤ length quads
  pub edges_fit : 2 * (add_edges a b (corner_id (k.nodes + added c) d) (corner_id k.nodes c) (edges_in edges k.edges)).counts.edges ≤ length edges
  pub ids : Ids (k.nodes + (added c + added d)) a b (corner_id k.nodes c) (corner_id (k.nodes + added c) d)
  pub front : k.front ≤ 4294967294

-- it has them in a paving
abbrev pub QuadFits : Paving → ℕ → ℕ → Corner → Corner → Type 0
QuadFits p = QuadRoom p.xs.now p.ys.now p.next.now p.prev.now p.quads.now p.edges.now p.counts

-- the edges of the quad a, b, d, c fit
abbrev pub EdgesFit : Paving → ℕ → ℕ → ℕ → ℕ → Type 0
EdgesFit p a b d c = (2 * (add_edges a b d c (edges_in p.edges.now p.counts.edges)).counts.edges ≤ length p.edges.now)

-- two of them fit, u to v and v to w
abbrev pub TwoFit : Paving → ℕ → ℕ → ℕ → Type 0
TwoFit p u v w = (2 * (add_edge v w (add_edge u v (edges_in p.edges.now p.counts.edges))).counts.edges ≤ length p.edges.now)

-- its links are those of nodes that are counted, and so are the links back
abbrev pub SidesFit : Paving → NewQuad → Type 0
SidesFit p q = (p.counts.nodes ≤ length p.next.now) × (p.counts.nodes ≤ length p.prev.now) × Ids p.counts.nodes q.a q.b q.id_c q.id_d
