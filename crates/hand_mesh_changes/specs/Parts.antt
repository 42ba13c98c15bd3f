-- The states of a front alone, of mesh edges alone and of nodes alone, of which a placing's changes are computed; what the code asks of the lists, and what it
-- leaves of a paving.
-- Definitions only.
use Rattle.std.specs.Prelude.{List, [], ◌≡◌, ℕ, ◌+◌, ◌*◌, ◌<◌, ◌≤◌, length, Float}
use Rattle.front.specs.declared.Paving.{Paving}
use Rattle.front.specs.State.{State, state_of, counted, edge_in}
use Rattle.front.specs.Stores.{unless}
use Rattle.front.specs.Lent.{paving_state}

-- the state of a front alone
abbrev pub front_in : List ℕ → List ℕ → ℕ → ℕ → State
front_in next prev n f = state_of [] [] next prev [] [] [] (counted n 0 0 f)

-- the state of mesh edges alone
abbrev pub edges_in : List ℕ → ℕ → State
edges_in edges n = state_of [] [] [] [] [] [] edges (counted 0 0 n 0)

-- the state of nodes alone, with their links
abbrev pub nodes_alone : List Float → List Float → List ℕ → List ℕ → ℕ → State
nodes_alone xs ys next prev n = state_of xs ys next prev [] [] [] (counted n 0 0 0)

-- ---- what the code asks of the lists

-- n nodes have their places
pub record NodesFit (xs ys : List Float) (next prev : List ℕ) (n : ℕ) : Type 0 where
  pub few : n ≤ 4294967294
  pub xs_fit : n ≤ length xs
  pub ys_fit : n ≤ length ys
  pub next_fit : n ≤ length next
  pub prev_fit : n ≤ length prev

-- u to v is a link of a node that is counted, and its link back has a place
abbrev pub LinkFits : Paving → ℕ → ℕ → Type 0
LinkFits p u v = (p.counts.nodes ≤ length p.next.now) × (u < p.counts.nodes) × (v < length p.prev.now)

-- one edge more fits, where u to v is one
abbrev pub EdgeFits : Paving → ℕ → ℕ → Type 0
EdgeFits p u v = (2 * (p.counts.edges + unless (edge_in p.edges.now p.counts.edges u v)) ≤ length p.edges.now)

-- ---- what the code leaves

-- q is p after the change, whatever the snapshot
abbrev pub ChangedBy : (State → State) → Paving → Paving → Type 0
ChangedBy change p q = (snapshot : List ℕ) → paving_state q snapshot ≡ change (paving_state p snapshot)

-- q has the nodes of p, and as many places for links
pub record LinksKept (p q : Paving) : Type 0 where
  pub nodes : q.counts.nodes ≡ p.counts.nodes
  pub next : length q.next.now ≡ length p.next.now
  pub prev : length q.prev.now ≡ length p.prev.now
