-- A paving and a mesh as they are lent: the state that their lists hold. Definitions only.
use Rattle.std.specs.Prelude.{◌≡◌, List, [], ℕ}
use Rattle.front.specs.declared.Mesh.{Mesh}
use Rattle.front.specs.declared.Paving.{Paving}
use Rattle.front.specs.State.{State, state_of}

-- the state that the lists and a snapshot hold
abbrev pub paving_state : Paving → List ℕ → State
paving_state p snapshot = state_of p.xs.now p.ys.now p.next.now p.prev.now snapshot p.quads.now p.edges.now p.counts

-- the state that is read
abbrev pub mesh_state : Mesh → State
mesh_state m = state_of m.xs.now m.ys.now m.next.now m.prev.now [] m.quads.now m.edges.now m.counts

-- q has the lists that p has
pub record SameLists (p q : Paving) : Type 0 where
  pub xs : q.xs.ghost_name ≡ p.xs.ghost_name
  pub ys : q.ys.ghost_name ≡ p.ys.ghost_name
  pub next : q.next.ghost_name ≡ p.next.ghost_name
  pub prev : q.prev.ghost_name ≡ p.prev.ghost_name
  pub quads : q.quads.ghost_name ≡ p.quads.ghost_name
  pub edges : q.edges.ghost_name ≡ p.edges.ghost_name
