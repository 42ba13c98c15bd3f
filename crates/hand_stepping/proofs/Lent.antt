-- What is read of a paving is the state that it holds. Assumes nothing.
use Rattle.std.specs.Prelude.{List, [], ◌≡◌, ℕ}
use Rattle.std.proofs.Common.{ap}
use Rattle.front.specs.declared.Mesh.{Mesh}
use Rattle.front.specs.declared.Paving.{Paving}
use Rattle.front.specs.State.{State, state_of}
use Rattle.front.specs.Lent.{mesh_state, paving_state}
use Rattle.hand_mesh_check.specs.Check.{all_off, lent_in, lent_paving}

-- with the places that the numbers of the nodes' loops have
pub lent_same : (m : Mesh) (p : Paving) → mesh_state m ≡ paving_state p [] → (origins : List ℕ) → lent_in m origins ≡ lent_paving p origins
lent_same m p e origins = ap (λ (s : State). state_of s.xs s.ys s.next s.prev (all_off origins) s.quads s.edges s.counts) e
