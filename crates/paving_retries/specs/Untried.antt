-- What the code of a try that asks the list first is lent, and what each of its ends leaves.
use Rattle.std.specs.Prelude.{List, ◌≡◌, true, ℕ, ◌<◌, Float}
use Rattle.outline.specs.Outline.{Outline}
use Rattle.field_direction.specs.Record.{FieldRecord}
use Rattle.front.specs.State.{State}
use Rattle.front.specs.Sound.{Sound}
use Rattle.front.specs.Ready.{Known}
use Rattle.paving.specs.Advance.{is_there}
use Rattle.paving_attempts.specs.Seen.{seen_of, seen_edges}
use Rattle.paving_retries.specs.Vain.{Remembers}

-- ---- definitions

-- the nodes and mesh edges of s
abbrev pub seen_mesh : State → State
seen_mesh s = seen_edges s.xs s.ys s.edges s.counts

-- t is what an attempt reads of a state that a run can be in, a to b is on its front, and the list l remembers
pub record Untried (o : Outline) (size : Float) (field : FieldRecord) (t : State) (l : List ℕ) (a b : ℕ) : Type 0 where
  pub state : State
  pub same : seen_of state ≡ t
  pub sampled : ℕ
  pub loops : List (List ℕ)
  pub sound : Sound sampled state loops
  pub known : Known state
  pub node : a < t.counts.nodes
  pub there : is_there t a b ≡ true
  pub remembers : Remembers o size field l (seen_mesh t)
