-- A lent list in which a run notes the edges that it tried in vain: three numbers a node, for as many nodes as it has places. Definitions only.
use Rattle.std.specs.Prelude.{Bool, ◌&&◌, cond, List, ◌≡◌, ◌≢◌, ℕ, ◌+◌, ◌-◌, ◌*◌, ◌/◌, ◌<◌, eqb, length, get_or, set, Float, Option, Some, None}
use Rattle.laws.specs.Loop.{for_up}
use Rattle.outline.specs.Outline.{Outline}
use Rattle.field_direction.specs.Record.{FieldRecord}
use Rattle.topology.specs.Links.{off}
use Rattle.front.specs.State.{State, next_of, prev_of}
use Rattle.front.specs.Sound.{Sound}
use Rattle.front.specs.declared.FarCorners.{FarCorners}
use Rattle.paving.specs.Attempt.{try_edge}
use Rattle.paving_snapshots.specs.Stretches.{has_places, stretched}
use Rattle.paving_retries.specs.Grows.{Grows}

-- ---- the list

-- the edge a to b was last tried in vain, between the neighbours p and q: the node before a and the node after b
unfoldable pub is_vain : List ℕ → ℕ → ℕ → ℕ → ℕ → Bool
is_vain l a b p q = has_places l a && (eqb (get_or l (3 * a) 0) b && (eqb (get_or l (3 * a + 1) 0) p && eqb (get_or l (3 * a + 2) 0) q))

-- the edge a to b between p and q was tried in vain
unfoldable pub noted : List ℕ → ℕ → ℕ → ℕ → ℕ → List ℕ
noted l a b p q = cond (has_places l a) (set (set (set l (3 * a) b) (3 * a + 1) p) (3 * a + 2) q) l

-- what is left of the list after a try of the edge: one in vain is noted
abbrev pub tried_after : Option FarCorners → List ℕ → ℕ → ℕ → ℕ → ℕ → List ℕ
tried_after None l a b p q = noted l a b p q
tried_after (Some w) l a b p q = l

-- nothing was tried from node a, and no stretch begins at it
abbrev pub forget_turn : ℕ → ℕ → List ℕ → List ℕ
forget_turn from i l = stretched l (from + i) 0

-- nor from any of the nodes from, .., to - 1
unfoldable pub forgotten : ℕ → ℕ → List ℕ → List ℕ
forgotten from to l = for_up (to - from) (forget_turn from) l

-- ---- what it says

-- in an earlier state, from which t has grown, the front edge a to b between p and q was tried in vain
pub record Failed (o : Outline) (size : Float) (field : FieldRecord) (t : State) (a b p q : ℕ) : Type 0 where
  pub earlier : State
  pub sampled : ℕ
  pub loops : List (List ℕ)
  pub sound : Sound sampled earlier loops
  pub later : Grows earlier t
  pub edge : next_of earlier a ≡ b
  pub before : prev_of earlier a ≡ p
  pub after : next_of earlier b ≡ q
  pub nothing : try_edge o size field earlier a b ≡ None

-- Whatever the list l has of an edge from one of t's nodes was so. `off` in the first place of a node says that it has nothing: no edge ends there.
abbrev pub Remembers : Outline → Float → FieldRecord → List ℕ → State → Type 0
Remembers o size field l t =
    (a : ℕ) → a < length l / 3 → a < t.counts.nodes → get_or l (3 * a) 0 ≢ off
    → Failed o size field t a (get_or l (3 * a) 0) (get_or l (3 * a + 1) 0) (get_or l (3 * a + 2) 0)
