-- Hand stepping: a single placing on a named edge, and what a step answers and leaves. Definitions only.
use Rattle.std.specs.Prelude.{cond, List, Result, Ok, Err, ◌≡◌, ℕ, ◌+◌, ◌-◌, leb, eqb, get_or, set, Float, Option, Some, None}
use Rattle.laws.specs.Loop.{for_up}
use Rattle.outline.specs.Outline.{Outline, first_of}
use Rattle.field_direction.specs.Record.{FieldRecord}
use Rattle.front.specs.State.{State}
use Rattle.front.specs.Place.{place, is_full}
use Rattle.front.specs.declared.FarCorners.{FarCorners}
use Rattle.paving.specs.Attempt.{try_edge}
use Rattle.paving.specs.Advance.{most_quads}
use Rattle.hand_mesh_check.specs.Check.{mesh_refusal, edge_refusal}
use Rattle.hand_steps.specs.declared.StepOutcome.{StepOutcome}
use Rattle.hand_steps.specs.declared.StepOutcome.TheVariants.{Placed, None as NoQuad, Full, Cap}

-- 23, then 24
unfoldable pub hand_refusal : State → ℕ → ℕ → ℕ
hand_refusal s a b = first_of (mesh_refusal s) (edge_refusal s a b)

-- ---- a single placing

-- what is left, and what became of the edge
pub record Handled : Type 0 where
  pub state : State
  pub outcome : StepOutcome

abbrev pub handled : State → StepOutcome → Handled
handled s r = record { state = s; outcome = r }

-- the quad that was answered is placed, where the places lent suffice
abbrev pub settled_on : ℕ → ℕ → Option FarCorners → State → Handled
settled_on a b None s = handled s NoQuad
settled_on a b (Some q) s = cond (is_full s a b q.c q.d) (handled s Full) (handled (place a b q.c q.d s) Placed)

-- the two attempts of the automatic pass; none at all where 250,000 quads stand
unfoldable pub place_on : Outline → Float → FieldRecord → ℕ → ℕ → State → Handled
place_on o size field a b s =
    cond (leb most_quads s.counts.quads) (handled s Cap) (settled_on a b (try_edge o size field s a b) s)

-- the quad that it places, or why it places none
abbrev pub fitting : ℕ → ℕ → Option FarCorners → State → Result FarCorners StepOutcome
fitting a b None s = Err NoQuad
fitting a b (Some q) s = cond (is_full s a b q.c q.d) (Err Full) (Ok q)

unfoldable pub quad_on : Outline → Float → FieldRecord → ℕ → ℕ → State → Result FarCorners StepOutcome
quad_on o size field a b s = cond (leb most_quads s.counts.quads) (Err Cap) (fitting a b (try_edge o size field s a b) s)

-- ---- a step

-- the mesh after a step on the edge a to b: as it was, where the step is refused
unfoldable pub step_on : Outline → Float → FieldRecord → ℕ → ℕ → State → State
step_on o size field a b s = cond (eqb (hand_refusal s a b) 0) (place_on o size field a b s).state s

-- what a step answers: the refusal, or what became of the edge
unfoldable pub step_answer : Outline → Float → FieldRecord → ℕ → ℕ → State → Result StepOutcome ℕ
step_answer o size field a b s = cond (eqb (hand_refusal s a b) 0) (Ok (place_on o size field a b s).outcome) (Err (hand_refusal s a b))

-- ---- the numbers of the nodes' loops (origins)

abbrev pub origin_turn : ℕ → ℕ → ℕ → List ℕ → List ℕ
origin_turn number n i l = set l (n + i) number

-- the places of the nodes n to m − 1 take the number that stands at node a's
unfoldable pub new_origins : ℕ → ℕ → ℕ → List ℕ → List ℕ
new_origins a n m l = for_up (m - n) (origin_turn (get_or l a 0) n) l

-- new nodes take the number of node a
abbrev pub origins_on : Outline → Float → FieldRecord → ℕ → ℕ → State → List ℕ → List ℕ
origins_on o size field a b s l = new_origins a s.counts.nodes (step_on o size field a b s).counts.nodes l

-- what `step` ensures: of the edge a to b in s, with the numbers `before`, it answers r, and leaves t and the numbers `after`
pub record StepTaken (o : Outline) (size : Float) (field : FieldRecord) (a b : ℕ) (s : State) (before : List ℕ) (r : Result StepOutcome ℕ) (t : State)
    (after : List ℕ) : Type 0 where
  pub answer : r ≡ step_answer o size field a b s
  pub state : t ≡ step_on o size field a b s
  pub origins : after ≡ origins_on o size field a b s before
