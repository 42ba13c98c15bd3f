-- A pass and `advance` of src/alt_crossfield.rs, with SCOPE's four ends. Definitions only.
use Rattle.std.specs.Prelude.{Bool, true, false, not, ◌&&◌, cond, List, ℕ, min, leb, eqb, get_or, set, Float, Option, Some, None}
use Rattle.laws.specs.Loop.{for_up, Turn, go, out, run}
use Rattle.outline.specs.Outline.{Outline}
use Rattle.topology.specs.Links.{off}
use Rattle.field_direction.specs.Record.{FieldRecord}
use Rattle.front.specs.State.{State, next_of}
use Rattle.front.specs.Place.{place, is_full}
use Rattle.front.specs.declared.FarCorners.{FarCorners}
use Rattle.paving.specs.declared.End.{End}
use Rattle.paving.specs.declared.End.TheVariants.{Still, Passes, Cap, Full}
use Rattle.paving.specs.Attempt.{try_edge}

-- a paving that has ended
pub record EndedPaving : Type 0 where
  pub state : State
  pub end : End

abbrev pub paved : State → End → EndedPaving
paved s e = record { state = s; end = e }

-- ---- a pass

-- the state in a pass, and whether the pass has placed something
pub record Passing : Type 0 where
  pub state : State
  pub placed : Bool

abbrev pub passing : State → Bool → Passing
passing s b = record { state = s; placed = b }

abbrev pub most_quads : ℕ
most_quads = 250000

-- what a pass leaves: a state for the next pass, or the end
abbrev pub Passed : Type 0
Passed = Turn State EndedPaving

-- after a quad: the end at the cap, or on
unfoldable pub after_quad : State → Turn Passing Passed
after_quad s = cond (leb most_quads s.counts.quads) (out (out (paved s Cap))) (go (passing s true))

-- the front edge a to b was tried: full where the quad doesn't fit the places lent
abbrev pub settle : ℕ → ℕ → Option FarCorners → Passing → Turn Passing Passed
settle a b None p = go p
settle a b (Some q) p = cond (is_full p.state a b q.c q.d) (out (out (paved p.state Full))) (after_quad (place a b q.c q.d p.state))

-- a to b was a front edge when the pass began, and still is
abbrev pub is_there : State → ℕ → ℕ → Bool
is_there s a b = not (eqb b off) && eqb (next_of s a) b

-- one edge of the snapshot, from node a
unfoldable pub pass_turn : Outline → Float → FieldRecord → ℕ → Passing → Turn Passing Passed
pass_turn o size field a p =
    let b = get_or p.state.snapshot a 0 in
    cond (is_there p.state a b) (settle a b (try_edge o size field p.state a b) p) (go p)

-- the links of the first n nodes are copied
abbrev pub copy_turn : List ℕ → ℕ → List ℕ → List ℕ
copy_turn links i l = set l i (get_or links i off)

unfoldable pub copied : ℕ → List ℕ → List ℕ → List ℕ
copied n links l = for_up n (copy_turn links) l

-- the snapshot is taken: the front edges present at the pass's start, by their first node
unfoldable pub with_snapshot : State → State
with_snapshot s =
    record {
      xs = s.xs;
      ys = s.ys;
      next = s.next;
      prev = s.prev;
      snapshot = copied s.counts.nodes s.next s.snapshot;
      quads = s.quads;
      edges = s.edges;
      counts = s.counts;
    }

-- after the last edge: on with the next pass, or still where this one placed nothing
abbrev pub after_pass : Passing → Passed
after_pass p = cond p.placed (go p.state) (out (paved p.state Still))

-- a pass takes the front edges present at its start, sorted, skipping those gone since
unfoldable pub pass : Outline → Float → FieldRecord → State → Passed
pass o size field s = run s.counts.nodes (pass_turn o size field) after_pass (passing (with_snapshot s) false)

-- ---- `advance`

abbrev pub most_passes : ℕ
most_passes = 600

abbrev pub passes_turn : Outline → Float → FieldRecord → ℕ → State → Passed
passes_turn o size field k s = pass o size field s

abbrev pub all_used : State → EndedPaving
all_used s = paved s Passes

-- `advance`: at most the lesser of the number given and 600 passes
unfoldable pub advance : Outline → Float → FieldRecord → ℕ → State → EndedPaving
advance o size field n s = run (min n most_passes) (passes_turn o size field) all_used s
