-- A front stepped by hand, edge after edge: each step takes the mesh that the last one left. Automatic passes may come between, and between two calls
-- the mesh may go on in another list of as many places as it has nodes: a pass lends a snapshot, a step the numbers of the nodes' loops. Definitions only.
use Rattle.std.specs.Prelude.{cond, List, [], ◌∷◌, ℕ, leb, length, Float}
use Rattle.outline.specs.Outline.{Outline}
use Rattle.field_direction.specs.Record.{FieldRecord}
use Rattle.front.specs.State.{State, state_of}
use Rattle.paving.specs.Advance.{advance}
use Rattle.books.specs.Book.{Edge}
use Rattle.hand_steps.specs.Hand.{step_on}

-- the same state with another list in the snapshot's place
abbrev pub with_scratch : List ℕ → State → State
with_scratch l s = state_of s.xs s.ys s.next s.prev l s.quads s.edges s.counts

pub data Move : Type 0 where
  -- a step on a named edge
  named : Edge → Move
  -- at most so many automatic passes
  passes : ℕ → Move
  -- the list is lent from now on, where it has a place for each node
  lends : List ℕ → Move

unfoldable pub move_on : Outline → Float → FieldRecord → Move → State → State
move_on o size field (named e) s = step_on o size field e.from e.to s
move_on o size field (passes n) s = (advance o size field n s).state
move_on o size field (lends l) s = cond (leb s.counts.nodes (length l)) (with_scratch l s) s

-- one after the other
unfoldable pub moves_on : Outline → Float → FieldRecord → List Move → State → State
moves_on o size field [] s = s
moves_on o size field (m ∷ ms) s = moves_on o size field ms (move_on o size field m s)
