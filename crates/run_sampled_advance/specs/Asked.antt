-- What sampling and paving ask. Definitions only.
use Rattle.std.specs.Prelude.{List, ◌≡◌, ℕ, Float}
use Rattle.outline.specs.Outline.{Outline}
use Rattle.outline_blocks.specs.Blocks.{Drawn}
use Rattle.field_direction.specs.declared.Grid.{Grid}
use Rattle.field_direction.specs.Cells.{FieldLent}
use Rattle.front.specs.declared.Counts.{Counts}
use Rattle.front.specs.declared.Paving.{Paving}
use Rattle.front.specs.State.{State, state_of, counted}
use Rattle.front.specs.Sampling.{front_refusal}

-- no node, quad or edge yet
abbrev pub unused : Counts
unused = counted 0 0 0 0

-- the state that the lists hold before it is sampled
abbrev pub unsampled : Paving → List ℕ → State
unsampled p snapshot = state_of p.xs.now p.ys.now p.next.now p.prev.now snapshot p.quads.now p.edges.now unused

-- Neither the outline nor the places lent are refused, the outline's blocks are filed, and the field is lent.
-- Stays with `drawn`, which `Surroundings` has too: a run shows this of what it lent before, where no `Surroundings` is left.
pub record CanPave (o : Outline) (blocks : List ℕ) (size : Float) (g : Grid) (values : List Float) (lent : State) : Type 0 where
  pub drawn : Drawn o blocks
  pub front : front_refusal o size lent ≡ 0
  pub field : FieldLent g values
