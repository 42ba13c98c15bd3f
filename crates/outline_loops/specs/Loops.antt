-- The loops of an outline as a list. Definitions only.
use Rattle.std.specs.Prelude.{Bool, false, List, ◌∷◌, ◌≡◌, ℕ, suc, ◌+◌, ◌≤◌, ◌<◌, ◌^◌, length, drop, map, Float}
use Rattle.outline.specs.Outline.{Outline, loop_at, loop_start, misshapen}
use Rattle.outline_loops.specs.declared.Loop.{Loop}
use Rattle.outline_loops.specs.Holes.{hole_list}

-- a loop's index, how many hole points stand before it, and its coordinates
abbrev pub looped : Loop → ℕ × (ℕ × List Float)
looped l = (l.index, (l.start, l.points.now))

-- hole k is loop k + 1
abbrev pub hole_loop : ℕ × (ℕ × List Float) → ℕ × (ℕ × List Float)
hole_loop h = (h.0 + 1, h.1)

-- all loops, the outer one first
unfoldable pub loop_list : Outline → List (ℕ × (ℕ × List Float))
loop_list o = (0, (0, o.outer)) ∷ map hole_loop (hole_list o)

-- the loops from the k-th on
abbrev pub loops_from : Outline → ℕ → List (ℕ × (ℕ × List Float))
loops_from o k = drop k (loop_list o)

-- the first k loops are passed, with `start` hole points, and no number of a loop overflows
pub record LoopsAhead (o : Outline) (k start : ℕ) : Type 0 where
  pub shape : misshapen o ≡ false
  pub within : k ≤ suc (length o.lens)
  pub at : start ≡ loop_start o.lens k
  pub few : suc (length o.lens) < 2 ^ 64

-- the loop is the outline's k-th
pub record LoopListed (o : Outline) (k : ℕ) (l : Loop) : Type 0 where
  pub within : k ≤ length o.lens
  pub index : l.index ≡ k
  pub start : l.start ≡ loop_start o.lens k
  pub points : l.points.now ≡ loop_at o k
