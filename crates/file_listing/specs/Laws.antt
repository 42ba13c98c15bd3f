-- The request and the outline that were read lie within the lists that the program lends. What it prints follows in proofs/Laws.antt.
use Rattle.std.specs.Prelude.{◌≡◌, List, ℕ, ◌-◌, ◌*◌, ◌≤◌, length, take, drop, Float}
use Rattle.outline.specs.Outline.{Outline, outline}
use Rattle.file_outline.specs.declared.Head.{Head}

-- ---- the request

-- what was read lies within the lists
pub record RequestHeld (points : List Float) (lens : List ℕ) (head : Head) : Type 0 where
  pub outer : head.outer ≤ head.points
  pub few : head.points ≤ 248
  pub some : 1 ≤ head.loops
  pub loops : head.loops ≤ 8
  pub point_places : length points ≡ 496
  pub lens_places : length lens ≡ 8

-- the outline that was read
abbrev pub held_outline : List Float → List ℕ → Head → Outline
held_outline points lens head =
    outline (take (2 * head.outer) points) (take (2 * head.points - 2 * head.outer) (drop (2 * head.outer) points))
    (take (head.loops - 1) (drop 1 lens))
