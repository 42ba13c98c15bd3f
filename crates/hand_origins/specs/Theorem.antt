-- What a list of origins has in a hand-stepped sequence (`NodesNumbered`). The theorems are in proofs/Theorem.antt.
use Rattle.std.specs.Prelude.{List, ◌≡◌, ℕ, Float}
use Rattle.laws.specs.Overlay.{overlay}
use Rattle.outline.specs.Outline.{Outline}
use Rattle.front.specs.State.{State}
use Rattle.run_origins.specs.Origins.{origins_after}

-- ---- a step keeps the numbers written

-- the list l has the numbers of the nodes of s on its first places, and past them what stood in `before`: as a run leaves it (`OriginsAnswered`)
abbrev pub NodesNumbered : Outline → Float → State → List ℕ → List ℕ → Type 0
NodesNumbered o size s before l = l ≡ overlay (origins_after o size s.quads s.counts.quads) before
