-- Stretches, computed. Five nodes, of which 1 and 2 are on the front; each has its three places, and no try.
use Rattle.std.specs.Prelude.{List, [], ◌∷◌, ◌≡◌, refl, ℕ}
use Rattle.laws.specs.Loop.{for_up}
use Rattle.topology.specs.Links.{off}
use Rattle.paving_snapshots.specs.Stretches.{stretched, node_after, stretches_joined}

abbrev links : List ℕ
links = off ∷ 2 ∷ 1 ∷ off ∷ off ∷ []

abbrev untried : List ℕ
untried = off ∷ 0 ∷ 7 ∷ off ∷ 0 ∷ 7 ∷ off ∷ 0 ∷ 7 ∷ off ∷ 0 ∷ 7 ∷ off ∷ 0 ∷ 7 ∷ []

-- nodes 0 and 3, 4 are stretches
abbrev first : List ℕ
first = off ∷ 1 ∷ 7 ∷ off ∷ 0 ∷ 7 ∷ off ∷ 0 ∷ 7 ∷ off ∷ 5 ∷ 7 ∷ off ∷ 0 ∷ 7 ∷ []

stretches_made : stretches_joined links 5 untried ≡ first
unfolding stretches_joined for_up stretched node_after
stretches_made = refl

-- node 2 goes off the front too: the stretch from it goes over the one from 3
stretches_grow : stretches_joined (off ∷ 1 ∷ off ∷ off ∷ off ∷ []) 5 first
    ≡ off ∷ 1 ∷ 7 ∷ off ∷ 0 ∷ 7 ∷ off ∷ 5 ∷ 7 ∷ off ∷ 5 ∷ 7 ∷ off ∷ 0 ∷ 7 ∷ []
unfolding stretches_joined for_up stretched node_after
stretches_grow = refl

-- a try of a node on the front stays, and places that a node hasn't aren't written
stretches_short : stretches_joined links 5 (off ∷ 0 ∷ 7 ∷ 2 ∷ 9 ∷ 4 ∷ []) ≡ off ∷ 1 ∷ 7 ∷ 2 ∷ 9 ∷ 4 ∷ []
unfolding stretches_joined for_up stretched node_after
stretches_short = refl
