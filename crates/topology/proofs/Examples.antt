-- Small cases, by computation: a front of one loop of four nodes, quads placed on its edge 0 to 1, what the walks find, and what is listed.
use Rattle.std.specs.Prelude.{ℕ, List, [], ◌∷◌, ◌≡◌, refl, Bool, true, false, ◌||◌, set}
use Rattle.std.proofs.Common.{inl, inr, arith}
use Rattle.laws.specs.Loop.{for_up}
use Rattle.topology.specs.Links.{off, link_of}
use Rattle.topology.proofs.Changes.{stored, reversed}
use Rattle.topology.proofs.Laying.{joins}
use Rattle.topology.proofs.PlacingBase.{reused, fresh, placing}
use Rattle.topology.specs.Walk.{walk_by, prepend, FromSmallest}
use Rattle.topology.specs.Listing.{add_loop, long_loops, walks}
use Rattle.topology.specs.LongLoops.{LongLoops}

-- the links of the loop 0 1 2 3, with two more nodes off the front
abbrev next : List ℕ
next = 1 ∷ 2 ∷ 3 ∷ 0 ∷ off ∷ off ∷ []

abbrev prev : List ℕ
prev = 3 ∷ 0 ∷ 1 ∷ 2 ∷ off ∷ off ∷ []

laid : stored set (joins 0 (1 ∷ 2 ∷ 3 ∷ []) 0) (off ∷ off ∷ off ∷ off ∷ off ∷ off ∷ []) ≡ next
laid = refl

laid_back : stored set (reversed (joins 0 (1 ∷ 2 ∷ 3 ∷ []) 0)) (off ∷ off ∷ off ∷ off ∷ off ∷ off ∷ []) ≡ prev
laid_back = refl

-- ---- the walk

-- from the smallest id it finds the loop; from another one nothing, and nothing from a node off the front
from_smallest : walk_by (link_of 6 next) 4 0 0 ≡ 0 ∷ 1 ∷ 2 ∷ 3 ∷ []
unfolding walk_by link_of prepend
from_smallest = refl

from_another : walk_by (link_of 6 next) 4 2 2 ≡ []
unfolding walk_by link_of prepend
from_another = refl

from_off : walk_by (link_of 6 next) 4 5 5 ≡ []
unfolding walk_by link_of prepend
from_off = refl

-- ---- placings

-- two fresh corners: the loop grows by two nodes
two_fresh : stored set (placing fresh fresh 0 1 4 5) next ≡ 4 ∷ 2 ∷ 3 ∷ 0 ∷ 5 ∷ 1 ∷ []
two_fresh = refl

two_fresh_loops : walks 3 6 6 (link_of 6 (stored set (placing fresh fresh 0 1 4 5) next)) ≡ (0 ∷ 4 ∷ 5 ∷ 1 ∷ 2 ∷ 3 ∷ []) ∷ []
unfolding long_loops for_up add_loop walk_by link_of prepend
two_fresh_loops = refl

-- one reused corner, c or d: the loop has as many nodes as before
reused_c : stored set (placing reused fresh 0 1 3 4) next ≡ off ∷ 2 ∷ 3 ∷ 4 ∷ 1 ∷ off ∷ []
reused_c = refl

reused_d : stored set (placing fresh reused 0 1 4 2) next ≡ 4 ∷ off ∷ 3 ∷ 0 ∷ 2 ∷ off ∷ []
reused_d = refl

-- two reused corners: a loop of two nodes is left, which is no loop of three or more
two_reused : stored set (placing reused reused 0 1 3 2) next ≡ off ∷ off ∷ 3 ∷ 2 ∷ off ∷ off ∷ []
two_reused = refl

two_reused_back : stored set (reversed (placing reused reused 0 1 3 2)) prev ≡ off ∷ off ∷ 3 ∷ 2 ∷ off ∷ off ∷ []
two_reused_back = refl

two_reused_loops : walks 1 6 6 (link_of 6 (stored set (placing reused reused 0 1 3 2) next)) ≡ (2 ∷ 3 ∷ []) ∷ []
unfolding long_loops for_up add_loop walk_by link_of prepend
two_reused_loops = refl

two_reused_none : walks 3 6 6 (link_of 6 (stored set (placing reused reused 0 1 3 2) next)) ≡ []
unfolding long_loops for_up add_loop walk_by link_of prepend
two_reused_none = refl

-- ---- what is listed

-- of a loop of two and a loop of four, the second, from its smallest id on
long_loop : LongLoops ((3 ∷ 2 ∷ []) ∷ (5 ∷ 0 ∷ 4 ∷ 1 ∷ []) ∷ []) ((0 ∷ 4 ∷ 1 ∷ 5 ∷ []) ∷ [])
long_loop =
    let turned : FromSmallest (5 ∷ 0 ∷ 4 ∷ 1 ∷ []) (0 ∷ 4 ∷ 1 ∷ 5 ∷ []) =
    record {
      start = 5 ∷ [];
      rest = 0 ∷ 4 ∷ 1 ∷ [];
      loop = refl;
      turned = refl;
      smallest = (omega arith, (omega arith, (omega arith, (omega arith, tt))));
    } in
    record {
      all = ((λ h. absurd (omega arith)), ((λ h. inl turned), tt));
      only = (inr (inl (omega arith, turned)), tt);
      rising = (tt, tt);
    }

-- a list of none of them isn't theirs
long_loop_missing : LongLoops ((5 ∷ 0 ∷ 4 ∷ 1 ∷ []) ∷ []) [] → ⊥
long_loop_missing L = L.all.0 (omega arith)
