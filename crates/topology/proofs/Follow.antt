-- What holds of the definitions of proofs/FollowBase.antt.
use Rattle.std.specs.Prelude.{ℕ, List, [], ◌≡◌, refl, Bool, true, false, eqb}
use Rattle.std.proofs.Common.{sym, ◌∙◌, arith, eqb-true}
use Rattle.std.proofs.lemmas.Bool.{eqb-false}
use Rattle.topology.specs.Links.{off}
use Rattle.topology.specs.Front.{Loops}
use Rattle.topology.proofs.Front.{edge_next, next_edge}
use Rattle.topology.proofs.FollowBase.{Follows, edge, none}

-- ---- the theorems

-- what follows the edges of the loops is the links
pub follows_links : (n : ℕ) (f h : ℕ → ℕ) (ls : List (List ℕ)) → Loops n f ls → (u : ℕ) → Follows ls h u → h u ≡ f u
follows_links n f h ls L u (edge e) = sym (edge_next n f ls L u (h u) e)
follows_links n f h ls L u (none e z) = by (eqb (f u) off) refl
  where
    by : (b : Bool) → eqb (f u) off ≡ b → h u ≡ f u
    by true q = e ∙ sym (eqb-true (f u) off q)
    by false q = absurd (omega (arith, z (f u), next_edge n f ls L u (f u) (eqb-false (f u) off q) refl))
