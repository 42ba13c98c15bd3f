-- What holds of the definitions of proofs/BookBase.antt.
use Rattle.std.specs.Prelude.{ℕ, ◌≡◌, ℤ}
use mathlib.Core.List.{List, [], ◌∷◌}
use Rattle.std.proofs.Math.Path.{sym}
use Rattle.std.proofs.Common.{◌∙◌, ap₂}
use Rattle.topology.specs.Balance.{front_sumℤ, Antisymmetric, difference, difference_add, difference_zero, gain, flip}
use Rattle.topology.proofs.Balance.{weight_is, front_is}
use Rattle.front.specs.State.{State}
use Rattle.books.specs.Book.{Edge, Book, edges_sumℤ}
use Rattle.books.proofs.Matches.{edges_sum, Matches}

-- ---- sums over ℤ

-- an antisymmetric weight over the book's front is that over the loops
module _ (w : ℕ → ℕ → ℤ) (anti : Antisymmetric w) where
  pub edges_is : (es : List Edge) → edges_sumℤ w es ≡ difference (edges_sum (gain w) es) (edges_sum (flip (gain w)) es)
  unfolding edges_sumℤ edges_sum
  edges_is [] = sym difference_zero
  edges_is (e ∷ es) = rw (weight_is w anti e.from e.to, edges_is es) (difference_add _ _ _ _)

  pub matches_sum : (s : State) (ls : List (List ℕ)) (b : Book) → Matches s ls b → edges_sumℤ w b.front ≡ front_sumℤ w ls
  matches_sum s ls b M =
      edges_is b.front ∙ (ap₂ difference (M.sums (gain w)) (M.sums (flip (gain w))) ∙ sym (front_is w anti ls))
