-- The book's start matches what `from_boundary` leaves.
use Rattle.std.specs.Prelude.{◌≡◌, ℕ, zero, suc, ◌+◌, ◌*◌, ◌≤◌, length}
use Rattle.std.proofs.Math.Path.{refl, ap}
use Rattle.std.proofs.Common.{◌∙◌}
use mathlib.Core.List.{List, [], ◌∷◌, ◌++◌}
use native.Mathlib.Omega.{arith}
use Rattle.numbers.specs.Float.{zero_f}
use Rattle.topology.specs.Sums.{total, path_sum, loop_sum, front_sum}
use Rattle.topology.specs.Links.{off}
use Rattle.topology.specs.Front.{head_or}
use Rattle.front.specs.State.{State, node_places, edge_places}
use Rattle.books.specs.Book.{Edge, filled, room_for, edges_to, loop_edges}
use Rattle.books.proofs.Matches.{edges_sum}
use Rattle.front_sampled.proofs.BegunBase.{Places}

-- ---- sums over a loop's edges

module _ (w : ℕ → ℕ → ℕ) where
  sum_append : (es fs : List Edge) → edges_sum w (es ++ fs) ≡ edges_sum w es + edges_sum w fs
  unfolding edges_sum
  sum_append [] fs = omega arith
  sum_append (e ∷ es) fs = omega (arith, sum_append es fs)

  sum_path : (u : ℕ) (us : List ℕ) (z : ℕ) → edges_sum w (edges_to (u ∷ us) z) ≡ path_sum w u us z
  unfolding edges_sum edges_to path_sum
  sum_path u [] z = omega arith
  sum_path u (v ∷ us) z = ap (λ (k : ℕ). w u v + k) (sum_path v us z)

  sum_loop : (l : List ℕ) → edges_sum w (edges_to l (head_or 0 l)) ≡ loop_sum w l
  unfolding edges_sum edges_to loop_sum
  sum_loop [] = refl
  sum_loop (u ∷ us) = sum_path u us u

  pub sum_loops : (ls : List (List ℕ)) → edges_sum w (loop_edges ls) ≡ front_sum w ls
  unfolding edges_sum loop_edges total
  sum_loops [] = refl
  sum_loops (l ∷ ls) = sum_append (edges_to l (head_or 0 l)) (loop_edges ls) ∙ rw (sum_loop l, sum_loops ls)

-- ---- the book's lists, which are just large enough

pub filled_length : {A : Type 0} (n : ℕ) (a : A) → length (filled n a) ≡ n
unfolding filled
filled_length zero a = refl
filled_length (suc n) a = ap suc (filled_length n a)

-- places for n nodes in any lists: so there are n in the book's
pub room_for_lem : (n : ℕ) (lent : State) → Places n lent → Places n (room_for n)
unfolding room_for node_places edge_places
room_for_lem n lent P =
    let few : n ≤ 4294967294 = omega (arith, P.nodes) in
    record {
      nodes = rw (filled_length n zero_f, filled_length n off) (omega arith);
      edges = rw (filled_length {A = ℕ} (2 * n) 0) (omega arith);
    }
