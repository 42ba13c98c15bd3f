-- The loops of n nodes have n ids at most: no node stands in them twice.
use Rattle.std.specs.Prelude.{Bool, true, false, List, [], ◌∷◌, ◌≡◌, refl, ℕ, zero, suc, ◌+◌, ◌<◌, ◌≤◌, eqb, length}
use Rattle.std.proofs.Common.{arith, eqb-true}
use Rattle.std.proofs.lemmas.Bool.{eqb-false}
use Rattle.laws.specs.Loop.{sum_up}
use Rattle.laws.proofs.Sums.{sum_zero, sum_suc, sum_most}
use Rattle.topology.specs.Sums.{total}
use Rattle.topology.specs.Links.{delta, delta_same}
use Rattle.topology.specs.Front.{Loops}
use Rattle.topology.specs.Walk.{count}
use Rattle.topology.proofs.Walk.{once, nodes}

-- ---- sums

sum_add : (f g : ℕ → ℕ) (n : ℕ) → sum_up n (λ i. f i + g i) ≡ sum_up n f + sum_up n g
sum_add f g zero = omega (arith, sum_zero (λ i. f i + g i), sum_zero f, sum_zero g)
sum_add f g (suc n) = omega (arith, sum_suc (λ i. f i + g i) n, sum_suc f n, sum_suc g n, sum_add f g n)

-- an id below n is one of the first n
sum_delta : (x n : ℕ) → x < n → 1 ≤ sum_up n (delta x)
sum_delta x zero h = absurd (omega arith)
sum_delta x (suc n) h = by (eqb x n) refl (sum_delta x n)
  where
    by : (b : Bool) → eqb x n ≡ b → (x < n → 1 ≤ sum_up n (delta x)) → 1 ≤ sum_up (suc n) (delta x)
    by true e below = omega (arith, sum_suc (delta x) n, delta_same x n (eqb-true x n e))
    by false e below = let other = eqb-false x n e in omega (arith, sum_suc (delta x) n, below (omega arith))

-- ---- the ids of loops

length_sum : (n : ℕ) (l : List ℕ) → ((v : ℕ) → 0 < count v l → v < n) → length l ≤ sum_up n (λ u. count u l)
unfolding count
length_sum n [] h = omega arith
length_sum n (x ∷ l) h =
    omega (
      arith,
      sum_add (delta x) (λ u. count u l) n,
      sum_delta x n (h x (omega (arith, delta_same x x refl))),
      length_sum n l (λ v p. h v (omega (arith, p))),
    )

total_length : (n : ℕ) (ls : List (List ℕ)) → ((v : ℕ) → 0 < total (count v) ls → v < n)
    → total length ls ≤ sum_up n (λ u. total (count u) ls)
unfolding total
total_length n [] h = omega arith
total_length n (l ∷ ls) h =
    omega (
      arith,
      sum_add (λ u. count u l) (λ u. total (count u) ls) n,
      length_sum n l (λ v p. h v (omega (arith, p))),
      total_length n ls (λ v p. h v (omega (arith, p))),
    )

pub ids_most : (n : ℕ) (f : ℕ → ℕ) (ls : List (List ℕ)) → Loops n f ls → total length ls ≤ n
ids_most n f ls L =
    omega (arith, total_length n ls (nodes n f ls L), sum_most n 1 (λ u. total (count u) ls) (once n f ls L))
