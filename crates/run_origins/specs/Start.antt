-- The numbers of the samples belong to the book's start: the ids of loop k are the places from its base on, and those have number k (`loop_has`).
use Prim.Native.Nat.{ℕ, zero, suc, ◌<◌}
use mathlib.Core.List.{List, [], ◌++◌}
use Rattle.std.specs.Prelude.{◌≡◌, Float}
use Rattle.std.proofs.Math.Path.{sym}
use native.Mathlib.Omega.{arith}
use Rattle.std.proofs.Math.ListN.{length, length-append}
use Rattle.std.proofs.lemmas.List.{length-replicate}
use Rattle.laws.specs.Loop.{for_up, sum_up}
use Rattle.laws.proofs.Sums.{sum_zero, sum_suc}
use Rattle.outline.specs.Outline.{Outline}
use Rattle.topology.specs.Sums.{All}
use Rattle.front.specs.Sampling.{loop_count, loop_nodes, sampled_count}
use Rattle.run_origins.specs.Origins.{origin_of, loop_origins, sampled_origins}

-- ---- the numbers of the samples

module _ (o : Outline) (size : Float) where
  -- those of the first k loops
  abbrev pub first_origins : ℕ → List ℕ
  first_origins k = for_up k (λ i l. l ++ loop_origins o size i) []

  loop_length_lem : (k : ℕ) → length (loop_origins o size k) ≡ loop_nodes o size k
  loop_length_lem k = length-replicate _ _

  pub first_length : (k : ℕ) → length (first_origins k) ≡ sum_up k (loop_nodes o size)
  unfolding for_up
  first_length zero = sym (sum_zero (loop_nodes o size))
  first_length (suc k) =
      omega (
        arith,
        length-append (first_origins k) (loop_origins o size k),
        loop_length_lem k,
        first_length k,
        sum_suc (loop_nodes o size) k,
      )

  pub sampled_length : length (sampled_origins o size) ≡ sampled_count o size
  unfolding sampled_origins sampled_count
  sampled_length = first_length (loop_count o)

-- ---- from loops to edges

-- every node of the loop has the number k
abbrev pub HaveNumber : List ℕ → ℕ → List ℕ → Type 0
HaveNumber l k ids = All (λ u. (u < length l) × (origin_of l u ≡ k)) ids

pub record OneNumber (l ids : List ℕ) : Type 0 where
  pub number : ℕ
  pub have : HaveNumber l number ids
