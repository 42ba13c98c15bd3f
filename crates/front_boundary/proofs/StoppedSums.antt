-- A sum that stops at `most` after each term is the whole sum, stopped.
use Rattle.std.specs.Prelude.{◌≡◌, refl, ℕ, zero, suc, ◌+◌, min, Float}
use Rattle.std.proofs.Common.{arith}
use Rattle.laws.specs.Loop.{for_up, sum_up}
use Rattle.laws.proofs.Sums.{sum_zero, sum_suc}
use Rattle.outline.specs.Outline.{Outline, loop_at}
use Rattle.front.specs.Sampling.{loop_parts, loop_nodes, loop_count, sampled_count}
use Rattle.front_boundary.specs.Counting.{most, even_up}

abbrev pub added_turn : (ℕ → ℕ) → ℕ → ℕ → ℕ
added_turn f i sum = min (sum + f i) most

-- terms that may have been stopped too
stopped_sum : (f g : ℕ → ℕ) → ((k : ℕ) → min (g k) most ≡ min (f k) most) → (n : ℕ) → for_up n (added_turn g) 0 ≡ min (sum_up n f) most
unfolding for_up
stopped_sum f g e zero = omega (arith, sum_zero f)
stopped_sum f g e (suc n) = omega (arith, stopped_sum f g e n, sum_suc f n, e n)

pub added_sum : (f : ℕ → ℕ) (n : ℕ) → for_up n (added_turn f) 0 ≡ min (sum_up n f) most
added_sum f n = stopped_sum f f (λ k. refl) n

-- the nodes of loop k, whose parts may have been stopped
abbrev pub stopped_nodes : Outline → Float → ℕ → ℕ
stopped_nodes o size k = even_up (min (loop_parts size (loop_at o k)) most)

pub added_loops : (o : Outline) (size : Float) → for_up (loop_count o) (added_turn (stopped_nodes o size)) 0 ≡ min (sampled_count o size) most
unfolding sampled_count loop_nodes
added_loops o size = stopped_sum (loop_nodes o size) (stopped_nodes o size) same (loop_count o)
  where
    same : (k : ℕ) → min (stopped_nodes o size k) most ≡ min (loop_nodes o size k) most
    same k = omega arith
