-- A sum over the numbers below n is `sum_up`, and how large those of a head and of a block can be.
use Rattle.std.specs.Prelude.{◌≡◌, List, ℕ, zero, suc, ◌+◌, ◌*◌, ◌≤◌, ◌<◌}
use Rattle.std.specs.List.{sum_by, range_with_len}
use Rattle.std.proofs.Common.{ap, ◌∙◌, add-one, arith}
use Rattle.std.proofs.lemmas.List.Sums.{sum_by-cons}
use Rattle.laws.specs.Loop.{sum_up}
use Rattle.laws.proofs.Sums.{sum_zero, sum_suc, sum_most}
use Rattle.file_outline.specs.File.{number_at, weighted_byte, head_length}
use Rattle.file_outline.specs.ByteLaws.{AreBytes, weighted_sum_small}

module _ (f : ℕ → ℕ) where
  summed : (n a : ℕ) → sum_by f (range_with_len a n) + sum_up a f ≡ sum_up (a + n) f
  summed zero a = let e : a ≡ a + 0 = omega arith in omega (arith, ap (λ (k : ℕ). sum_up k f) e)
  summed (suc n) a =
      let e : a + 1 + n ≡ a + suc n = omega arith in
      let one : sum_up (a + 1) f ≡ sum_up a f + f a = rw add-one (sum_suc f a) in
      omega (arith, sum_by-cons f a (range_with_len (a + 1) n), summed n (a + 1), one, ap (λ (k : ℕ). sum_up k f) e)

  pub sum_ranged : (n : ℕ) → sum_by f (range_with_len 0 n) ≡ sum_up n f
  sum_ranged n = let e : 0 + n ≡ n = omega arith in omega (arith, summed n 0, sum_zero f, ap (λ (k : ℕ). sum_up k f) e)

weights_small : (b : List ℕ) (n : ℕ) → AreBytes b → n ≤ 510 → sum_by (weighted_byte b) (range_with_len 0 n) < 18446744073709551616
weights_small b n bytes h = omega (arith, sum_ranged (weighted_byte b) n, weighted_sum_small b n bytes h)

pub check_small : (b : List ℕ) → AreBytes b → sum_by (weighted_byte b) (range_with_len 0 510) < 18446744073709551616
check_small b bytes = weights_small b 510 bytes (omega arith)

pub lengths_small : (h : List ℕ) (n : ℕ) → AreBytes h → sum_up n (head_length h) ≤ 65535 * n
unfolding number_at
lengths_small h n bytes = sum_most n 65535 (head_length h) (λ k. small (14 + 2 * k))
  where
    small : (i : ℕ) → number_at 2 h i ≤ 65535
    small i = omega (arith, bytes i, bytes (suc i))
