-- Laws of `sum_up` and `any_up`.
use Rattle.std.specs.Prelude.{◌≡◌, Bool, false, ◌||◌, ℕ, zero, suc, ◌+◌, ◌*◌, ◌<◌, ◌≤◌}
use Rattle.std.proofs.Math.Path.{refl}
use Rattle.std.proofs.Common.{ap, ⊎_elim, eq-or-lt_of_le, le_of_suc-le-suc, arith}
use Rattle.laws.specs.Loop.{for_up, for_up_same, sum_up, any_up, any_turn}

-- ---- sums

module _ (f : ℕ → ℕ) where
  pub sum_zero : sum_up 0 f ≡ 0
  unfolding sum_up for_up
  sum_zero = refl

  pub sum_suc : (n : ℕ) → sum_up (suc n) f ≡ sum_up n f + f n
  unfolding sum_up for_up
  sum_suc n = refl

  -- the first terms make at most the whole
  pub sum_le : (i n : ℕ) → i ≤ n → sum_up i f ≤ sum_up n f
  sum_le i zero h = let e : i ≡ 0 = omega arith in rw e (omega arith)
  sum_le i (suc n) h =
      ⊎_elim (λ e. rw e (omega arith)) (λ less. omega (arith, sum_suc n, sum_le i n (le_of_suc-le-suc less))) (eq-or-lt_of_le h)

  -- and so do the first terms with the next one
  pub sum_term : (i n : ℕ) → i < n → sum_up i f + f i ≤ sum_up n f
  sum_term i n h = omega (arith, sum_suc i, sum_le (suc i) n h)

  -- n terms of at least 1
  pub sum_least : ((i : ℕ) → 1 ≤ f i) → (n : ℕ) → n ≤ sum_up n f
  sum_least h zero = omega arith
  sum_least h (suc n) = omega (arith, sum_suc n, sum_least h n, h n)

-- n terms of at most b
pub sum_most : (n b : ℕ) (f : ℕ → ℕ) → ((k : ℕ) → f k ≤ b) → sum_up n f ≤ b * n
sum_most zero b f h = omega (arith, sum_zero f)
sum_most (suc n) b f h = omega (arith, sum_suc f n, sum_most n b f h, h n)

-- terms that are at most those of another sum
pub sum_below : (n : ℕ) (f g : ℕ → ℕ) → ((k : ℕ) → f k ≤ g k) → sum_up n f ≤ sum_up n g
sum_below zero f g h = omega (arith, sum_zero f)
sum_below (suc n) f g h = omega (arith, sum_suc f n, sum_suc g n, sum_below n f g h, h n)

-- ---- searches

pub any_suc : (test : ℕ → Bool) (n : ℕ) → any_up (suc n) test ≡ (any_up n test || test n)
unfolding any_up for_up
any_suc test n = refl

-- tests that agree find the same
pub any_same : (test other : ℕ → Bool) (n : ℕ) → ((i : ℕ) → i < n → test i ≡ other i) → any_up n test ≡ any_up n other
unfolding any_up
any_same test other n same =
    for_up_same n (any_turn test) (any_turn other) false (λ i found h. ap (λ (b : Bool). found || b) (same i h))
