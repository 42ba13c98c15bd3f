-- What the lowest number that passes a test is: as a search finds it, and where none passes.
use Rattle.std.specs.Prelude.{◌≡◌, refl, Bool, true, false, cond, ℕ, zero, suc, ◌<◌, ◌≤◌}
use Rattle.std.proofs.Common.{Option, Some, None, subst, ap, ◌∙◌, add-one, arith, ⊎_elim, le_of_suc-le-suc, eq-or-lt_of_le}
use Rattle.std.specs.Option.{MatchOption, unwrap_or}
use Rattle.laws.specs.Loop.{Turn, go, out, Run, run_start, run_go, run_out, run_end, run_keeps_at}
use Rattle.cover_check.specs.Lowest.{lowest_turn, lowest}

-- ---- as a search finds it

module _ (test : ℕ → Bool) (n : ℕ) where
  abbrev pub Fails : ℕ → Type 0
  Fails i = test i ≡ false

  abbrev pub Passes : ℕ → Type 0
  Passes i = test i ≡ true

  -- the numbers below i fail
  passed : (i : ℕ) → i ≤ n → ((k : ℕ) → k < i → Fails k) → Run (lowest_turn test) (λ s. n) tt n i tt
  passed zero h below = run_start _ (λ s. n) _ n
  passed (suc i) h below =
      subst (λ (k : ℕ). Run (lowest_turn test) (λ s. n) tt n k tt) (add-one i)
      (run_go _ (λ s. n) _ tt (passed i (omega arith) (λ k l. below k (omega arith))) (omega arith) (rw (below i (omega arith)) refl))

  pub found_lowest : (r : Option ℕ)
      → MatchOption r ((k : ℕ) → 0 ≤ k → k < n → Fails k) (λ i. (0 ≤ i) × (i < n) × Passes i × ((k : ℕ) → 0 ≤ k → k < i → Fails k))
      → unwrap_or r n ≡ lowest n test
  unfolding lowest
  found_lowest None all = run_end _ (λ s. n) _ (passed n (omega arith) (λ k l. all k (omega arith) l)) (omega arith)
  found_lowest (Some i) f = run_out _ (λ s. n) _ i (passed i (omega (arith, f.1)) (λ k l. f.3 k (omega arith) l)) f.1 (rw f.2 refl)

-- ---- where none passes

-- the answer is below n and passes, or every number below n fails
data Found (test : ℕ → Bool) (n : ℕ) : ℕ → Type 0 where
  some_passes : (i : ℕ) → i < n → test i ≡ true → Found test n i
  none_passes : ((i : ℕ) → i < n → test i ≡ false) → Found test n n

found : (test : ℕ → Bool) (n : ℕ) → Found test n (lowest n test)
unfolding lowest
found test n =
    run_keeps_at (λ i s. (k : ℕ) → k < i → test k ≡ false) (Found test n) n (lowest_turn test) (λ s. n) tt (λ k h. absurd (omega arith))
    (λ i s h below. by i h below (test i) refl) (λ s below. none_passes below)
  where
    Next : ℕ → Turn (Unit {0}) ℕ → Type 0
    Next i (go s) = (k : ℕ) → k < suc i → test k ≡ false
    Next i (out r) = Found test n r

    by : (i : ℕ) → i < n → ((k : ℕ) → k < i → test k ≡ false) → (b : Bool) → test i ≡ b → Next i (cond b (out i) (go tt))
    by i h below true e = some_passes i h e
    by i h below false e = λ k l. ⊎_elim (λ (same : k ≡ i). ap test same ∙ e) (λ less. below k less) (eq-or-lt_of_le (le_of_suc-le-suc l))

-- the lowest of n numbers is n only where none passes
pub lowest_none : (test : ℕ → Bool) (n : ℕ) → n ≤ lowest n test → (i : ℕ) → i < n → test i ≡ false
lowest_none test n h = by (lowest n test) (found test n) h
  where
    by : (k : ℕ) → Found test n k → n ≤ k → (i : ℕ) → i < n → test i ≡ false
    by k (some_passes j less e) h i l = absurd (omega arith)
    by k (none_passes none) h i l = none i l
