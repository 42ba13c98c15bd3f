-- The lowest quad that can't be shown, as `find` says it. Assumes nothing.
use Rattle.std.proofs.Common.{Bool, true, false, ◌≡◌, refl, List, ℕ, zero, suc, ◌<◌, ◌≤◌, Option, Some, None, subst, add-one, arith}
use Rattle.std.specs.Float.{Float}
use Rattle.std.specs.Option.{MatchOption}
use Rattle.laws.specs.Loop.{Run, run_start, run_go, run_out, run_end}
use Rattle.front_lent_mesh.specs.Mesh.{quad_in}
use Rattle.bowl.specs.Steps.{is_shown, steps_given, hidden_at, hidden_turn, lowest_hidden, hidden_answer}

module _ (xs ys : List Float) (quads : List ℕ) (n : ℕ) where
  abbrev Shown : Bool → ℕ → Type 0
  Shown b k = is_shown xs ys (quad_in quads k) ≡ b

  -- the search passes the quads that can be shown
  passed : (i : ℕ) → i ≤ n → ((k : ℕ) → k < i → Shown true k) → Run (hidden_turn xs ys quads) (λ s. steps_given) tt n i tt
  passed zero h below = run_start _ (λ s. steps_given) _ n
  passed (suc i) h below =
      subst (λ (k : ℕ). Run (hidden_turn xs ys quads) (λ s. steps_given) tt n k tt) (add-one i)
      (run_go _ (λ s. steps_given) _ tt (passed i (omega arith) (λ k l. below k (omega arith))) (omega arith) (rw (below i (omega arith)) refl))

  pub found_lowest : (r : Option ℕ)
      → MatchOption r ((k : ℕ) → 0 ≤ k → k < n → Shown true k) (λ i. (0 ≤ i) × (i < n) × Shown false i × ((k : ℕ) → 0 ≤ k → k < i → Shown true k))
      → hidden_answer r ≡ lowest_hidden xs ys quads n
  unfolding lowest_hidden
  found_lowest None all = run_end _ _ _ (passed n (omega arith) (λ k l. all k (omega arith) l)) (omega arith)
  found_lowest (Some i) f = run_out _ _ _ (hidden_at i) (passed i (omega (arith, f.1)) (λ k l. f.3 k (omega arith) l)) f.1 (rw f.2 refl)
