-- `order_walks::Tested::first_early` meets its contract: none of the quads before the place that the library's `find` finds stands too early.
use Rattle.std.specs.Prelude.{◌≡◌, ◌≤◌, ◌<◌, ℕ, zero, suc, true, false, List, Option, Some, None, MatchOption, length, refl}
use Rattle.std.proofs.Common.{sym, rules, tests, arith, add-one}
use Rattle.std.proofs.lemmas.Iterator.{first_from_Range}
use Rattle.laws.specs.Loop.{Run, run_start, run_go, run_out, run_end}
use Rattle.order.specs.Order.{order_accepted, early_at, early_turn, too_early, first_early}
use Rattle.order_walks.specs.Steps.{early_answer}
use Rattle.order_walks.proofs.Tested.first_early.Goals as goal

module _ (quads : List ℕ) (n : ℕ) (order : List ℕ) where
  passed : (k : ℕ) → k ≤ length order → ((p : ℕ) → p < k → too_early quads n order p ≡ false) → Run (early_turn quads n order) (λ s. order_accepted) tt (length order) k tt
  passed zero le none = run_start (early_turn quads n order) (λ s. order_accepted) tt (length order)
  passed (suc k) le none =
      rw (sym (add-one k))
      (run_go (early_turn quads n order) (λ s. order_accepted) tt tt (passed k (omega arith) (λ p h. none p (omega arith))) (omega arith) (rw (none k (omega arith)) refl))

  first_none : ((p : ℕ) → p < length order → too_early quads n order p ≡ false) → order_accepted ≡ first_early quads n order
  unfolding first_early
  first_none none = run_end (early_turn quads n order) (λ s. order_accepted) tt (passed (length order) (omega arith) none) (omega arith)

  first_some : (i : ℕ) → i < length order → too_early quads n order i ≡ true → ((p : ℕ) → p < i → too_early quads n order p ≡ false)
      → early_at i ≡ first_early quads n order
  unfolding first_early
  first_some i less early none =
      run_out (early_turn quads n order) (λ s. order_accepted) tt (early_at i) (passed i (omega arith) none) less (rw early refl)

  answers : (r : Option ℕ)
      → MatchOption r ((p : ℕ) → 0 ≤ p → p < length order → too_early quads n order p ≡ false)
      (λ i. (0 ≤ i) × (i < length order) × (too_early quads n order i ≡ true) × ((p : ℕ) → 0 ≤ p → p < i → too_early quads n order p ≡ false))
      → early_answer r ≡ first_early quads n order
  answers None none = first_none (λ p h. none p (omega arith) h)
  answers (Some i) found = first_some i found.1 found.2 (λ p h. found.3 p (omega arith) h)

pub returns : goal.returns
returns c =
    let s = c.args.self.now in
    let order = s.presentation.order.now in
    let early = too_early s.quads.now s.n order in
    answers s.quads.now s.n order c.find.result
    (first_from_Range _ _ _ _ (λ p. early p ≡ true) (λ p. early p ≡ false) c.find.ensures.ran (λ p q k. search (rules, tests)) (λ p q k. search (rules, tests)))
