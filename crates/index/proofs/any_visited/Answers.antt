-- `index::any_visited` meets its contract: row by row.
use Rattle.std.specs.Prelude.{ℕ, ◌≡◌, ◌+◌, ◌-◌, true, false, length}
use Rattle.std.proofs.Common.{sym, ap, ◌∙◌, arith, refl, rules, of_calls}
use Rattle.std.proofs.lemmas.Bool.{lt-leb}
use Rattle.std.proofs.lemmas.Iterator.{YieldsList-from_range, cases_from_any}
use Rattle.index_pools.specs.Pool.{span, any_of}
use Rattle.index.specs.Walk.{across, columns, visited}
use Rattle.index.proofs.WalkLaws.{visited_short}
use Rattle.index.proofs.Walked.{across_any}
use Rattle.index.proofs.any_visited.Goals as goal
use Rattle.index.proofs.any_visited.Goals.{then-pool-ge4, else-pool-ge4}

pub returns : goal.returns
unfolding visited any_of
returns g c =
    λ tests decides.
    let pool = c.args.pool.now in
    let r = c.args.r in
    let row = λ (j : ℕ). columns pool j (span r.left r.right) r.left in
    let e : r.high + 1 - r.low ≡ span r.low r.high = omega arith in
    elim c.if-pool-ge4.branch [
      | then-pool-ge4 w ↦
          w.result-is
          ∙ across_any tests row r.low (r.high + 1 - r.low) w.any.result
          (cases_from_any w.any.new.self _ w.any.result (λ j. any_of tests (row j) ≡ true) (λ j. any_of tests (row j) ≡ false) w.any.ensures.ran
          (YieldsList-from_range r.low (r.high + 1) _ (cc) refl)
          (λ j q k. sym (search (rules, of_calls, decides)))
          (λ j q k. (search rules, sym (search (rules, of_calls, decides)))))
          ∙ ap (λ (w : ℕ). any_of tests (across row w r.low)) e
      | else-pool-ge4 w ↦ w.result-is ∙ lt-leb 4 (length pool) w.if-pool-ge4.false ∙ sym (ap (any_of tests) (visited_short pool r (omega (arith, w.if-pool-ge4.false))))
    ]
