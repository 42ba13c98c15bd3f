-- `outline_blocks::farthest` meets its contract: of the segments that the fold has passed none reaches farther than the one kept.
use Rattle.std.proofs.Common.{Bool, true, false, cond, List, ℕ, zero, suc, ◌+◌, ◌-◌, ◌≤◌, ◌<◌, ◌≡◌, refl, ◌∙◌, subst, arith, rules, tests}
use Rattle.std.specs.Prelude.{Float}
use Rattle.std.proofs.lemmas.Iterator.{YieldsList-from_range}
use Rattle.std.proofs.lemmas.Iterator.Consumers.{fold_from_yields_List}
use Rattle.laws.specs.Loop.{for_up}
use Rattle.laws.proofs.Ranges.{fold_ranged_from}
use Rattle.outline.specs.Outline.{points}
use Rattle.outline_blocks.specs.Blocks.{reach, is_farther, Farthest}
use Rattle.outline_blocks.proofs.FilingLaws.{far_start, far_stays, far_moves, far_end}
use Rattle.outline_blocks.proofs.farthest.Goals as goal
use Rattle.outline_blocks.proofs.farthest.Goals.{After-fold}

abbrev turn : List Float → ℕ → ℕ → ℕ → ℕ
turn s d i far = cond (is_farther d (reach d s i) (reach d s far)) i far

step : (s : List Float) (d from i far : ℕ) → Farthest s d from i far → i < points s → Farthest s d from (i + 1) (turn s d i far)
step s d from i far f h = go (is_farther d (reach d s i) (reach d s far)) refl
  where
    go : (t : Bool) → is_farther d (reach d s i) (reach d s far) ≡ t → Farthest s d from (i + 1) (cond t i far)
    go true e = far_moves f h e
    go false e = far_stays f e

steps : (s : List Float) (d from n : ℕ) → from < points s → from + 1 + n ≤ points s
    → Farthest s d from (from + 1 + n) (for_up n (λ j. turn s d (from + 1 + j)) from)
unfolding for_up
steps s d from zero h k = subst (λ (i : ℕ). Farthest s d from i from) {y = from + 1 + 0} (omega arith) (far_start h)
steps s d from (suc n) h k =
    let far : ℕ = for_up n (λ j. turn s d (from + 1 + j)) from in
    subst (λ (i : ℕ). Farthest s d from i (turn s d (from + 1 + n) far)) {y = from + 1 + suc n} (omega arith)
    (step s d from (from + 1 + n) far (steps s d from n h (omega arith)) (omega arith))

kept : (c : After-fold) → Farthest c.args.s.now c.args.d c.args.from c.args.to c.fold.result
kept c =
    let s = c.args.s.now in
    let d = c.args.d in
    let from = c.args.from in
    let n : ℕ = c.args.to - (from + 1) in
    let is : c.fold.result ≡ for_up n (λ j. turn s d (from + 1 + j)) from =
    fold_from_yields_List _ (λ far i. turn s d i far) _ c.fold.result c.fold.ensures.ran (YieldsList-from_range (from + 1) c.args.to n (cc) refl) (λ a x b q k. search (rules, tests))
    ∙ fold_ranged_from (turn s d) from (from + 1) n in
    far_end {i = from + 1 + n} (rw is (steps s d from n (omega (arith, c.requires)) (omega (arith, c.requires)))) (omega (arith, c.requires)) (omega (arith, c.requires))

pub overflow_cast-result : goal.overflow_cast-result
overflow_cast-result c = omega (arith, c.requires, (kept c).there)

pub returns : goal.returns
returns c = kept c
