-- `check_outline` meets its contract: what `any` finds is the definition's.
use Rattle.std.proofs.Common.{rules, tests, arith}
use Rattle.std.proofs.lemmas.Grind.{common_steps}
use Rattle.std.proofs.lemmas.Iterator.{YieldsList-from_slice}
use Rattle.std.proofs.lemmas.Iterator.Search.{any_from_yields_List}
use Rattle.outline.specs.Outline.{beyond, outline_refusal, far_refusal}
use Rattle.outline.proofs.OutlineLaws.{list_any_float}
use Rattle.outline_loops.proofs.check_outline.Goals as goal
use Rattle.outline_loops.proofs.check_outline.Goals.{then-any-via-then-any, then-any-via-else-any+then-any-2}

pub returns-then-any : goal.returns-then-any
unfolding outline_refusal far_refusal
returns-then-any c =
    let xs = c.args.domain.outer.now in
    let ys = c.args.domain.holes.now in
    let e = any_from_yields_List beyond _ _ c.any.result c.any.ensures.ran (YieldsList-from_slice xs cc) (λ x b q k. search (rules, tests)) in
    let e' = list_any_float beyond xs in
    elim c.then-any.branch [
      | then-any-via-then-any w ↦ grind (arith, common_steps)
      | then-any-via-else-any+then-any-2 w ↦
          let f = any_from_yields_List beyond _ _ w.any-else-any.result w.any-else-any.ensures.ran (YieldsList-from_slice ys cc) (λ x b q k. search (rules, tests)) in
          let f' = list_any_float beyond ys in
          grind (arith, common_steps)
    ]

pub returns : goal.returns
unfolding outline_refusal far_refusal
returns c =
    let xs = c.args.domain.outer.now in
    let ys = c.args.domain.holes.now in
    let e = any_from_yields_List beyond _ _ c.any.result c.any.ensures.ran (YieldsList-from_slice xs cc) (λ x b q k. search (rules, tests)) in
    let e' = list_any_float beyond xs in
    let f = any_from_yields_List beyond _ _ c.any-else-any.result c.any-else-any.ensures.ran (YieldsList-from_slice ys cc) (λ x b q k. search (rules, tests)) in
    let f' = list_any_float beyond ys in
    grind (arith, common_steps)
