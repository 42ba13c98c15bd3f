-- `check_loop` meets its contract: what `any` finds is the definition's.
use Rattle.std.specs.Prelude.{refl}
use Rattle.std.proofs.Common.{rules, tests, sym, ◌∙◌, le-ltb}
use Rattle.std.proofs.lemmas.Iterator.{YieldsList-from_slice}
use Rattle.std.proofs.lemmas.Iterator.Search.{any_from_yields_List}
use Rattle.outline.specs.Outline.{not_finite, loop_refusal}
use Rattle.outline.proofs.OutlineLaws.{list_any_float}
use Rattle.outline_loops.proofs.check_loop.Goals as goal

pub returns-then-any : goal.returns-then-any
unfolding loop_refusal
returns-then-any c =
    let xs = c.args.s.now in
    let e = any_from_yields_List not_finite _ _ c.any.result c.any.ensures.ran (YieldsList-from_slice xs cc) (λ x b q k. search (rules, tests)) in
    rw (le-ltb _ _ c.if-s-lt3.false, sym (list_any_float not_finite xs) ∙ sym e ∙ c.if-any.true) refl

pub returns : goal.returns
unfolding loop_refusal
returns c =
    let xs = c.args.s.now in
    let e = any_from_yields_List not_finite _ _ c.any.result c.any.ensures.ran (YieldsList-from_slice xs cc) (λ x b q k. search (rules, tests)) in
    rw (le-ltb _ _ c.if-s-lt3.false, sym (list_any_float not_finite xs) ∙ sym e ∙ c.if-any.false) refl
