-- `order_checks::Presentation::names_each_once` meets its contract.
use Rattle.std.proofs.Common.{sym, ◌∙◌, refl, rules, tests, arith, length}
use Rattle.std.proofs.lemmas.Iterator.{YieldsList-from_range}
use Rattle.std.proofs.lemmas.Iterator.Search.{any_from_yields_List}
use Rattle.laws.proofs.Ranges.{any_ranged}
use Rattle.order.specs.Order.{is_wrong, is_absent, names_each_once}
use Rattle.order_checks.proofs.Presentation.names_each_once.Goals as goal

pub returns-then-not-any : goal.returns-then-not-any
unfolding names_each_once
returns-then-not-any c =
    let args = c.args in
    let l = args.self.now.order.now in
    let wrong = is_wrong args.n l in
    let absent = is_absent l in
    let first =
    any_from_yields_List wrong _ _ c.any.result c.any.ensures.ran (YieldsList-from_range 0 (length l) (length l) (cc) (omega arith))
    (λ x b q k. search (rules, tests)) ∙ any_ranged wrong (length l) in
    let second =
    any_from_yields_List absent _ _ c.any-then-not-any.result c.any-then-not-any.ensures.ran (YieldsList-from_range 0 args.n args.n (cc) (omega arith))
    (λ x b q k. search (rules, tests)) ∙ any_ranged absent args.n in
    rw (sym first ∙ c.if-not-any.true, ← second) refl

pub returns-else-not-any : goal.returns-else-not-any
unfolding names_each_once
returns-else-not-any c =
    let args = c.args in
    let l = args.self.now.order.now in
    let wrong = is_wrong args.n l in
    let first =
    any_from_yields_List wrong _ _ c.any.result c.any.ensures.ran (YieldsList-from_range 0 (length l) (length l) (cc) (omega arith))
    (λ x b q k. search (rules, tests)) ∙ any_ranged wrong (length l) in
    rw (c.if-not-any.false, sym first ∙ c.if-not-any.false) refl
