-- `order_checks::Presentation::early_from` meets its contract: a search of the quads from `from` on.
use Rattle.std.proofs.Common.{◌∙◌, rules, tests, refl}
use Rattle.std.proofs.lemmas.Iterator.{YieldsList-from_range}
use Rattle.std.proofs.lemmas.Iterator.Search.{any_from_yields_List}
use Rattle.laws.proofs.Ranges.{any_ranged_from}
use Rattle.order.specs.Order.{waits_for, too_early}
use Rattle.order_checks.proofs.Presentation.early_from.Goals as goal

pub returns : goal.returns
unfolding too_early
returns c =
    let args = c.args in
    let test = waits_for args.quads.now args.self.now.order.now args.p c.entry_at.result in
    rw (← c.entry_at.ensures)
    (any_from_yields_List test _ _ _ c.any.ensures.ran (YieldsList-from_range args.from args.n _ (cc) refl) (λ x b q k. search (rules, tests))
    ∙ any_ranged_from test (rw (← c.entry_at.ensures) at c.requires))
