-- `outline_nearest::search_part` meets its contract: the fold is `for_between` of the search's turn.
use Rattle.std.specs.Prelude.{ℕ, ◌-◌, refl}
use Rattle.std.proofs.Common.{◌∙◌, rules, tests}
use Rattle.std.proofs.lemmas.Iterator.{YieldsList-from_range}
use Rattle.std.proofs.lemmas.Iterator.Consumers.{fold_from_yields_List}
use Rattle.laws.proofs.Ranges.{fold_ranged_from}
use Rattle.outline.specs.declared.Search.{Search}
use Rattle.outline.specs.Search.{search_turn}
use Rattle.outline_blocks.specs.Blocks.{for_between}
use Rattle.outline_nearest.proofs.search_part.Goals as goal

pub returns : goal.returns
unfolding for_between
returns c =
    let from = c.args.from in
    let n = c.args.to - from in
    let turn : ℕ → Search → Search = search_turn c.args.p c.args.s.now c.args.loop_index in
    fold_from_yields_List _ (λ found i. turn i found) _ c.fold.result c.fold.ensures.ran (YieldsList-from_range from c.args.to n (cc) refl) (λ a x b q k. search (rules, tests))
    ∙ fold_ranged_from turn c.args.best from n
