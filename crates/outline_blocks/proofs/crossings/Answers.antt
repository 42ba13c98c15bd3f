-- `outline_blocks::crossings` meets its contract: the fold is `for_between` of the polygon's turn.
use Rattle.std.specs.Prelude.{Bool, ℕ, ◌-◌, refl}
use Rattle.std.proofs.Common.{◌∙◌, rules, tests}
use Rattle.std.proofs.lemmas.Iterator.{YieldsList-from_range}
use Rattle.std.proofs.lemmas.Iterator.Consumers.{fold_from_yields_List}
use Rattle.laws.proofs.Ranges.{fold_ranged_from}
use Rattle.outline.specs.Queries.{polygon_turn}
use Rattle.outline_blocks.specs.Blocks.{for_between}
use Rattle.outline_blocks.proofs.crossings.Goals as goal

pub returns : goal.returns
unfolding for_between
returns c =
    let from = c.args.from in
    let n = c.args.to - from in
    let turn : ℕ → Bool → Bool = polygon_turn c.args.p c.args.s.now in
    fold_from_yields_List _ (λ odd i. turn i odd) _ c.fold.result c.fold.ensures.ran (YieldsList-from_range from c.args.to n (cc) refl) (λ a x b q k. search (rules, tests))
    ∙ fold_ranged_from turn c.args.inside from n
