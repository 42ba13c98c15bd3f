-- `field_cross::Bounds::around` meets its contract: the fold is `for_up` of a point's turn. Assumes nothing.
use Rattle.std.specs.Prelude.{ℕ, ◌/◌, length}
use Rattle.std.proofs.Common.{◌∙◌, arith, rules, tests}
use Rattle.std.proofs.lemmas.Iterator.{YieldsList-from_range}
use Rattle.std.proofs.lemmas.Iterator.Consumers.{fold_from_yields_List}
use Rattle.laws.proofs.Ranges.{fold_ranged}
use Rattle.field_cross.specs.declared.Bounds.{Bounds}
use Rattle.field_cross.specs.Grid.{bounds_turn, loop_bounds}
use Rattle.field_cross.proofs.Bounds.around.Goals as goal

pub returns : goal.returns
unfolding loop_bounds
returns c =
    let n = length c.args.s.now / 2 in
    let turn : ℕ → Bounds → Bounds = bounds_turn c.args.s.now in
    fold_from_yields_List _ (λ wide i. turn i wide) _ c.fold.result c.fold.ensures.ran (YieldsList-from_range 0 n n (cc) (omega arith)) (λ a x b q k. search (rules, tests))
    ∙ fold_ranged turn c.args.self n
