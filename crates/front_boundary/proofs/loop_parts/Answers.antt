-- `front_boundary::loop_parts` meets its contract: the fold is the sum, stopped.
use Rattle.std.specs.Prelude.{ℕ, ◌/◌, length}
use Rattle.std.proofs.Common.{◌∙◌, arith, rules, tests}
use Rattle.std.proofs.lemmas.Iterator.{YieldsList-from_range}
use Rattle.std.proofs.lemmas.Iterator.Consumers.{fold_from_yields_List}
use Rattle.laws.proofs.Ranges.{fold_ranged}
use Rattle.front.specs.Sampling.{parts, loop_parts}
use Rattle.front_boundary.proofs.StoppedSums.{added_turn, added_sum}
use Rattle.front_boundary.proofs.loop_parts.Goals as goal

pub returns : goal.returns
unfolding loop_parts
returns c =
    let n = length c.args.s.now / 2 in
    let f = parts c.args.size c.args.s.now in
    let turn : ℕ → ℕ → ℕ = added_turn f in
    fold_from_yields_List _ (λ sum i. turn i sum) _ c.fold.result c.fold.ensures.ran (YieldsList-from_range 0 n n (cc) (omega arith)) (λ a x b q k. search (rules, tests))
    ∙ fold_ranged turn 0 n ∙ added_sum f n
