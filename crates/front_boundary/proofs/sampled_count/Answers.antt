-- `front_boundary::sampled_count` meets its contract: the fold over the loops is the sum, stopped.
use Rattle.std.specs.Prelude.{List, ℕ, ◌+◌, min, Float}
use Rattle.std.proofs.Common.{◌∙◌, rules, tests}
use Rattle.std.proofs.lemmas.Iterator.Consumers.{fold_from_yields_List}
use Rattle.outline.specs.Outline.{outline_of}
use Rattle.outline_loops.proofs.LoopList.{loops_yield, fold_loop_list}
use Rattle.front.specs.Sampling.{loop_parts}
use Rattle.front_boundary.specs.Counting.{most, even_up}
use Rattle.front_boundary.proofs.StoppedSums.{added_loops}
use Rattle.front_boundary.proofs.sampled_count.Goals as goal

pub returns : goal.returns
returns c =
    let o = outline_of c.args.domain in
    let turn : ℕ → ℕ × (ℕ × List Float) → ℕ = λ sum l. min (sum + even_up (min (loop_parts c.args.size l.1.1) most)) most in
    fold_from_yields_List _ turn _ c.fold.result c.fold.ensures.ran (loops_yield o c.loops_of.result (cc)) (λ a x b q k. search (rules, tests))
    ∙ fold_loop_list o turn 0 ∙ added_loops o c.args.size
