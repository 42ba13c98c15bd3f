-- `PointRing::any_point` meets its contract.
use Rattle.std.proofs.Common.{Bool, ℕ, ◌∙◌, arith, rules, tests}
use Rattle.std.proofs.lemmas.Iterator.{YieldsList-from_range}
use Rattle.std.proofs.lemmas.Iterator.Search.{any_from_yields_List}
use Rattle.laws.proofs.Ranges.{any_ranged}
use Rattle.std.specs.Bool.{beq}
use Rattle.outline.specs.Outline.{points}
use Rattle.outline_sound.specs.Sound.{segment_start, is_inside}
use Rattle.outline_soundness.specs.WalkLaws.{any_point}
use Rattle.outline_soundness.proofs.PointRing.any_point.Goals as goal

pub returns : goal.returns
unfolding any_point
returns c =
    let s = c.args.self.points.now in
    let n = points s in
    let test : ℕ → Bool = λ i. beq (is_inside (segment_start s i) c.args.other.points.now) c.args.inside in
    any_from_yields_List test _ _ _ c.any.ensures.ran (YieldsList-from_range 0 n n (cc) (omega arith)) (λ x b q k. search (rules, tests))
    ∙ any_ranged test n
