-- `PointRing::touches` meets its contract.
use Rattle.std.proofs.Common.{Bool, ℕ, ◌∙◌, arith, rules, tests}
use Rattle.std.proofs.lemmas.Iterator.{YieldsList-from_range}
use Rattle.std.proofs.lemmas.Iterator.Search.{any_from_yields_List}
use Rattle.laws.proofs.Ranges.{any_ranged}
use Rattle.outline.specs.Outline.{points}
use Rattle.laws.specs.Loop.{any_up}
use Rattle.outline_sound.specs.Sound.{segment_start, segment_end, meets, touch}
use Rattle.outline_soundness.proofs.PointRing.touches.Goals as goal

pub returns : goal.returns
unfolding touch
returns c =
    let s = c.args.self.points.now in
    let n = points s in
    let test : ℕ → Bool = λ i. any_up (points c.args.other.points.now) (λ j. meets (segment_start s i) (segment_end s i) (segment_start c.args.other.points.now j) (segment_end c.args.other.points.now j)) in
    any_from_yields_List test _ _ _ c.any.ensures.ran (YieldsList-from_range 0 n n (cc) (omega arith)) (λ x b q k. search (rules, tests))
    ∙ any_ranged test n
