-- `PointRing::meets` meets its contract.
use Rattle.std.proofs.Common.{Bool, ℕ, ◌∙◌, arith, rules, tests}
use Rattle.std.proofs.lemmas.Iterator.{YieldsList-from_range}
use Rattle.std.proofs.lemmas.Iterator.Search.{any_from_yields_List}
use Rattle.laws.proofs.Ranges.{any_ranged}
use Rattle.outline.specs.Outline.{points}
use Rattle.outline_orientation.specs.Orient.{in_units}
use Rattle.outline_sound.specs.Sound.{segment_start, segment_end, meets}
use Rattle.outline_soundness.proofs.PointRing.meets.Goals as goal

pub returns : goal.returns
returns c =
    let s = c.args.self.points.now in
    let n = points s in
    let test : ℕ → Bool = λ j. meets (in_units c.args.segment.a) (in_units c.args.segment.b) (segment_start s j) (segment_end s j) in
    any_from_yields_List test _ _ _ c.any.ensures.ran (YieldsList-from_range 0 n n (cc) (omega arith)) (λ x b q k. search (rules, tests))
    ∙ any_ranged test n
