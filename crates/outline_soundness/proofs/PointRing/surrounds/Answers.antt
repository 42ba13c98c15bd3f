-- `PointRing::surrounds` meets its contract: the fold is the definition's loop.
use Rattle.std.specs.Prelude.{Bool, false, ℕ}
use Rattle.std.proofs.Common.{◌∙◌, arith, rules, tests}
use Rattle.std.proofs.lemmas.Iterator.{YieldsList-from_range}
use Rattle.std.proofs.lemmas.Iterator.Consumers.{fold_from_yields_List}
use Rattle.laws.proofs.Ranges.{fold_ranged}
use Rattle.outline.specs.Outline.{points}
use Rattle.outline.specs.Parity.{odd_turn}
use Rattle.outline_orientation.specs.Orient.{in_units}
use Rattle.outline_sound.specs.Sound.{segment_start, segment_end, ray_meets, is_inside}
use Rattle.outline_soundness.proofs.PointRing.surrounds.Goals as goal

pub returns : goal.returns
unfolding is_inside
returns c =
    let s = c.args.self.points.now in
    let n = points s in
    let turn : ℕ → Bool → Bool = odd_turn (λ i. ray_meets (in_units c.args.segment.a) (segment_start s i) (segment_end s i)) in
    fold_from_yields_List _ (λ odd i. turn i odd) _ c.fold.result c.fold.ensures.ran (YieldsList-from_range 0 n n (cc) (omega arith)) (λ a x b q k. search (rules, tests))
    ∙ fold_ranged turn false n
