-- `PointRing::crosses_itself` meets its contract: both loops are searches that have found nothing yet.
use Rattle.std.proofs.Common.{◌≡◌}
use Rattle.std.specs.Prelude.{false}
use Rattle.outline.specs.Outline.{points}
use Rattle.outline_sound.specs.Sound.{clash}
use Rattle.laws.specs.Loop.{any_up, Scan}
use Rattle.outline_soundness.proofs.PointRing.crosses_itself.Given as goal

abbrev pub invariant-loop-j : goal.invariant-loop-j
invariant-loop-j l = (l.found ≡ false) × Scan (λ j. clash l.fn.self.points.now j l.i) l.i l.j

abbrev pub invariant-pairs : goal.invariant-pairs
invariant-pairs l =
    (l.found ≡ false) × Scan (λ i. any_up i (λ j. clash l.fn.self.points.now j i)) (points l.fn.self.points.now) l.i
