-- `PointRing::is_unsound` meets its contract.
use Rattle.outline_soundness.specs.WalkLaws.{outer_accepted}
use Rattle.outline_soundness.proofs.PointRing.is_unsound.Goals as goal

pub new-outer-requires : goal.new-outer-requires
new-outer-requires c = outer_accepted c.requires.0
