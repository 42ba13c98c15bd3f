-- `holes_of` meets its contract.
use Rattle.std.specs.Prelude.{refl}
use Rattle.outline_loops.specs.Holes.{hole_list}
use Rattle.outline_loops.proofs.HoleList.{filled}
use Rattle.outline_loops.proofs.holes_of.Goals as goal

pub invariant_of-result : goal.invariant_of-result
invariant_of-result c = record { filled = filled _ c.requires c.ranges.domain.0 }

pub returns : goal.returns
unfolding hole_list
returns c = refl
