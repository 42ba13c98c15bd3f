-- `DrawnOutline::contains_point` meets its contract.
use Rattle.std.specs.Prelude.{refl}
use Rattle.std.proofs.Common.{arith}
use Rattle.outline.specs.Outline.{loop_at}
use Rattle.outline_blocks.proofs.BlockLaws.{outer_drawn}
use Rattle.outline_blocks.proofs.DrawnOutline.contains_point.Goals as goal

pub point_in_polygon-requires : goal.point_in_polygon-requires
unfolding loop_at
point_in_polygon-requires c = (outer_drawn c.args.self.drawn refl, omega arith)
