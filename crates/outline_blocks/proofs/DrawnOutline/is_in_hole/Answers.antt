-- `DrawnOutline::is_in_hole` meets its contract: the blocks of the hole are those of loop `index + 1`.
use Rattle.std.proofs.Common.{arith}
use Rattle.outline_loops.proofs.HoleList.{place_passed, place_loop}
use Rattle.outline_blocks.proofs.BlockLaws.{drawn_shape, hole_asks, hole_drawn}
use Rattle.outline_blocks.proofs.DrawnOutline.is_in_hole.Goals as goal

pub first_block-first-requires : goal.first_block-first-requires
first_block-first-requires c =
    let place = c.requires in
    let drawn = c.args.self.drawn in
    hole_asks (place_passed place (drawn_shape drawn)) place.within drawn.taken

pub overflow_add-hole : goal.overflow_add-hole
overflow_add-hole c =
    let place = c.requires in
    let drawn = c.args.self.drawn in
    omega (arith, hole_asks (place_passed place (drawn_shape drawn)) place.within drawn.taken)

pub point_in_polygon-requires : goal.point_in_polygon-requires
point_in_polygon-requires c =
    let place = c.requires in
    let drawn = c.args.self.drawn in
    hole_drawn (place_passed place (drawn_shape drawn)) place.within drawn (place_loop place) c.first_block-first.ensures
