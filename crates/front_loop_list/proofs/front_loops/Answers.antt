-- `front_loop_list::front_loops` meets its contract: what `clear_marks` and `visit_all` ensure makes it up.
use Rattle.std.proofs.Common.{refl, sym, arith, length-take-le}
use Rattle.front_loop_list.specs.ListedLaws.{startable, listed_all}
use Rattle.front_loop_list.proofs.front_loops.Goals as goal

pub slice_bounds-visit_all-end : goal.slice_bounds-visit_all-end
slice_bounds-visit_all-end c = sym (length-take-le _ _ c.requires.next_fits)

pub visit_all-requires : goal.visit_all-requires
visit_all-requires c = (startable c.requires _ c.clear_marks.ensures, refl)

pub returns : goal.returns
returns c =
    let marks = c.visit_all.ensures.same.marks in
    let loops = c.visit_all.ensures.same.loops in
    let lengths = c.visit_all.ensures.same.lengths in
    let all = listed_all c.requires _ _ c.clear_marks.ensures c.visit_all.ensures.visited in
    grind arith
