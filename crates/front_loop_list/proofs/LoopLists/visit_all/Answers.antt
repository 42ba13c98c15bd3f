-- `visit_all` meets its contract: the loop's invariant is `Visiting`, and each answer is a law of it.
use Rattle.std.proofs.Common.{refl, ◌∙◌}
use Rattle.front_loop_list.specs.Visits.{visiting_start, visiting_visitable, visiting_next, visiting_end}
use Rattle.front_loop_list.proofs.LoopLists.visit_all.Goals as goal

pub loop-u-init : goal.loop-u-init
loop-u-init c = (visiting_start _ _, record { marks = refl; loops = refl; lengths = refl })

pub visit-requires : goal.visit-requires
visit-requires c =
    visiting_visitable c.requires.0 (rw c.requires.1 at c.loop-u.invariant.0) c.loop-u-test.true

pub loop-u-preserved : goal.loop-u-preserved
loop-u-preserved c =
    let s = c.loop-u.invariant.1 in
    let t = c.visit.ensures.same in (
      visiting_next _ c.loop-u.invariant.0 c.loop-u-test.true c.visit.ensures.visited,
      record { marks = t.marks ∙ s.marks; loops = t.loops ∙ s.loops; lengths = t.lengths ∙ s.lengths },
    )

pub returns-clause-visited : goal.returns-clause-visited
returns-clause-visited c = visiting_end (rw c.requires.1 at c.loop-u.invariant.0) c.loop-u-test.false
