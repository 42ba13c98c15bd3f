-- `visit_all` meets its contract: the loop's invariant is `Visiting`.
use Rattle.front_loop_list.specs.Visits.{Visiting}
use Rattle.front_loop_list.specs.Listed.{listed_so_far, SameLoopLists}
use Rattle.front_loop_list.proofs.LoopLists.visit_all.Given as goal

abbrev pub invariant-loop-u : goal.invariant-loop-u
invariant-loop-u l =
    Visiting l.next (listed_so_far l.initial.self) l.u (listed_so_far l.self) × SameLoopLists l.initial.self l.self
