-- `LentLinks::write_ids` meets its contract: the loop's invariant is `Writing`.
use Rattle.exam_loop_reads.specs.Code.{Writing}
use Rattle.topology.specs.Walk.{walk_by}
use Rattle.topology.specs.Links.{link_of}
use Rattle.exam_loop_reads.proofs.LentLinks.write_ids.Given as goal

abbrev pub invariant-loop-place : goal.invariant-loop-place
invariant-loop-place l =
    Writing (walk_by (link_of l.self.nodes l.self.next.now) l.self.nodes l.start l.start) l.count l.initial.place-items l.place-items l.u l.place-index
