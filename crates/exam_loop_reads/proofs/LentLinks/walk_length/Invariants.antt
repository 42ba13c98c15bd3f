-- `LentLinks::walk_length` meets its contract: the loop's invariant is `Stepping`, and each return is a law of it.
use Rattle.exam_loop_reads.specs.Code.{Stepping}
use Rattle.topology.specs.Links.{link_of}
use Rattle.exam_loop_reads.proofs.LentLinks.walk_length.Given as goal

abbrev pub invariant-loop-count : goal.invariant-loop-count
invariant-loop-count l = Stepping (link_of l.self.nodes l.self.next.now) l.self.nodes l.start l.u l.count
