-- `front_boundary::sample_loop` meets its contract: after i turns the nodes of `sample_turn` are written.
use Rattle.laws.specs.Loop.{for_up, sum_up}
use Rattle.front.specs.Sampling.{parts, sample_turn}
use Rattle.front_boundary.proofs.LayingLaws.{Sampling}
use Rattle.front_boundary.specs.Laying.{NodesWritten}
use Rattle.front_boundary.proofs.sample_loop.Given as goal

abbrev pub invariant-loop-i : goal.invariant-loop-i
invariant-loop-i l =
    Sampling l.size l.s l.initial.paving.counts.nodes l.i l.paving.counts.nodes
    × NodesWritten (sum_up l.i (parts l.size l.s)) (for_up l.i (sample_turn l.size l.s)) l.initial.paving l.paving
