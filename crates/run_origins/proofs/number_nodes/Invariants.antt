-- `run_origins::number_nodes` meets its contract: the loop's invariant is `Numbering`, and each answer is a law of it.
use Rattle.outline.specs.Outline.{outline_of}
use Rattle.run_origins.specs.Writing.{Numbering}
use Rattle.run_origins.proofs.number_nodes.Given as goal

abbrev pub invariant-loop-k : goal.invariant-loop-k
invariant-loop-k l =
    Numbering (outline_of l.domain) l.size l.quads l.count l.k l.n l.initial.origins l.origins
