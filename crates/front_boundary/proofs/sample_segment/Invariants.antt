-- `front_boundary::sample_segment` meets its contract: after k turns the nodes of `cut_turn` are written.
use Rattle.std.specs.Prelude.{◌≤◌}
use Rattle.laws.specs.Loop.{for_up}
use Rattle.front.specs.Sampling.{cut_turn}
use Rattle.front_boundary.specs.Laying.{NodesWritten}
use Rattle.front_boundary.proofs.sample_segment.Given as goal

abbrev pub invariant-loop-k : goal.invariant-loop-k
invariant-loop-k l = (l.k ≤ l.parts) × NodesWritten l.k (for_up l.k (cut_turn l.a l.b l.parts)) l.initial.paving l.paving
