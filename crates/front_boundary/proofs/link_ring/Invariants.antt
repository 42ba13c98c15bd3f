-- `front_boundary::link_ring` meets its contract: after i turns the edges of `link_turn` are written.
use Rattle.std.specs.Prelude.{◌≡◌, ◌≤◌}
use Rattle.laws.specs.Loop.{for_up}
use Rattle.front.specs.Sampling.{ring_count}
use Rattle.front_boundary.specs.Laying.{EdgesWritten, link_turn}
use Rattle.front_boundary.proofs.link_ring.Given as goal

abbrev pub invariant-loop-i : goal.invariant-loop-i
invariant-loop-i l =
    (l.n ≡ ring_count l.ring) × (l.i ≤ l.n) × EdgesWritten l.i (for_up l.i (link_turn l.ring)) l.initial.paving l.paving
