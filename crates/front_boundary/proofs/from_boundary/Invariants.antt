-- `front_boundary::from_boundary` meets its contract: the loop's invariant is `Loop` of `boundary_turn`, whatever the snapshot, the quads and the counts.
use Rattle.std.specs.Prelude.{◌≡◌, List, ℕ, length}
use Rattle.laws.specs.Loop.{Loop}
use Rattle.outline.specs.Outline.{outline_of, loop_start}
use Rattle.front.specs.Sampling.{loop_count, front_refusal, boundary_turn}
use Rattle.front.specs.State.{counted, cleared}
use Rattle.front.specs.declared.Counts.{Counts}
use Rattle.front_boundary.proofs.Progress.{Progress}
use Rattle.front_boundary.specs.Laying.{SameRoom, between_in, lent_with}
use Rattle.front_boundary.proofs.from_boundary.Given as goal

abbrev pub invariant-loop-each : goal.invariant-loop-each
invariant-loop-each l =
    let o = outline_of l.domain in
    let k = length l.yielded in
    let n = l.paving.counts.nodes in
    Progress o l.size k (loop_start l.domain.lens.now k) n × SameRoom l.fn.paving l.paving × (l.paving.counts ≡ counted n 0 n n)
    × ((snapshot quads : List ℕ) (counts : Counts) → front_refusal o l.size (lent_with l.fn.paving snapshot quads counts) ≡ 0
    → Loop (boundary_turn o l.size) (cleared (lent_with l.fn.paving snapshot quads counts)) (loop_count o) k (between_in snapshot quads l.paving))
