-- `bowl::store_steps` meets its contract: its invariant is `Loop`. Assumes nothing.
use Rattle.laws.specs.Loop.{Loop}
use Rattle.bowl.specs.Steps.{store_turn}
use Rattle.bowl.proofs.store_steps.Given as goal

abbrev pub invariant-loop-i : goal.invariant-loop-i
invariant-loop-i l = Loop (store_turn l.mesh.xs.now l.mesh.ys.now) l.initial.steps l.mesh.counts.nodes l.i l.steps
