-- `run_origins::number_samples` meets its contract: the loop's invariant is `LoopsNumbered`, and each answer is a law of it.
use Rattle.std.specs.Prelude.{length}
use Rattle.outline.specs.Outline.{outline_of, loop_start}
use Rattle.run_origins.specs.Writing.{LoopsNumbered}
use Rattle.run_origins.proofs.number_samples.Given as goal

abbrev pub invariant-loop-each : goal.invariant-loop-each
invariant-loop-each l =
    LoopsNumbered (outline_of l.domain) l.size (length l.yielded) (loop_start l.domain.lens.now (length l.yielded)) l.n l.fn.origins l.origins
