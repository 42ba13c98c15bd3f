-- `check_loops` meets its contract: the loop's invariant is that no loop so far is refused.
use Rattle.std.specs.Prelude.{length}
use Rattle.outline.specs.Outline.{outline_of}
use Rattle.outline_loops.proofs.LoopsChecked.{NoneRefused}
use Rattle.outline_loops.proofs.check_loops.Given as goal

abbrev pub invariant-loop-each : goal.invariant-loop-each
invariant-loop-each l = NoneRefused (outline_of l.domain) (length l.yielded)
