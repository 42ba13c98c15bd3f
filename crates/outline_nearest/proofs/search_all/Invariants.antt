-- `search_all` meets its contract: the loop's invariant is `Loop` of the definition's turn over the loops.
use Rattle.std.specs.Prelude.{suc, length}
use Rattle.laws.specs.Loop.{Loop}
use Rattle.outline.specs.Outline.{outline_of}
use Rattle.outline.specs.Search.{search_loop}
use Rattle.outline_loops.proofs.LoopList.{loop_turn}
use Rattle.outline_nearest.proofs.search_all.Given as goal

abbrev pub invariant-loop-each : goal.invariant-loop-each
invariant-loop-each l =
    Loop (loop_turn (outline_of l.outline.domain) (λ k s found. search_loop l.p s k found)) l.fn.best (suc (length l.outline.domain.lens.now)) (length l.yielded) l.found
