-- `search_loop` meets its contract: the loop's invariant is `ByBlocks` of the search's turn.
use Rattle.std.specs.Prelude.{◌+◌, ◌*◌}
use Rattle.outline.specs.Outline.{points}
use Rattle.outline.specs.Search.{search_turn}
use Rattle.outline_blocks.specs.Blocks.{block_size}
use Rattle.outline_blocks.proofs.BetweenLaws.{ByBlocks}
use Rattle.outline_nearest.proofs.search_loop.Given as goal

abbrev pub invariant-loop-c : goal.invariant-loop-c
invariant-loop-c l = ByBlocks (search_turn l.p l.s l.loop_index) l.initial.found (points l.s) l.first (block_size * l.c) (l.first + l.c) l.found
