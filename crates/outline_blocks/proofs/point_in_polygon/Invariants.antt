-- `point_in_polygon` meets its contract: the loop's invariant is `ByBlocks` of the definition's turn.
use Rattle.std.specs.Prelude.{false, ◌+◌, ◌*◌}
use Rattle.outline.specs.Outline.{points}
use Rattle.outline.specs.Queries.{polygon_turn}
use Rattle.outline_blocks.specs.Blocks.{block_size}
use Rattle.outline_blocks.proofs.BetweenLaws.{ByBlocks}
use Rattle.outline_blocks.proofs.point_in_polygon.Given as goal

abbrev pub invariant-loop-c : goal.invariant-loop-c
invariant-loop-c l = ByBlocks (polygon_turn l.p l.s) false (points l.s) l.first (block_size * l.c) (l.first + l.c) l.inside
