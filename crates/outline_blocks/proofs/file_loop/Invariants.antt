-- `file_loop` meets its contract: the loop's invariant is that the blocks before the next are filed.
use Rattle.std.specs.Prelude.{◌+◌}
use Rattle.outline_blocks.proofs.FilingLaws.{FiledTo}
use Rattle.outline_blocks.proofs.file_loop.Given as goal

abbrev pub invariant-loop-c : goal.invariant-loop-c
invariant-loop-c l = FiledTo l.s l.initial.blocks l.blocks l.first (l.first + l.c)
