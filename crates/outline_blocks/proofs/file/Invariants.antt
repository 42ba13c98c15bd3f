-- `file` meets its contract: the loop's invariant is that the loops passed are filed.
use Rattle.std.specs.Prelude.{◌≡◌, length}
use Rattle.outline.specs.Outline.{outline_of}
use Rattle.outline_blocks.proofs.FilingLaws.{LoopsFiled}
use Rattle.outline_blocks.proofs.file.Given as goal

abbrev pub invariant-loop-each : goal.invariant-loop-each
invariant-loop-each l = LoopsFiled (outline_of l.domain) l.blocks (length l.yielded) × (length l.blocks ≡ length l.initial.blocks)
