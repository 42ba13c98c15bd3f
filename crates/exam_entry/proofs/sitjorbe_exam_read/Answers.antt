-- `sitjorbe_exam_read` meets its contract: what `ask_to_read` does, by its numbers.
use Rattle.std.proofs.Common.{rules}
use Rattle.exam_entry.proofs.CodeLaws.{exam_asked}
use Rattle.exam_entry.proofs.sitjorbe_exam_read.Goals as goal

pub returns : goal.returns
returns c = exam_asked _ _ _ _ _ _ _ _ (search rules) _ c.from.ensures
