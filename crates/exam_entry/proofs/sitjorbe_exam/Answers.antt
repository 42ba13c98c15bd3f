-- `sitjorbe_exam` meets its contract: what `ask` does, by its numbers.
use Rattle.std.proofs.Common.{rules}
use Rattle.exam_entry.proofs.CodeLaws.{exam_asked}
use Rattle.exam_entry.proofs.sitjorbe_exam.Goals as goal

pub returns : goal.returns
returns c = exam_asked _ _ _ _ _ _ _ _ (search rules) _ c.from.ensures
