-- `figures_always_kept` meets its contract.
use Rattle.exam.proofs.Given.{exam_always_kept}
use Rattle.exam.proofs.figures_always_kept.Goals as goal

pub returns : goal.returns
returns c = exam_always_kept
