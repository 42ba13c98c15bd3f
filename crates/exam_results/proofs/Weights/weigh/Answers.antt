-- `Weights::weigh` meets its contract: no step of the sum wraps.
use Rattle.std.proofs.Common.{arith}
use Rattle.exam_results.specs.EstimateLaws.{terms_small}
use Rattle.exam_results.proofs.Weights.weigh.Goals as goal

pub overflow_add-result-2 : goal.overflow_add-result-2
overflow_add-result-2 c = let s = terms_small _ _ _ _ _ _ c.requires in omega arith
