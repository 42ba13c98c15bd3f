-- `bowl::Steps::is_left` meets its contract: `left_is`.
use native.Mathlib.Omega.{arith}
use Rattle.bowl.proofs.StepsLaws.{times_fits, left_is}
use Rattle.bowl.proofs.Steps.is_left.Goals as goal

pub overflow_mul-result : goal.overflow_mul-result
overflow_mul-result c =
    times_fits 128128 (omega arith) c.args.self.y c.args.q.x c.requires.0.y c.requires.1.x

pub overflow_mul-result-2 : goal.overflow_mul-result-2
overflow_mul-result-2 c =
    times_fits 128128 (omega arith) c.args.self.x c.args.q.y c.requires.0.x c.requires.1.y

pub returns : goal.returns
returns c =
    left_is c.args.self c.args.q c.requires.0 c.requires.1
