-- `bowl::Steps::way` meets its contract: `way_is`.
use native.Mathlib.Omega.{arith}
use Rattle.bowl.proofs.StepsLaws.{minus_fits, way_is}
use Rattle.bowl.proofs.Steps.way.Goals as goal

pub overflow_sub-result : goal.overflow_sub-result
overflow_sub-result c =
    minus_fits 64064 (omega arith) c.args.b.x c.args.self.x c.requires.1.x c.requires.0.x

pub overflow_sub-result-2 : goal.overflow_sub-result-2
overflow_sub-result-2 c =
    minus_fits 64064 (omega arith) c.args.b.y c.args.self.y c.requires.1.y c.requires.0.y

pub returns : goal.returns
returns c =
    way_is c.args.self c.args.b c.requires.0 c.requires.1
