-- `geometry::highest` meets its contract: what is picked is the greatest.
use Rattle.std.specs.Float.Ieee.{of_bits}
use Rattle.std.proofs.Common.{rules}
use Rattle.numbers.specs.Float.{max_f}
use Rattle.geometry.specs.Keys.{highest, greatest_of}
use Rattle.geometry.proofs.highest.Goals as goal

pub returns : goal.returns
unfolding highest greatest_of of_bits
returns c = c.picked.ensures max_f (λ x y r h. search rules)
