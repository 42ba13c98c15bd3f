-- `geometry::lowest` meets its contract: what is picked is the least.
use Rattle.std.specs.Float.Ieee.{of_bits}
use Rattle.std.proofs.Common.{rules}
use Rattle.numbers.specs.Float.{min_f}
use Rattle.geometry.specs.Keys.{lowest, least_of}
use Rattle.geometry.proofs.lowest.Goals as goal

pub returns : goal.returns
unfolding lowest least_of of_bits
returns c = c.picked.ensures min_f (λ x y r h. search rules)
