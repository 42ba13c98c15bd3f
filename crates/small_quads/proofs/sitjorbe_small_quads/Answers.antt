-- `small_quads::sitjorbe_small_quads` meets its contract: `refused_is` and `listed_is` of ListLaws.antt, which rest on `fours_same`. Assumes nothing.
use Rattle.small_quads.proofs.ListLaws.{refused_is, listed_is}
use Rattle.small_quads_lattice.proofs.Theorem.{every_small_quad}
use Rattle.small_quads.proofs.sitjorbe_small_quads.Goals as goal

pub returns-then-fours-count-clause-listed : goal.returns-then-fours-count-clause-listed
returns-then-fours-count-clause-listed c = rw (c.from.ensures, c.default.ensures.1) (refused_is _ _ c.count_quads-count.ensures.0 c.if-fours-count.true)

pub returns-clause-listed : goal.returns-clause-listed
returns-clause-listed c = listed_is _ _ _ c.count_quads-count.ensures.0 c.if-fours-count.false c.list_quads.ensures

pub returns-then-fours-count-clause-every : goal.returns-then-fours-count-clause-every
returns-then-fours-count-clause-every c = every_small_quad

pub returns-clause-every : goal.returns-clause-every
returns-clause-every c = every_small_quad
