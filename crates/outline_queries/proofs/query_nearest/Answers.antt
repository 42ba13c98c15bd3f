-- `query_nearest` meets its contract: answered by `search_outline`, with no blocks.
use Rattle.std.specs.Prelude.{refl}
use Rattle.std.proofs.Common.{rules}
use Rattle.outline.specs.Outline.{outline_of}
use Rattle.outline_queries.proofs.Laws.{query_drawn}
use Rattle.outline_queries.proofs.query_nearest.Goals as goal

pub invariant_of-plain : goal.invariant_of-plain
invariant_of-plain c =
    record {
      drawn = query_drawn (outline_of c.args.domain) c.args.p (search rules) (record { outer = λ i h. c.args.domain.doubles.outer i; holes = λ i h. c.args.domain.doubles.holes i }) refl;
    }
