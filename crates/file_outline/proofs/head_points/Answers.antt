-- `file_outline::head_points` meets its contract: the sum fits, since a term is at most 65,535.
use Rattle.std.specs.List.{range_with_len}
use Rattle.std.proofs.Common.{◌∙◌, arith, rules, tests}
use Rattle.std.proofs.lemmas.Iterator.{YieldsList-from_range, YieldsList-from_map}
use Rattle.std.proofs.lemmas.Iterator.Consumers.{sum_by_from_yields_List, fits_by_from_yields_list}
use Rattle.file_outline.specs.File.{head_length, head_points}
use Rattle.file_outline.proofs.Sums.{sum_ranged, lengths_small}
use Rattle.file_outline.proofs.head_points.Goals as goal

pub sum-requires-clause-fits : goal.sum-requires-clause-fits
sum-requires-clause-fits c =
    let h = c.args.h.now in
    let n = c.args.n in
    fits_by_from_yields_list (head_length h) (range_with_len 0 n) c.map.result _
    (YieldsList-from_map _ (head_length h) (YieldsList-from_range 0 n n (cc) (omega arith)) c.map.ensures.closure (λ x r q k. search (rules, tests)))
    (omega (arith, sum_ranged (head_length h) n, lengths_small h n (λ i. omega (arith, c.fits-h i)), c.requires))

pub returns : goal.returns
unfolding head_points
returns c =
    let h = c.args.h.now in
    let n = c.args.n in
    sum_by_from_yields_List (head_length h) (range_with_len 0 n) c.map.result _ c.sum.ensures.ran
    (YieldsList-from_map _ (head_length h) (YieldsList-from_range 0 n n (cc) (omega arith)) c.map.ensures.closure (λ x r q k. search (rules, tests)))
    ∙ sum_ranged (head_length h) n
