-- `file_outline::check_of` meets its contract: the sum fits, since a term is at most 130,050.
use Rattle.std.specs.List.{range_with_len}
use Rattle.std.proofs.Common.{◌∙◌, ap, ℕ, ◌%◌, arith, rules, tests}
use Rattle.std.proofs.lemmas.Iterator.{YieldsList-from_range, YieldsList-from_map}
use Rattle.std.proofs.lemmas.Iterator.Consumers.{sum_by_from_yields_List, fits_by_from_yields_list}
use Rattle.file_outline.specs.File.{weighted_byte, check_of}
use Rattle.file_outline.proofs.Sums.{sum_ranged, check_small}
use Rattle.file_outline.proofs.check_of.Goals as goal

pub sum-sum-requires-clause-fits : goal.sum-sum-requires-clause-fits
sum-sum-requires-clause-fits c =
    let b = c.args.b.now in
    fits_by_from_yields_list (weighted_byte b) (range_with_len 0 510) c.map.result _
    (YieldsList-from_map _ (weighted_byte b) (YieldsList-from_range 0 510 510 (cc) (omega arith)) c.map.ensures.closure (λ x r q k. search (rules, tests)))
    (check_small b (λ i. omega (arith, c.type_inv.b i)))

pub returns : goal.returns
unfolding check_of
returns c =
    let b = c.args.b.now in
    ap (λ (n : ℕ). n % 65521)
    (sum_by_from_yields_List (weighted_byte b) (range_with_len 0 510) c.map.result _ c.sum-sum.ensures.ran
    (YieldsList-from_map _ (weighted_byte b) (YieldsList-from_range 0 510 510 (cc) (omega arith)) c.map.ensures.closure (λ x r q k. search (rules, tests)))
    ∙ sum_ranged (weighted_byte b) 510)
