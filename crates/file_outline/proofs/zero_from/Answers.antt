-- `file_outline::zero_from` meets its contract.
use Rattle.std.proofs.Common.{rules, tests, ◌∙◌, ◌-◌, eqb, take, drop, arith}
use Rattle.std.proofs.lemmas.Iterator.{YieldsList-from_slice}
use Rattle.std.proofs.lemmas.Iterator.Search.{all_from_yields_List}
use Rattle.file_outline.specs.File.{zero_from}
use Rattle.file_outline.proofs.Bytes.{all_zero}
use Rattle.file_outline.proofs.zero_from.Goals as goal

pub returns : goal.returns
unfolding zero_from
returns c =
    let b = c.args.b.now in
    let at = c.args.at in
    let bytes = take (510 - at) (drop at b) in
    all_from_yields_List {all = bytes} (λ x. eqb x 0) _ _ _ c.all.ensures.ran (YieldsList-from_slice bytes cc) (λ x b q k. search (rules, tests))
    ∙ all_zero (510 - at) at b (omega (arith, c.requires))
