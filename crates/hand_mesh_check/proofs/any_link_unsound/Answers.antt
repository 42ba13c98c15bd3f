-- `hand_mesh_check::any_link_unsound` meets its contract.
use Rattle.std.proofs.Common.{◌∙◌, arith, rules, tests}
use Rattle.std.proofs.lemmas.Iterator.{YieldsList-from_range}
use Rattle.std.proofs.lemmas.Iterator.Search.{any_from_yields_List}
use Rattle.hand_mesh_check.specs.Check.{link_unsound}
use Rattle.front.proofs.Searches.{any_ranged}
use Rattle.hand_mesh_check.proofs.any_link_unsound.Goals as goal

pub returns : goal.returns
returns c =
    let test = link_unsound c.args.n c.args.links.now c.args.back.now in
    any_from_yields_List test _ _ _ c.any.ensures.ran (YieldsList-from_range 0 c.args.n c.args.n (cc) (omega arith)) (λ x b q k. search (rules, tests))
    ∙ any_ranged test c.args.n
