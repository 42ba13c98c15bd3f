-- `hand_mesh_check::count_links` meets its contract.
use Rattle.std.proofs.Common.{take, ◌∙◌, rules, tests}
use Rattle.std.proofs.lemmas.Iterator.{YieldsList-from_slice}
use Rattle.std.proofs.lemmas.Iterator.Consumers.{YieldsList-from_filter, count_from_yields_List}
use Rattle.hand_mesh_check.proofs.Listed.{is_link, links_counted}
use Rattle.hand_mesh_check.proofs.count_links.Goals as goal

pub returns : goal.returns
returns c =
    let some = take c.args.n c.args.links.now in
    count_from_yields_List c.filter.result _ c.count.ensures.ran
    (YieldsList-from_filter _ is_link (YieldsList-from_slice some (cc)) c.filter.ensures.closure (λ x b q k. search (rules, tests)))
    ∙ links_counted c.args.n c.args.links.now c.requires
