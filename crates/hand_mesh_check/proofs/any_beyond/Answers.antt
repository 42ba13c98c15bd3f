-- `hand_mesh_check::any_beyond` meets its contract.
use Rattle.std.proofs.Common.{leb, take, ◌∙◌, rules, tests}
use Rattle.std.proofs.lemmas.Iterator.{YieldsList-from_slice}
use Rattle.std.proofs.lemmas.Iterator.Search.{any_from_yields_List}
use Rattle.front.proofs.Searches.{any_listed}
use Rattle.hand_mesh_check.proofs.any_beyond.Goals as goal

pub returns : goal.returns
returns c =
    let some = take c.args.m c.args.ids.now in
    any_from_yields_List (leb c.args.n) _ _ _ c.any.ensures.ran (YieldsList-from_slice some (cc)) (λ x b q k. search (rules, tests))
    ∙ any_listed (leb c.args.n) c.args.ids.now 0 c.args.m c.requires
