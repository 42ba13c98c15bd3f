-- `hand_mesh_check::any_unsound` meets its contract.
use Rattle.std.proofs.Common.{take, ◌∙◌, rules, tests}
use Rattle.std.specs.Float.{nan}
use Rattle.std.proofs.lemmas.Iterator.{YieldsList-from_slice}
use Rattle.std.proofs.lemmas.Iterator.Search.{any_from_yields_List}
use Rattle.hand_mesh_check.specs.Check.{coordinate_unsound}
use Rattle.hand_mesh_check.proofs.Listed.{any_float}
use Rattle.hand_mesh_check.proofs.any_unsound.Goals as goal

pub returns : goal.returns
returns c =
    let some = take c.args.n c.args.coordinates.now in
    any_from_yields_List coordinate_unsound _ _ _ c.any.ensures.ran (YieldsList-from_slice some (cc)) (λ x b q k. search (rules, tests))
    ∙ any_float coordinate_unsound c.args.coordinates.now nan c.args.n c.requires
