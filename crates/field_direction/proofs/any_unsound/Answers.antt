-- `field_direction::any_unsound` meets its contract. Assumes nothing.
use Rattle.std.proofs.Common.{rules, tests, ◌∙◌}
use Rattle.std.proofs.lemmas.Iterator.{YieldsList-from_slice}
use Rattle.std.proofs.lemmas.Iterator.Search.{any_from_yields_List}
use Rattle.outline.proofs.OutlineLaws.{list_any_float}
use Rattle.field_direction.specs.Direction.{value_unsound}
use Rattle.field_direction.proofs.any_unsound.Goals as goal

pub returns : goal.returns
returns c =
    any_from_yields_List value_unsound _ _ _ c.any.ensures.ran (YieldsList-from_slice c.args.values.now cc)
    (λ x b q k. search (rules, tests))
    ∙ list_any_float value_unsound c.args.values.now
