-- `replay::line_length` meets its contract.
use Rattle.std.proofs.Common.{rules, tests, eqb, ◌∙◌}
use Rattle.std.proofs.lemmas.Iterator.{YieldsList-from_slice}
use Rattle.std.proofs.lemmas.Iterator.Search.{position_from_yields_List}
use Rattle.replay.proofs.Places.{line_place, line_within}
use Rattle.replay.proofs.line_length.Goals as goal

pub returns : goal.returns
returns c =
    let text = c.args.text.now in
    let place = position_from_yields_List (λ b. eqb b 10) _ _ c.position.result c.position.ensures.ran (YieldsList-from_slice text cc) (λ x b q k. search (rules, tests)) in
    let is = line_place text place c.unwrap_or.ensures in
    record { value = is; within = rw is (line_within text) }
