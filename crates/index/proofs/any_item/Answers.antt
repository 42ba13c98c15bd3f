-- `index::any_item` meets its contract: the walk answers for the items filed, and the scan for the others.
use Rattle.std.specs.Prelude.{true, false}
use Rattle.std.proofs.Common.{sym, ◌∙◌, arith, refl, rules, of_calls}
use Rattle.std.proofs.lemmas.Iterator.{YieldsList-from_range, cases_from_any, serves_from_Range}
use Rattle.laws.specs.Loop.{found_before}
use Rattle.index_pools.specs.Filing.{unfound}
use Rattle.index.proofs.WalkLaws.{visited_filed}
use Rattle.index.proofs.Scan.{Answered, scanned}
use Rattle.index.proofs.any_item.Goals as goal
use Rattle.index.proofs.any_item.Goals.{then-any_visited, else-any_visited}

pub any-requires-clause-callable : goal.any-requires-clause-callable
any-requires-clause-callable g c =
    serves_from_Range (λ x q k. search rules)
    (λ x low high. let may = c.requires.scanned x (omega arith) in search (rules, of_calls))

pub returns : goal.returns
returns g c =
    λ tests rects decides indexed met.
    let n = c.args.count in
    let e = c.any_visited.ensures tests (λ id b h p. decides id b (omega arith) p) ∙ visited_filed indexed met in
    elim c.if-any_visited.branch [
      | then-any_visited w ↦ w.result-is ∙ w.if-any_visited.true ∙ found_before tests indexed.within (sym w.if-any_visited.true ∙ e)
      | else-any_visited w ↦
          let u = unfound w.filed.ensures indexed (sym w.if-any_visited.false ∙ e) in
          w.result-is
          ∙ scanned tests u w.any.result
          (cases_from_any w.any.new.self _ w.any.result (Answered tests n true) (Answered tests n false) w.any.ensures.ran (YieldsList-from_range w.filed.result n _ (cc) refl)
          (λ id q k low. sym (decides id true (omega arith) (search rules)))
          (λ id q k. (search rules, λ low. sym (decides id false (omega arith) (search rules)))))
    ]
