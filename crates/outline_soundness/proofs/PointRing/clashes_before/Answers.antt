-- `PointRing::clashes_before` meets its contract: each hole that the iterator gives is the outline's.
use Rattle.std.specs.Prelude.{Bool, List, ℕ, Float}
use Rattle.std.proofs.Common.{◌∙◌, rules, tests, of_calls, refl}
use Rattle.std.proofs.lemmas.Iterator.{YieldsList-from_take}
use Rattle.std.proofs.lemmas.Iterator.Adapters.{serves_from_places}
use Rattle.std.proofs.lemmas.Iterator.Search.{any_from_yields_List}
use Rattle.outline.specs.Outline.{outline_of}
use Rattle.outline_loops.proofs.HoleList.{holes_yield, first_place, any_first_hole}
use Rattle.outline_soundness.specs.WalkLaws.{hole_accepted, holes_clash}
use Rattle.outline_soundness.proofs.PointRing.clashes_before.Goals as goal

pub any-requires-clause-callable : goal.any-requires-clause-callable
any-requires-clause-callable c =
    let o = outline_of c.args.domain in
    let p = c.requires in
    serves_from_places (YieldsList-from_take {s = c.take.result} c.args.k (holes_yield o c.take.result.iter (cc)) (cc))
    (λ hole q k. search rules)
    (λ hole k within e.
    let place = first_place o c.args.k p.1 k hole within e in
    let good = rw (← place.points) at (hole_accepted p.0 k place.within) in
    search (rules, of_calls))

pub returns : goal.returns
returns c =
    let o = outline_of c.args.domain in
    let s = c.args.self.points.now in
    let test : ℕ × (ℕ × List Float) → Bool = λ p. holes_clash s p.1.1 in
    any_from_yields_List test c.any.new.self _ c.any.result c.any.ensures.ran (YieldsList-from_take {s = c.take.result} c.args.k (holes_yield o c.take.result.iter (cc)) (cc))
    (λ hole b q k. search (rules, tests))
    ∙ any_first_hole o test _ (λ k h. refl) c.args.k c.requires.1
