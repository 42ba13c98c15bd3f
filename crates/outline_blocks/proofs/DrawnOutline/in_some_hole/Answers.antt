-- `DrawnOutline::in_some_hole` meets its contract: each hole that the iterator gives is the outline's.
use Rattle.std.specs.Prelude.{Bool, List, ℕ, Float}
use Rattle.std.proofs.Common.{◌∙◌, sym, rules, tests, of_calls, refl}
use Rattle.std.proofs.lemmas.Iterator.Adapters.{serves_from_places}
use Rattle.std.proofs.lemmas.Iterator.Search.{any_from_yields_List}
use Rattle.outline.specs.Outline.{outline_of}
use Rattle.outline.specs.Queries.{point_in_polygon}
use Rattle.outline_loops.proofs.HoleList.{holes_yield, listed_place, any_hole}
use Rattle.outline_blocks.proofs.BlockLaws.{drawn_shape}
use Rattle.outline_blocks.proofs.DrawnOutline.in_some_hole.Goals as goal

pub holes_of-requires : goal.holes_of-requires
holes_of-requires c = drawn_shape c.args.self.drawn

pub any-requires-clause-callable : goal.any-requires-clause-callable
any-requires-clause-callable c =
    let o = outline_of c.args.self.domain in
    serves_from_places (holes_yield o c.holes_of.result (cc))
    (λ hole q k. search rules)
    (λ hole k within e.
    let place = listed_place o k hole within e in
    let here = rw (sym place.index) at place in
    search (rules, of_calls))

pub returns : goal.returns
returns c =
    let o = outline_of c.args.self.domain in
    let test : ℕ × (ℕ × List Float) → Bool = λ p. point_in_polygon c.args.p p.1.1 in
    any_from_yields_List test c.any.new.self _ c.any.result c.any.ensures.ran (holes_yield o c.holes_of.result (cc)) (λ hole b q k. search (rules, tests))
    ∙ any_hole o test _ (λ k h. refl)
