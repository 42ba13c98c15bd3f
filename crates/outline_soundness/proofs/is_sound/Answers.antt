-- `is_sound` meets its contract: `sound_walk`.
use Rattle.std.specs.Prelude.{Bool, not, List, ℕ, Float}
use Rattle.std.proofs.Common.{ap, ◌∙◌, rules, tests, of_calls, refl}
use Rattle.std.proofs.lemmas.Iterator.Adapters.{serves_from_places}
use Rattle.std.proofs.lemmas.Iterator.Search.{any_from_yields_List}
use Rattle.outline.specs.Outline.{outline_of}
use Rattle.outline.specs.Accepted.{OutlineFits}
use Rattle.outline.proofs.Accepted.{accepted}
use Rattle.outline_loops.proofs.HoleList.{holes_yield, listed_place, any_hole}
use Rattle.outline_soundness.specs.WalkLaws.{judged, outer_accepted, hole_accepted, hole_unsound, walk_outer, walk_holes}
use Rattle.outline_soundness.proofs.is_sound.Goals as goal

pub new-outer-requires : goal.new-outer-requires
new-outer-requires c =
    outer_accepted
    (judged _ (record { outer = λ i h. c.args.domain.doubles.outer i; holes = λ i h. c.args.domain.doubles.holes i })
    c.requires)

pub holes_of-requires : goal.holes_of-requires
holes_of-requires c = (accepted _ c.requires).shape

pub any-requires-clause-callable : goal.any-requires-clause-callable
any-requires-clause-callable c =
    let o = outline_of c.args.domain in
    let fits : OutlineFits o = record { outer = λ i h. c.args.domain.doubles.outer i; holes = λ i h. c.args.domain.doubles.holes i } in
    let j = judged o fits c.requires in
    serves_from_places (holes_yield o c.holes_of.result (cc))
    (λ hole q k. search rules)
    (λ hole k within e.
    let place = listed_place o k hole within e in
    let good = rw (← place.points) at (hole_accepted j k place.within) in
    search (rules, of_calls))

pub returns-then-not-crosses_itself : goal.returns-then-not-crosses_itself
returns-then-not-crosses_itself c =
    let o = outline_of c.args.domain in
    let test : ℕ × (ℕ × List Float) → Bool = λ p. hole_unsound o p.1.1 p.0 in
    let e = any_from_yields_List test c.any.new.self _ c.any.result c.any.ensures.ran (holes_yield o c.holes_of.result (cc)) (λ hole b q k. search (rules, tests)) ∙ any_hole o test _ (λ k h. refl) in
    walk_holes o (rw c.new-outer.ensures at c.crosses_itself.ensures) c.if-not-crosses_itself.true e

pub returns-else-not-crosses_itself : goal.returns-else-not-crosses_itself
returns-else-not-crosses_itself c =
    let o = outline_of c.args.domain in
    ap not c.if-not-crosses_itself.false ∙ walk_outer o (rw c.new-outer.ensures at c.crosses_itself.ensures) c.if-not-crosses_itself.false
