-- `bowl::lowest_hidden` meets its contract.
use Rattle.std.proofs.Common.{rules, tests, Bool, ◌≡◌, true, false, ℕ}
use Rattle.std.proofs.lemmas.Iterator.{serves_from_Range, first_from_Range}
use Rattle.front_lent_mesh.specs.Mesh.{quad_in}
use Rattle.bowl.specs.Steps.{is_shown}
use Rattle.bowl.proofs.Searched.{found_lowest}
use Rattle.bowl.proofs.lowest_hidden.Goals as goal

pub find-requires-clause-callable : goal.find-requires-clause-callable
find-requires-clause-callable c =
    serves_from_Range (λ x q r. search (rules)) (λ k low high. search (rules, high, c.requires))

pub returns : goal.returns
returns c =
    let m = c.args.mesh.now in
    let Shown : Bool → ℕ → Type 0 = λ b k. is_shown m.xs.now m.ys.now (quad_in m.quads.now k) ≡ b in
    found_lowest m.xs.now m.ys.now m.quads.now m.counts.quads _
    (first_from_Range _ _ _ _ (Shown false) (Shown true) c.find.ensures.ran (λ x q k. search (rules, tests)) (λ x q k. search (rules, tests)))
