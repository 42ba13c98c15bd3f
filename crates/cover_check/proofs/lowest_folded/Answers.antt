-- `cover_check::lowest_folded` meets its contract: `found_lowest`.
use Rattle.std.proofs.Common.{rules, tests, Bool, ◌≡◌, true, false, ℕ, ◌∙◌}
use Rattle.std.proofs.lemmas.Iterator.{first_from_Range}
use Rattle.front.specs.Lent.{mesh_state}
use Rattle.cover_check.specs.Check.{is_folded}
use Rattle.cover_check.proofs.Lowest.{found_lowest}
use Rattle.cover_check.proofs.lowest_folded.Goals as goal

pub returns : goal.returns
returns c =
    let s = mesh_state c.args.mesh.now in
    let Is : Bool → ℕ → Type 0 = λ b k. is_folded s k ≡ b in
    c.unwrap_or.ensures
    ∙ found_lowest (is_folded s) s.counts.quads _
    (first_from_Range _ _ _ _ (Is true) (Is false) c.find.ensures.ran (λ x q k. search (rules, tests)) (λ x q k. search (rules, tests)))
