-- `Cover::lowest_wrong` meets its contract: `found_lowest`.
use Rattle.std.proofs.Common.{rules, tests, Bool, ◌≡◌, true, false, ℕ, ap, ◌∙◌, length}
use Rattle.std.proofs.lemmas.Iterator.{first_from_Range}
use Rattle.outline.specs.Outline.{outline_of}
use Rattle.front.specs.Lent.{mesh_state}
use Rattle.books.specs.Book.{start_book}
use Rattle.cover_check.specs.Check.{is_wrong}
use Rattle.cover_check.specs.Lowest.{lowest}
use Rattle.cover_check.proofs.Lowest.{found_lowest}
use Rattle.cover_check.proofs.Cover.lowest_wrong.Goals as goal

pub returns : goal.returns
returns c =
    let test = is_wrong (start_book (outline_of c.args.self.now.start.domain) c.args.self.now.start.size) (mesh_state c.args.self.now.sides.mesh.now) in
    let Is : Bool → ℕ → Type 0 = λ b k. test k ≡ b in
    c.unwrap_or.ensures
    ∙ found_lowest test c.args.self.now.sides.mesh.now.counts.quads _
    (first_from_Range _ _ _ _ (Is true) (Is false) c.find.ensures.ran (λ x q k. search (rules, tests)) (λ x q k. search (rules, tests)))
