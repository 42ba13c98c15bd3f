-- `cover_entry::answer_mesh` meets its contract: `found` and `not_found`.
use Rattle.std.proofs.Common.{◌≡◌, refl, ap, ◌∙◌}
use Rattle.std.specs.Float.{Float}
use Rattle.outline.specs.declared.Domain.{Domain}
use Rattle.outline.specs.Outline.{outline_of}
use Rattle.front.specs.declared.Mesh.{Mesh}
use Rattle.front.specs.Lent.{mesh_state}
use Rattle.books.specs.Book.{start_book}
use Rattle.cover_check.specs.Check.{sides_answer}
use Rattle.cover_entry.proofs.Steps.{found, not_found}
use Rattle.cover_entry.proofs.answer_mesh.Goals as goal

pub returns-then-folded-mesh : goal.returns-then-folded-mesh
returns-then-folded-mesh c = found 27 _ _ _ c.lowest_folded-folded.ensures refl c.if-folded-mesh.true c.refused_at.ensures

pub returns : goal.returns
returns c =
    not_found 27 _ _ _ c.lowest_folded-folded.ensures refl c.if-folded-mesh.false
    (c.answer_sides.ensures
    ∙ ap (λ (d : Domain). sides_answer (outline_of d) (start_book (outline_of d) c.start_of-start.result.size) (mesh_state c.new-sides.result.mesh.now)) c.start_of-start.ensures.0
    ∙ ap (λ (z : Float). sides_answer (outline_of c.args.domain) (start_book (outline_of c.args.domain) z) (mesh_state c.new-sides.result.mesh.now)) c.start_of-start.ensures.1
    ∙ ap (λ (m : Mesh). sides_answer (outline_of c.args.domain) (start_book (outline_of c.args.domain) c.args.size) (mesh_state m)) c.new-sides.ensures)
