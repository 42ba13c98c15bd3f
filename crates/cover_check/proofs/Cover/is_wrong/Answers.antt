-- `Cover::is_wrong` meets its contract.
use Rattle.std.proofs.Common.{◌≡◌, refl, ap, ◌∙◌, ◌+◌, ◌*◌, arith}
use Rattle.outline.specs.Outline.{outline_of}
use Rattle.front.specs.Lent.{mesh_state}
use Rattle.front.specs.State.{State, quad_at}
use Rattle.front_lent_mesh.specs.declared.QuadIds.{QuadIds}
use Rattle.front_lent_mesh.specs.Mesh.{quad_in}
use Rattle.books.specs.Book.{start_book}
use Rattle.cover_sides.specs.Sides.{sides_of, quad_of}
use Rattle.cover_check.specs.Check.{quad_wrong}
use Rattle.cover_check.specs.Start.{QuadsNamed}
use Rattle.cover_check.proofs.Cover.is_wrong.Goals as goal

pub quad_wrong-requires : goal.quad_wrong-requires
unfolding quad_in
quad_wrong-requires c =
    let N : QuadsNamed (mesh_state c.args.self.now.sides.mesh.now) = c.args.self.now.named in
    let k = c.args.k in
    rw c.quad_at.ensures
    (N.ids (4 * k) (omega (arith, c.requires)), N.ids (4 * k + 1) (omega (arith, c.requires)), N.ids (4 * k + 2) (omega (arith, c.requires)), N.ids (4 * k + 3) (omega (arith, c.requires)))

pub returns : goal.returns
unfolding quad_in quad_at
returns c =
    let s = mesh_state c.args.self.now.sides.mesh.now in
    let start = start_book (outline_of c.args.self.now.start.domain) c.args.self.now.start.size in
    c.quad_wrong.ensures ∙ ap (λ (q : QuadIds). quad_wrong start (sides_of s) (quad_of q)) c.quad_at.ensures
