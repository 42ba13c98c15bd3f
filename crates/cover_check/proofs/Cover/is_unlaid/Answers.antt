-- `Cover::is_unlaid` meets its contract.
use Rattle.std.proofs.Common.{◌≡◌, refl, sym, ap, ◌∙◌, Bool, true, false, ℕ, zero, suc, not, eqb, ltb, length, arith, lt-ltb, ne_eqb}
use Rattle.topology.specs.Links.{link_read}
use Rattle.front.specs.Lent.{mesh_state}
use Rattle.books.specs.Net.{count_edge}
use Rattle.cover_sides.specs.Sides.{sides_of}
use Rattle.cover_check.proofs.Cover.is_unlaid.Goals as goal

none_there : (n : ℕ) → not (ltb 0 n) ≡ eqb n 0
none_there zero = refl
none_there (suc n) = ap not (lt-ltb 0 (suc n) (omega arith)) ∙ sym (ne_eqb (suc n) 0 (λ e. omega arith))

pub overflow_cast-u : goal.overflow_cast-u
overflow_cast-u c = omega (arith, c.requires, c.args.self.now.start.sampled.few)

pub returns : goal.returns
returns c =
    let S = c.args.self.now.start.sampled in
    let next = c.args.self.now.start.next.now in
    let sides = sides_of (mesh_state c.args.self.now.sides.mesh.now) in
    ap not c.has.ensures ∙ none_there _
    ∙ ap (λ (v : ℕ). eqb (count_edge c.args.u v sides) 0) (link_read (length next) next c.args.u c.requires (omega arith) ∙ S.after c.args.u)
