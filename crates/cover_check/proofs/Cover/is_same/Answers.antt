-- `Cover::is_same` meets its contract.
use Rattle.std.proofs.Common.{◌≡◌, refl, sym, ap, ◌∙◌, Bool, true, false, ◌&&◌, not, get_or, arith}
use Rattle.std.proofs.Math.Path.{ap₂}
use Rattle.std.specs.Float.{Float, nan}
use Rattle.laws.proofs.Chain.{passes, fails}
use Rattle.outline.specs.declared.Point.{Point}
use Rattle.outline.specs.Outline.{outline_of}
use Rattle.front.specs.State.{node_in}
use Rattle.books.specs.Book.{start_book}
use Rattle.cover_check.specs.Check.{same_bits, is_same}
use Rattle.cover_check.proofs.Cover.is_same.Goals as goal
use Rattle.cover_check.proofs.Cover.is_same.Goals.{After-same_bits}

pub overflow_cast-i : goal.overflow_cast-i
overflow_cast-i c = omega (arith, c.requires, c.args.self.now.start.sampled.few)

-- the two coordinates, read from the mesh and from the book
module _ (c : After-same_bits) where
  abbrev x : same_bits c.node-p.result.x (get_or c.args.self.now.start.xs.now c.args.i nan)
      ≡ same_bits (get_or c.args.self.now.sides.mesh.now.xs.now c.args.i nan)
      (get_or (start_book (outline_of c.args.self.now.start.domain) c.args.self.now.start.size).xs c.args.i nan)
  unfolding node_in
  x = ap₂ same_bits (ap (λ (p : Point). p.x) c.node-p.ensures) (ap (λ l. get_or l c.args.i nan) c.args.self.now.start.sampled.first)

  abbrev y : same_bits c.node-p.result.y (get_or c.args.self.now.start.ys.now c.args.i nan)
      ≡ same_bits (get_or c.args.self.now.sides.mesh.now.ys.now c.args.i nan)
      (get_or (start_book (outline_of c.args.self.now.start.domain) c.args.self.now.start.size).ys c.args.i nan)
  unfolding node_in
  y = ap₂ same_bits (ap (λ (p : Point). p.y) c.node-p.ensures) (ap (λ l. get_or l c.args.i nan) c.args.self.now.start.sampled.second)

pub returns-then-same_bits : goal.returns-then-same_bits
unfolding is_same
returns-then-same_bits c =
    let s = (goal.at.returns-then-same_bits c).After-same_bits in
    passes (sym (c.same_bits.ensures ∙ x s) ∙ c.if-same_bits.true) (c.same_bits-then-same_bits.ensures ∙ y s)

pub returns-else-same_bits : goal.returns-else-same_bits
unfolding is_same
returns-else-same_bits c =
    let s = (goal.at.returns-else-same_bits c).After-same_bits in
    c.if-same_bits.false ∙ fails _ (sym (c.same_bits.ensures ∙ x s) ∙ c.if-same_bits.false)
