-- `cover_sides::push_quad` meets its contract: `four_pushed`.
use Rattle.std.proofs.Common.{◌≡◌, ◌+◌, ◌*◌, ap, ◌∙◌, ℕ, take, arith}
use Rattle.books.specs.Book.{quad_edges}
use Rattle.cover_sides.proofs.Writing.{four_pushed}
use Rattle.cover_sides.proofs.push_quad.Goals as goal

pub returns-clause-next : goal.returns-clause-next
unfolding quad_edges
returns-clause-next c =
    let last : 4 * (c.args.k + 1) ≡ 4 * c.args.k + 4 = omega arith in
    ap (λ (i : ℕ). take i c.push-4.new.keys) last
    ∙ four_pushed (4 * c.args.k) _ _ _ _ _ _ _ _ _ c.push.ensures.next c.push-2.ensures.next c.push-3.ensures.next c.push-4.ensures.next
