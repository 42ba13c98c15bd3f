-- `Pools::any_close` meets its contract: a node that is too close has a key beside p's.
use Rattle.std.specs.Prelude.{◌≡◌, refl}
use Rattle.std.proofs.Common.{sym}
use Rattle.numbers.specs.Float.{◌⊗◌}
use Rattle.geometry.specs.Keys.{clearance, too_close_at}
use borrow.Author.Rules.{rules}
use Rattle.front.specs.State.{node_in}
use Rattle.index_key_rects.proofs.KeyLaws.{close_meets}
use Rattle.paving_indexed.specs.Rects.{node_rects, close_at}
use Rattle.paving_indexed.proofs.Laws.{close_is}
use Rattle.paving_indexed.proofs.Pools.any_close.Goals as goal

pub returns : goal.returns
returns c =
    let args = c.args in
    let mesh = args.mesh.now in
    c.any_item.ensures (close_at args.size mesh.xs.now mesh.ys.now args.p) (node_rects args.size mesh.xs.now mesh.ys.now)
    (λ id b h t.
    let e : b ≡ too_close_at c.key_of-key.result args.p (clearance ⊗ args.size ⊗ (clearance ⊗ args.size)) args.size (node_in mesh.xs.now mesh.ys.now id) =
    search rules in
    sym (close_is args.size mesh.xs.now mesh.ys.now args.p c.key_of-key.ensures refl refl e))
    c.requires
    (λ id e. rw (c.rect_around.ensures, c.key_of-key.ensures) (close_meets args.size args.p (node_in mesh.xs.now mesh.ys.now id) e))
