-- `Pools::any_inside` meets its contract: a node that lies in the quad has a key in the quad's rectangle.
use borrow.Author.Rules.{rules}
use Rattle.paving_indexed.specs.Rects.{node_rects, inside_at}
use Rattle.paving_indexed.proofs.Laws.{inside_meets}
use Rattle.paving_indexed.proofs.Pools.any_inside.Goals as goal

pub returns : goal.returns
returns c =
    let args = c.args in
    let mesh = args.mesh.now in
    let ids = args.ids in
    c.any_item.ensures (inside_at args.size mesh.xs.now mesh.ys.now args.p ids.a ids.b ids.d ids.c) (node_rects args.size mesh.xs.now mesh.ys.now)
    (λ id b h t. search rules) c.requires
    (λ id e.
    rw (c.rect_of.ensures, c.of-r.ensures, c.lowest.ensures, c.highest.ensures)
    (inside_meets args.size mesh.xs.now mesh.ys.now args.p ids.a ids.b ids.d ids.c id e))
