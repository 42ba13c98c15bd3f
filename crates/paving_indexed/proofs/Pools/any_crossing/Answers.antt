-- `Pools::any_crossing` meets its contract: an edge that crosses the new one has a key in the new edge's rectangle.
use borrow.Author.Rules.{rules}
use Rattle.paving_indexed.specs.Rects.{edge_rects, crossing_at}
use Rattle.paving_indexed.proofs.Laws.{crossing_meets}
use Rattle.paving_indexed.proofs.Pools.any_crossing.Goals as goal

pub returns : goal.returns
returns c =
    let args = c.args in
    let mesh = args.mesh.now in
    let new = args.new in
    c.any_item.ensures (crossing_at args.size mesh.xs.now mesh.ys.now mesh.edges.now new.a new.b new.u new.v)
    (edge_rects args.size mesh.xs.now mesh.ys.now mesh.edges.now) (λ k b h t. search rules) c.requires.1
    (λ k e.
    rw c.edge_rect-rect.ensures (crossing_meets args.size mesh.xs.now mesh.ys.now mesh.edges.now new.a new.b new.u new.v k e))
