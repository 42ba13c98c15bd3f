-- `paving_indexed::file_edges` meets its contract: the closure gives the edge's rectangle.
use borrow.Author.Rules.{rules}
use Rattle.paving_indexed.specs.Rects.{edge_rects}
use Rattle.paving_indexed.proofs.file_edges.Goals as goal

pub returns : goal.returns
returns c =
    let mesh = c.args.mesh.now in
    c.file_items.ensures (edge_rects c.args.size mesh.xs.now mesh.ys.now mesh.edges.now) (λ k r h p. search rules) c.requires.more c.requires.filed
