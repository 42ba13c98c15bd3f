-- `paving_indexed::file_nodes` meets its contract: the closure gives the node's rectangle.
use borrow.Author.Rules.{rules}
use Rattle.paving_indexed.specs.Rects.{node_rects}
use Rattle.paving_indexed.proofs.file_nodes.Goals as goal

pub returns : goal.returns
returns c =
    let mesh = c.args.mesh.now in
    c.file_items.ensures (node_rects c.args.size mesh.xs.now mesh.ys.now) (λ k r h p. search rules) c.requires.more c.requires.filed
