-- `index_key_rects::edge_rect` meets its contract.
use mathlib.Core.Path.{sym, ◌∙◌}
use Rattle.index_key_rects.specs.Rects.{edge_rect}
use Rattle.index_key_rects.proofs.edge_rect.Goals as goal

pub returns-then-spans_kept : goal.returns-then-spans_kept
unfolding edge_rect
returns-then-spans_kept c =
    let test = rw c.of-r.ensures at (sym c.spans_kept.ensures ∙ c.if-spans_kept.true) in
    rw (c.rect_of.ensures, c.of-r.ensures, test)

pub returns-else-spans_kept : goal.returns-else-spans_kept
unfolding edge_rect
returns-else-spans_kept c =
    let test = rw c.of-r.ensures at (sym c.spans_kept.ensures ∙ c.if-spans_kept.false) in
    rw (c.rect_empty.ensures, test)
