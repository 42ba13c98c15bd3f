-- `index::after` meets its contract: the rest of the chain, of the row, and then the later rows.
use Rattle.std.proofs.Common.{◌∙◌, rules}
use Rattle.index.proofs.CursorLaws.{or_nowhere, or_stands, after_link, after_chain}
use Rattle.index.proofs.cursors.after.Goals as goal

pub returns-then-link-c : goal.returns-then-link-c
returns-then-link-c c =
    rw c.place_at-link.ensures.1 (after_link c.args.r c.requires (rw c.place_at-link.ensures.1 at c.if-link-c.true))

pub returns : goal.returns
returns c =
    let args = c.args in
    let found = c.later_columns.ensures in
    let s = or_stands args.pool.now args.r args.c.j _ c.later_columns.result c.or_else.result found.rest found.place c.or_else.ensures (λ m. search rules) in
    rw (c.unwrap_or.ensures ∙ or_nowhere c.or_else.result) (after_chain args.r c.requires (rw c.place_at-link.ensures.1 at c.if-link-c.false) s.0)
