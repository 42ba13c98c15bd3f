-- `Pools::is_known` meets its contract: every edge that joins u and v has the rectangle of that edge, and u's key is in it.
use Rattle.std.specs.Prelude.{true, ◌≡◌}
use Rattle.std.proofs.Common.{rules, tests, sym, ◌∙◌, arith}
use Rattle.std.proofs.lemmas.Iterator.{YieldsList-from_range}
use Rattle.std.proofs.lemmas.Iterator.Search.{any_from_yields_List}
use Rattle.laws.proofs.Ranges.{any_ranged}
use Rattle.geometry.specs.Keys.{key_of, edge_bucket, spans_kept}
use Rattle.front.specs.State.{node_in, edge_is}
use Rattle.paving_indexed.specs.Rects.{edge_rects}
use Rattle.paving_indexed.proofs.Laws.{known_meets}
use Rattle.paving_indexed.proofs.Pools.is_known.Goals as goal

pub returns-then-not-spans_kept : goal.returns-then-not-spans_kept
returns-then-not-spans_kept c =
    let mesh = c.args.mesh.now in
    let test = edge_is mesh.edges.now c.args.u c.args.v in
    any_from_yields_List test _ _ _ c.any.ensures.ran (YieldsList-from_range 0 mesh.counts.edges mesh.counts.edges (cc) (omega arith))
    (λ x b q k. search (rules, tests))
    ∙ any_ranged test mesh.counts.edges

pub returns : goal.returns
returns c =
    let args = c.args in
    let mesh = args.mesh.now in
    let r = c.of-r.result in
    let spans : spans_kept r.k r.l ≡ true = sym c.spans_kept.ensures ∙ c.if-not-spans_kept.false in
    let kept : spans_kept (key_of (edge_bucket args.size) (node_in mesh.xs.now mesh.ys.now args.u))
    (key_of (edge_bucket args.size) (node_in mesh.xs.now mesh.ys.now args.v)) ≡ true =
    rw (c.of-r.ensures, c.node.ensures, c.node-2.ensures) at spans in
    c.any_item.ensures (edge_is mesh.edges.now args.u args.v) (edge_rects args.size mesh.xs.now mesh.ys.now mesh.edges.now)
    (λ k b h t. search (rules, tests)) c.requires.1
    (λ k e.
    rw (c.rect_at.ensures, c.of-r.ensures, c.node.ensures)
    (known_meets args.size mesh.xs.now mesh.ys.now mesh.edges.now args.u args.v k kept e))
