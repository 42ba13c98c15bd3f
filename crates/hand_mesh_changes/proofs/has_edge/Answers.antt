-- `hand_mesh_changes::has_edge` meets its contract.
use Rattle.std.proofs.Common.{min, max, ◌∙◌, arith, rules, tests}
use Rattle.std.proofs.lemmas.Iterator.{YieldsList-from_range}
use Rattle.std.proofs.lemmas.Iterator.Search.{any_from_yields_List}
use Rattle.front.specs.State.{edge_is, has_edge}
use Rattle.front.proofs.Searches.{any_ranged}
use Rattle.hand_mesh_changes.proofs.has_edge.Goals as goal

pub returns : goal.returns
unfolding has_edge
returns c =
    let mesh = c.args.mesh.now in
    let n = mesh.counts.edges in
    let test = edge_is mesh.edges.now (min c.args.u c.args.v) (max c.args.u c.args.v) in
    any_from_yields_List test _ _ _ c.any.ensures.ran (YieldsList-from_range 0 n n (cc) (omega arith)) (λ x b q k. search (rules, tests))
    ∙ any_ranged test n
