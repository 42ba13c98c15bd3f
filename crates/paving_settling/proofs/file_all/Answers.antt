-- `paving_settling::file_all` meets its contract: of pools that have been emptied everything is still to be filed. Assumes nothing.
use Rattle.std.proofs.Common.{◌≡◌, rules}
use Rattle.paving_settling.specs.Searchable.{all_addable}
use Rattle.paving_settling.proofs.file_all.Goals as goal

pub file_added-requires-clause-nodes : goal.file_added-requires-clause-nodes
file_added-requires-clause-nodes c =
    let m = c.args.mesh.now in
    let none : c.default.result.nodes ≡ 0 = search rules in
    rw none ((all_addable c.args.size m.xs.now m.ys.now m.edges.now m.counts c.requires _ _ c.clear.ensures c.clear-2.ensures).0)

pub file_added-requires-clause-edges : goal.file_added-requires-clause-edges
file_added-requires-clause-edges c =
    let m = c.args.mesh.now in
    let none : c.default.result.edges ≡ 0 = search rules in
    rw none ((all_addable c.args.size m.xs.now m.ys.now m.edges.now m.counts c.requires _ _ c.clear.ensures c.clear-2.ensures).1)
