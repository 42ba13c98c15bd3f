-- `Thresholds::node_share` meets its contract: the scan's invariant is `Scanned`.
use Rattle.front_lent_mesh.specs.Mesh.{mesh_lent}
use Rattle.exam_results.specs.FigureLaws.{Scanned}
use Rattle.exam_results.proofs.Thresholds.node_share.Given as goal

abbrev pub invariant-loop-k : goal.invariant-loop-k
invariant-loop-k l = Scanned (mesh_lent l.self.mesh) l.self.list.now l.id l.k l.count l.sum
