-- `front_boundary::split_longest` meets its contract: by the test.
use Rattle.front_boundary.proofs.Written.{node_written, not_split, split_written}
use Rattle.front_boundary.proofs.split_longest.Goals as goal

pub returns-then-ring : goal.returns-then-ring
returns-then-ring c = split_written c.args.ring c.mesh.result c.if-ring.true c.mesh.ensures c.midpoint-p.ensures (node_written _ c.push_node.ensures.same c.push_node.ensures.pushed)

pub returns-else-ring : goal.returns-else-ring
returns-else-ring c = not_split c.args.ring _ c.if-ring.false
