use Rattle.std.proofs.Common.{◌≡◌, ◌*◌, map, take, length}
use Rattle.front.specs.Lent.{mesh_state}
use Rattle.books.specs.Net.{quads_edges}
use Rattle.cover_sides.specs.Sides.{side_key}
use Rattle.cover_sides.proofs.write_keys.Given as goal

abbrev pub invariant-loop-k : goal.invariant-loop-k
invariant-loop-k l = (length l.keys ≡ length l.fn.keys) × (take (4 * l.k) l.keys ≡ map side_key (quads_edges (mesh_state l.mesh) l.k))
