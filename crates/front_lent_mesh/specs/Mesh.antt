-- A mesh as it is lent: nodes and quads count from 0, a count beyond its list stops at its last whole node or quad, and quads stop at 250,000.
use Rattle.std.specs.Prelude.{List, ℕ, ◌+◌, ◌*◌, ◌/◌, ◌≤◌, ◌<◌, min, length, get_or, Float}
use Rattle.std.proofs.Math.Nat.{mul-div-le}
use Rattle.std.proofs.Common.{arith}
use Rattle.front_lent_mesh.specs.declared.QuadIds.{QuadIds}
use Rattle.front_lent_mesh.specs.declared.LentMesh.{LentMesh}

-- the count of nodes, which stops where a coordinate isn't lent
unfoldable pub node_count_of : ℕ → List Float → List Float → ℕ
node_count_of nodes xs ys = min nodes (min (length xs) (length ys))

-- the count of quads, which stops at the last whole quad and at 250,000
unfoldable pub quad_count_of : ℕ → List ℕ → ℕ
quad_count_of count quads = min count (min (length quads / 4) 250000)

-- quad k of a list of ids, four a quad
unfoldable pub quad_in : List ℕ → ℕ → QuadIds
quad_in quads k = record { a = get_or quads (4 * k) 0; b = get_or quads (4 * k + 1) 0; d = get_or quads (4 * k + 2) 0; c = get_or quads (4 * k + 3) 0 }

-- What is read of a mesh where its coordinates don't matter: how many nodes and quads it has, and the quads' ids.
pub record Mesh : Type 0 where
  pub nodes : ℕ
  pub quads : ℕ
  pub ids : List ℕ

abbrev pub mesh : ℕ → ℕ → List ℕ → Mesh
mesh nodes quads ids = record { nodes = nodes; quads = quads; ids = ids }

-- the mesh of the lists lent, its counts as they stop
abbrev pub mesh_of : ℕ → List Float → List Float → ℕ → List ℕ → Mesh
mesh_of nodes xs ys count quads = mesh (node_count_of nodes xs ys) (quad_count_of count quads) quads

-- the mesh that is lent, its nodes as they are given, its quads as they stop
abbrev pub mesh_lent : LentMesh → Mesh
mesh_lent l = mesh l.nodes (quad_count_of l.quad_count l.quads.now) l.quads.now

-- quad k of a mesh
abbrev pub quad_of : Mesh → ℕ → QuadIds
quad_of m k = quad_in m.ids k

-- ---- laws

pub quads_few : (count : ℕ) (quads : List ℕ) → quad_count_of count quads ≤ 250000
unfolding quad_count_of
quads_few count quads = omega arith

-- every quad counted is whole
pub quads_whole : (count : ℕ) (quads : List ℕ) (k : ℕ) → k < quad_count_of count quads → 4 * k + 3 < length quads
unfolding quad_count_of
quads_whole count quads k h = omega (arith, mul-div-le (length quads) 4)
