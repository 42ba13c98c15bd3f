-- What a placing may use of a mesh that 23 and 24 let pass, and what the code asks. Definitions only.
use Rattle.std.specs.Prelude.{false, List, ◌≡◌, ◌≢◌, ℕ, ◌<◌, Float, Option, Some}
use Rattle.topology.specs.Links.{off}
use Rattle.outline.specs.Outline.{Outline, outline_refusal}
use Rattle.outline.specs.Accepted.{OutlineFits}
use Rattle.field_direction.specs.declared.Grid.{Grid}
use Rattle.field_direction.specs.Cells.{FieldLent}
use Rattle.front.specs.declared.Counts.{Counts}
use Rattle.front.specs.declared.Corner.{Corner}
use Rattle.front.specs.State.{State, next_of, prev_of}
use Rattle.front.specs.Place.{is_full}
use Rattle.front.specs.declared.FarCorners.{FarCorners}
use Rattle.paving.specs.Attempt.{far}
use Rattle.hand_mesh_check.specs.Check.{lent_state}
use Rattle.hand_mesh_check.specs.Passed.{MeshPasses, MeshRoom}
use Rattle.hand_placing.specs.Room.{QuadRoom}

-- the outline isn't refused, and the field's record has its places
pub record Around (o : Outline) (g : Grid) (values : List Float) : Type 0 where
  pub taken : outline_refusal o ≡ 0
  pub fits : OutlineFits o
  pub field : FieldLent g values

-- the mesh is sound, and a to b is on its front: so a, b and the neighbours that a corner may reuse are nodes
pub record OnFront (s : State) (a b : ℕ) : Type 0 where
  pub passes : MeshPasses s
  pub there : next_of s a ≡ b
  pub id_a : a < s.counts.nodes
  pub id_b : b < s.counts.nodes
  pub at_a : prev_of s a ≢ off → prev_of s a < s.counts.nodes
  pub at_b : next_of s b ≢ off → next_of s b < s.counts.nodes

-- the attempt's answer can be settled: where it is a quad that isn't full, it fits
pub record Settleable (xs ys : List Float) (next prev origins quads edges : List ℕ) (k : Counts) (a b : ℕ) (t : Option FarCorners) : Type 0 where
  pub room : MeshRoom xs ys next prev origins quads edges k.nodes k.quads k.edges
  pub fits : (c d : Corner) → t ≡ Some (far c d) → is_full (lent_state xs ys next prev origins quads edges k) a b c d ≡ false
      → QuadRoom xs ys next prev quads edges k a b c d
