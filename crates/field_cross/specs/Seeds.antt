-- Seeds and marks: each node's value from its nearest segment, by SCOPE's stand-ins for the angle functions. Definitions only.
use Rattle.std.specs.Prelude.{Bool, ◌&&◌, cond, ℕ, set, Float}
use Rattle.std.specs.Float.Ieee.{le}
use Rattle.laws.specs.Loop.{for_up}
use Rattle.numbers.specs.Float.{◌⊕◌, ◌⊖◌, ◌⊗◌, bits, two_f, to_float}
use Rattle.outline.specs.declared.Point.{Point}
use Rattle.outline.specs.declared.Near.{Near}
use Rattle.outline.specs.Outline.{Outline, point}
use Rattle.outline.specs.Queries.{contains, nearest_segment}
use Rattle.geometry.specs.Plane.{tangent}
use Rattle.field_direction.specs.declared.Grid.{Grid}
use Rattle.field_direction.specs.Record.{FieldLists, field_lists, node_at}
use Rattle.field_sweeps.specs.Sweeps.{set_value}

-- where node (i, j) of the grid stands
unfoldable pub grid_point : Grid → ℕ → ℕ → Point
grid_point g i j = point (g.xmin ⊕ to_float i ⊗ g.h) (g.ymin ⊕ to_float j ⊗ g.h)

-- seed of tangent (s, t): p = s·s − t·t, q = 2·(s·t), value (p·p − q·q, 2·(p·q))
unfoldable pub seed : Point → Point
seed t =
    let p = t.x ⊗ t.x ⊖ t.y ⊗ t.y in
    let q = two_f ⊗ (t.x ⊗ t.y) in
    point (p ⊗ p ⊖ q ⊗ q) (two_f ⊗ (p ⊗ q))

-- 1.5
abbrev pub band : Float
band = bits 0x3ff8_0000_0000_0000

-- a node is fixed if inside and within 1.5 × h of the boundary
unfoldable pub is_fixed : Outline → Float → Point → Near → Bool
is_fixed o h p found = contains o p && le found.distance (band ⊗ h)

-- the mark of a node: 1 where it is fixed
abbrev pub mark_of : Bool → ℕ
mark_of fixed = cond fixed 1 0

-- one node is seeded from its nearest segment, and marked
unfoldable pub seed_node : Outline → Grid → ℕ → ℕ → FieldLists → FieldLists
seed_node o g j i f =
    let p = grid_point g i j in
    let found = nearest_segment o p in
    let id = node_at g i j in
    field_lists (set_value f.values id (seed (tangent found.a found.b))) (set f.marks id (mark_of (is_fixed o g.h p found)))

unfoldable pub seed_row : Outline → Grid → ℕ → FieldLists → FieldLists
seed_row o g j f = for_up g.nx (seed_node o g j) f

unfoldable pub seeded : Outline → Grid → FieldLists → FieldLists
seeded o g f = for_up g.ny (seed_row o g) f
