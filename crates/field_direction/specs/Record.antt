-- A field record: the grid, and the lists lent beside it. Definitions only.
use Rattle.std.specs.Prelude.{List, ℕ, ◌+◌, ◌*◌, Float}
use Rattle.field_direction.specs.declared.Grid.{Grid}
use Rattle.field_direction.specs.declared.CrossField.{CrossField}

-- the lent lists: two floats a node, and a mark a node
pub record FieldLists : Type 0 where
  pub values : List Float
  pub marks : List ℕ

abbrev pub field_lists : List Float → List ℕ → FieldLists
field_lists values marks = record { values = values; marks = marks }

-- a field record: the grid, and the lists beside it
pub record FieldRecord : Type 0 where
  pub grid : Grid
  pub lists : FieldLists

abbrev pub field_record : Grid → List Float → List ℕ → FieldRecord
field_record g values marks = record { grid = g; lists = field_lists values marks }

-- that of a field as it is read, and of the marks lent beside it
abbrev pub field_lent : CrossField → List ℕ → FieldRecord
field_lent field marks = field_record field.grid field.values.now marks

-- the most nodes of a field
abbrev pub most_field_nodes : ℕ
most_field_nodes = 250000

abbrev pub grid_nodes : Grid → ℕ
grid_nodes g = g.nx * g.ny

-- the number of node (i, j)
abbrev pub node_at : Grid → ℕ → ℕ → ℕ
node_at g i j = j * g.nx + i
