-- What is lent round a paving, in the words of the definitions. Definitions only.
use Rattle.std.specs.Prelude.{◌≡◌, [], Float}
use Rattle.outline.specs.Outline.{Outline, outline_of}
use Rattle.field_direction.specs.Record.{FieldRecord, field_record}
use Rattle.paving.specs.declared.Surroundings.{Surroundings}
use Rattle.paving.specs.declared.Scratch.{Scratch}

abbrev pub outline_in : Surroundings → Outline
outline_in s = outline_of s.domain

-- no attempt reads the marks
abbrev pub field_in : Surroundings → FieldRecord
field_in s = field_record s.field.grid s.field.values.now []

-- t has the lists that s has
pub record SameScratch (s t : Scratch) : Type 0 where
  pub node_pool : t.node_pool.ghost_name ≡ s.node_pool.ghost_name
  pub edge_pool : t.edge_pool.ghost_name ≡ s.edge_pool.ghost_name
  pub tried : t.tried.ghost_name ≡ s.tried.ghost_name
