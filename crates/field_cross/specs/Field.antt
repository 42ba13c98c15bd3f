-- The field of an outline, a size and a number of sweeps, in the lists lent, with the refusals 1 to 9. Definitions only.
use Rattle.std.specs.Prelude.{cond, List, Result, Ok, Err, ◌≡◌, ℕ, ◌/◌, min, ltb, length, Float}
use Rattle.outline.specs.Outline.{Outline, first_of, outline_refusal}
use Rattle.outline.specs.Queries.{answer_by}
use Rattle.outline_blocks.specs.Blocks.{Drawn}
use Rattle.field_direction.specs.declared.Grid.{Grid}
use Rattle.field_direction.specs.Record.{grid_nodes, FieldLists, field_lists, FieldRecord, field_record}
use Rattle.field_sweeps.specs.Sweeps.{sweeps}
use Rattle.field_cross.specs.Grid.{bounds, grid_of, size_refusal, bounds_refusal, sweeps_refusal}
use Rattle.field_cross.specs.Seeds.{seeded}

-- how many field nodes are lent: of the two lists the one with the fewer places counts
abbrev pub field_places : FieldLists → ℕ
field_places f = min (length f.values / 2) (length f.marks)

-- 9: the field has more nodes than lent
unfoldable pub places_refusal : Grid → ℕ → ℕ
places_refusal g places = cond (ltb places (grid_nodes g)) 9 0

-- 1 to 7: those that depend on the outline and the size alone, in rising number
unfoldable pub drawn_refusal : Outline → Float → ℕ
drawn_refusal o size = first_of (outline_refusal o) (first_of (size_refusal size) (bounds_refusal (bounds o)))

-- 1 to 9, in rising number, for so many places
abbrev pub refusal_for : Outline → Float → ℕ → ℕ → ℕ
refusal_for o size n places =
    first_of (outline_refusal o) (first_of (size_refusal size)
    (first_of (bounds_refusal (bounds o)) (first_of (sweeps_refusal n) (places_refusal (grid_of (bounds o) size) places))))

unfoldable pub field_refusal : Outline → Float → ℕ → FieldLists → ℕ
field_refusal o size n f = refusal_for o size n (field_places f)

-- `new_with_options`: seeds and marks, then at most n sweeps
unfoldable pub field_of : Outline → Float → ℕ → FieldLists → FieldRecord
field_of o size n f =
    let g = grid_of (bounds o) size in
    let s = seeded o g f in
    field_record g (sweeps n g s.marks s.values) s.marks

-- what `field` answers, and the lists as it leaves them
pub record FieldResult : Type 0 where
  pub answer : Result Grid ℕ
  pub lists : FieldLists

abbrev pub field_result : Result Grid ℕ → List Float → List ℕ → FieldResult
field_result answer values marks = record { answer = answer; lists = field_lists values marks }

abbrev pub made_of : FieldRecord → FieldResult
made_of r = record { answer = Ok r.grid; lists = r.lists }

-- refused, with nothing written; or made
unfoldable pub field_answer : Outline → Float → ℕ → FieldLists → FieldResult
field_answer o size n f =
    answer_by (λ r. record { answer = Err r; lists = f }) (made_of (field_of o size n f)) (field_refusal o size n f)

-- of the list of blocks, before and after: a refusal leaves it as it was, and where a field is made it has the outline's blocks
abbrev pub FieldDraws : Outline → Result Grid ℕ → List ℕ → List ℕ → Type 0
FieldDraws o (Err number) before after = after ≡ before
FieldDraws o (Ok grid) before after = Drawn o after
