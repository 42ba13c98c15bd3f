-- Sweeps: the nodes that are not fixed take their neighbours' average, in the same list. Definitions only.
use Rattle.std.specs.Prelude.{Bool, true, not, ◌&&◌, cond, List, ℕ, ◌+◌, ◌-◌, ◌*◌, eqb, get_or, set, Float}
use Rattle.std.specs.Float.Ieee.{le}
use Rattle.laws.specs.Loop.{for_up, Turn, go, out, run}
use Rattle.numbers.specs.Float.{◌⊕◌, ◌⊖◌, bits, abs_f}
use Rattle.outline.specs.declared.Point.{Point}
use Rattle.outline.specs.Outline.{point_at}
use Rattle.field_direction.specs.declared.Grid.{Grid}
use Rattle.field_direction.specs.Record.{node_at}
use Rattle.field_averages.specs.Average.{average}

-- 1e-7
abbrev pub steady : Float
steady = bits 0x3e7a_d7f2_9abc_af48

-- a sweep's values so far, and whether no node's two values have changed by 1e-7 or more in sum
pub record SweptField : Type 0 where
  pub values : List Float
  pub quiet : Bool

abbrev pub swept : List Float → Bool → SweptField
swept values quiet = record { values = values; quiet = quiet }

-- how much a value changes, in sum
unfoldable pub change : Point → Point → Float
change old new = abs_f (new.x ⊖ old.x) ⊕ abs_f (new.y ⊖ old.y)

-- node id's value is v, and the other places are as they were
unfoldable pub set_value : List Float → ℕ → Point → List Float
set_value values id v = set (set values (2 * id) v.x) (2 * id + 1) v.y

-- the visit of a node that is not fixed
unfoldable pub relaxed : Grid → ℕ → ℕ → SweptField → SweptField
relaxed g j i s =
    let id = node_at g i j in
    let v = average g s.values j i in
    swept (set_value s.values id v) (s.quiet && not (le steady (change (point_at s.values id) v)))

unfoldable pub sweep_node : Grid → List ℕ → ℕ → ℕ → SweptField → SweptField
sweep_node g marks j i s = cond (eqb (get_or marks (node_at g i j) 0) 0) (relaxed g j i s) s

unfoldable pub sweep_row : Grid → List ℕ → ℕ → SweptField → SweptField
sweep_row g marks j s = for_up g.nx (sweep_node g marks j) s

-- the nodes of a row from column `from` on, before column `to`
unfoldable pub sweep_part : Grid → List ℕ → ℕ → ℕ → ℕ → SweptField → SweptField
sweep_part g marks j from to s = for_up (to - from) (λ i. sweep_node g marks j (from + i)) s

-- row j and the three above it, one after the other
abbrev pub four_rows : Grid → List ℕ → ℕ → SweptField → SweptField
four_rows g marks j s = sweep_row g marks (j + 3) (sweep_row g marks (j + 2) (sweep_row g marks (j + 1) (sweep_row g marks j s)))

-- one sweep: rows from the bottom, left to right
unfoldable pub sweep : Grid → List ℕ → List Float → SweptField
sweep g marks values = for_up g.ny (sweep_row g marks) (swept values true)

-- a quiet sweep is the last
abbrev pub after_sweep : SweptField → Turn (List Float) (List Float)
after_sweep s = cond s.quiet (out s.values) (go s.values)

abbrev pub sweep_turn : Grid → List ℕ → ℕ → List Float → Turn (List Float) (List Float)
sweep_turn g marks k values = after_sweep (sweep g marks values)

-- at most n sweeps
unfoldable pub sweeps : ℕ → Grid → List ℕ → List Float → List Float
sweeps n g marks values = run n (sweep_turn g marks) (λ last. last) values
