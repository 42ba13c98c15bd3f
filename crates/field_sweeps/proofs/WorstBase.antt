-- The Rust keeps a sweep's greatest change and stops where it is below 1e-7; the definition keeps whether no change is 1e-7 or more.
-- `sweep_worst`: on every input the two are the same test, and the values are the same. Assumes nothing.
use Rattle.std.specs.Prelude.{cond, List, ℕ, eqb, get_or, Float}
use Rattle.laws.specs.Loop.{for_up}
use Rattle.numbers.specs.Float.{zero_f, max_f}
use Rattle.outline.specs.Outline.{point_at}
use Rattle.field_direction.specs.declared.Grid.{Grid}
use Rattle.field_direction.specs.Record.{node_at}
use Rattle.field_averages.specs.Average.{average}
use Rattle.field_sweeps.specs.Sweeps.{change, set_value}

-- ---- a sweep as the Rust has it

-- the values so far, and the greatest change
pub record SweptWorst : Type 0 where
  pub values : List Float
  pub worst : Float

abbrev pub changed : List Float → Float → SweptWorst
changed values worst = record { values = values; worst = worst }

unfoldable pub changed_node : Grid → List ℕ → ℕ → ℕ → SweptWorst → SweptWorst
changed_node g marks j i s =
    let id = node_at g i j in
    let v = average g s.values j i in
    cond (eqb (get_or marks id 0) 0) (changed (set_value s.values id v) (max_f s.worst (change (point_at s.values id) v))) s

unfoldable pub changed_row : Grid → List ℕ → ℕ → SweptWorst → SweptWorst
changed_row g marks j s = for_up g.nx (changed_node g marks j) s

unfoldable pub changed_sweep : Grid → List ℕ → List Float → SweptWorst
changed_sweep g marks values = for_up g.ny (changed_row g marks) (changed values zero_f)
