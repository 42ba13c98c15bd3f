-- Two rows of a sweep at once, the upper a column behind the lower: it leaves what one row after the other leaves, as four at once do in
-- proofs/Wave.antt. Assumes nothing.
use Rattle.std.specs.Prelude.{◌≡◌, List, ℕ, suc, ◌+◌, ◌-◌, ◌<◌}
use Rattle.std.proofs.Common.{sym, ap, ◌∙◌, add-one, arith, refl}
use Rattle.laws.specs.Loop.{for_up, for_up_keeps}
use Rattle.field_direction.specs.declared.Grid.{Grid}
use Rattle.field_sweeps.specs.Sweeps.{SweptField, sweep_node, sweep_row}
use Rattle.field_sweeps.proofs.Wave.{Near, near_rows, past}

-- two loops, `lower` and then `upper`, taken as one in which `upper` is a turn behind
module _ (lower upper : ℕ → SweptField → SweptField) (n : ℕ) (near : Near n lower upper) (s : SweptField) where
  behind : (m : ℕ) → m < n → for_up m (λ i t. upper i (lower (i + 1) t)) (lower 0 s) ≡ for_up m upper (for_up (suc m) lower s)
  unfolding for_up
  behind m h =
      for_up_keeps (λ (i : ℕ) (t : SweptField). t ≡ for_up i upper (for_up (suc i) lower s)) m (λ i t. upper i (lower (i + 1) t)) (lower 0 s) refl
      (λ i t l e. ap (upper i)
      (ap (lower (i + 1)) e
      ∙ past (lower (i + 1)) upper i (for_up (suc i) lower s) (λ k below u. near k (i + 1) (omega arith) (omega arith) u)
      ∙ rw add-one))

-- the next node of row j, and of row j + 1 the one that is a column behind
abbrev pub two_rows_turn : Grid → List ℕ → ℕ → ℕ → SweptField → SweptField
two_rows_turn g marks j i s = sweep_node g marks (j + 1) i (sweep_node g marks j (i + 1) s)

-- the first node of row j, then the turns, then the last node of row j + 1: row j and then row j + 1
pub two_rows : (g : Grid) (marks : List ℕ) (j : ℕ) (s : SweptField) → 0 < g.nx
    → sweep_node g marks (j + 1) (g.nx - 1) (for_up (g.nx - 1) (two_rows_turn g marks j) (sweep_node g marks j 0 s))
    ≡ sweep_row g marks (j + 1) (sweep_row g marks j s)
unfolding sweep_row for_up
two_rows g marks j s h =
    let lower = sweep_node g marks j in
    let upper = sweep_node g marks (j + 1) in
    let whole : suc (g.nx - 1) ≡ g.nx = omega arith in
    ap (upper (g.nx - 1)) (behind lower upper g.nx (near_rows g marks j) s (g.nx - 1) (omega arith))
    ∙ ap (λ (n : ℕ). for_up n upper (for_up n lower s)) whole

-- rows with no node
pub no_columns : (g : Grid) (marks : List ℕ) (j : ℕ) (s : SweptField) → g.nx ≡ 0 → s ≡ sweep_row g marks (j + 1) (sweep_row g marks j s)
unfolding sweep_row for_up
no_columns g marks j s e = ap (λ (n : ℕ). for_up n (sweep_node g marks (j + 1)) (for_up n (sweep_node g marks j) s)) (sym e)
