-- `index::later_columns` meets its contract: the columns passed have no place under them.
use Rattle.std.specs.Prelude.{◌≡◌, ℕ, ◌+◌, ◌%◌, length}
use Rattle.std.proofs.Common.{refl, ap, ◌∙◌, arith}
use Rattle.index_pools.specs.Pool.{cells}
use Rattle.index_pools.specs.FileLaws.{cell_in}
use Rattle.index.proofs.AcrossLaws.{across_end}
use Rattle.index.proofs.CursorLaws.{seeking_cell, seeking_hit, seeking_next, row_none, on_place, none_over}
use Rattle.index.proofs.cursors.later_columns.Goals as goal
use Rattle.index.proofs.cursors.later_columns.Goals.{After-next_cell-cell}

step : (c : After-next_cell-cell) → c.next_cell-cell.result ≡ (c.loop-i.cell + 1) % cells (length c.args.pool.now)
step c = c.next_cell-cell.ensures ∙ ap (λ (m : ℕ). (c.loop-i.cell + 1) % m) c.cells_of-m.ensures

pub loop-i-init : goal.loop-i-init
loop-i-init c = record { here = c.requires.1; same = refl }

pub next_cell-cell-requires : goal.next_cell-cell-requires
next_cell-cell-requires c =
    omega (arith, c.loop-i.invariant.here, cell_in (length c.args.pool.now) c.loop-i.i c.args.j c.requires.0, c.cells_of-m.ensures)

pub head_at-t-requires : goal.head_at-t-requires
head_at-t-requires c =
    omega (
      arith,
      seeking_cell c.requires.0 c.loop-i.invariant c.loop-i-test.true (step (goal.at.head_at-t-requires c).After-next_cell-cell),
      cell_in (length c.args.pool.now) (c.loop-i.i + 1) c.args.j c.requires.0,
    )

pub returns-then-t-limit : goal.returns-then-t-limit
returns-then-t-limit c =
    let small = rw c.capacity_of-limit.ensures at c.if-t-limit.true in
    record {
      rest = seeking_hit c.requires.0 c.loop-i.invariant c.loop-i-test.true (step (goal.at.returns-then-t-limit c).After-next_cell-cell) _ c.head_at-t.ensures small;
      place = on_place _ _ small;
    }

pub loop-i-preserved : goal.loop-i-preserved
loop-i-preserved c =
    seeking_next c.requires.0 c.loop-i.invariant c.loop-i-test.true (step (goal.at.loop-i-preserved c).After-next_cell-cell)
    (rw (c.capacity_of-limit.ensures, c.head_at-t.ensures) at c.if-t-limit.false)

pub returns-clause-rest : goal.returns-clause-rest
returns-clause-rest c = row_none none_over (c.loop-i.invariant.same ∙ across_end _ _ _ (omega (arith, c.loop-i-test.false)))
