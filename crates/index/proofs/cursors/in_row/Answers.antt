-- `index::in_row` meets its contract: the first column, and then the later ones.
use Rattle.std.specs.Prelude.{◌≡◌, ℕ, ◌+◌, ◌-◌, length}
use Rattle.std.proofs.Common.{sym, ap, ◌∙◌, arith}
use Rattle.index_pools.specs.Pool.{cells, cell_of, chain_at}
use Rattle.index_pools.specs.FileLaws.{some_cell, cell_in}
use Rattle.index.specs.Walk.{columns}
use Rattle.index.proofs.AcrossLaws.{across_from, across_end}
use Rattle.index.proofs.CursorLaws.{row_hit, row_miss, row_none, row_same, on_place, none_over}
use Rattle.index.proofs.cursors.in_row.Goals as goal
use Rattle.index.proofs.cursors.in_row.Goals.{After-cell_of-cell}

-- the cell of the first column
here : (c : After-cell_of-cell) → let args = c.args in c.cell_of-cell.result ≡ cell_of (cells (length args.pool.now)) args.left args.j
here c = let args = c.args in c.cell_of-cell.ensures ∙ ap (λ (m : ℕ). cell_of m args.left args.j) c.cells_of.ensures

pub returns-then-right-left-clause-rest : goal.returns-then-right-left-clause-rest
returns-then-right-left-clause-rest c = row_none none_over (across_end _ _ _ (omega (arith, c.if-right-left.true)))

pub cell_of-cell-requires : goal.cell_of-cell-requires
cell_of-cell-requires c = (rw c.cells_of.ensures (some_cell _ c.requires.0), omega arith, c.requires.1)

pub head_at-t-requires : goal.head_at-t-requires
head_at-t-requires c =
    omega (arith, here (goal.at.head_at-t-requires c).After-cell_of-cell, cell_in (length c.args.pool.now) c.args.left c.args.j c.requires.0)

pub returns-then-t-capacity_of : goal.returns-then-t-capacity_of
returns-then-t-capacity_of c =
    let n = length c.args.pool.now in
    let small = rw c.capacity_of.ensures at c.if-t-capacity_of.true in
    record {
      rest =
          row_hit c.args.pool.now c.args.right c.args.left c.args.j c.cell_of-cell.result c.requires.0 (here (goal.at.returns-then-t-capacity_of c).After-cell_of-cell)
          _ _ c.head_at-t.ensures small (across_from (λ i. chain_at n c.args.pool.now i c.args.j) c.args.left c.args.right c.if-right-left.false);
      place = on_place n _ small;
    }

pub later_columns-requires : goal.later_columns-requires
later_columns-requires c = (c.requires.0, here (goal.at.later_columns-requires c).After-cell_of-cell)

pub returns : goal.returns
returns c =
    let args = c.args in
    let pool = args.pool.now in
    let n = length pool in
    record {
      rest =
          row_same
          (sym (across_from (λ i. chain_at n pool i args.j) args.left args.right c.if-right-left.false
          ∙ row_miss pool args.right args.left args.j c.cell_of-cell.result c.requires.0 (here (goal.at.returns c).After-cell_of-cell)
          (columns pool args.j (args.right - args.left) (args.left + 1)) (rw (c.capacity_of.ensures, c.head_at-t.ensures) at c.if-t-capacity_of.false)))
          c.later_columns.ensures.rest;
      place = c.later_columns.ensures.place;
    }
