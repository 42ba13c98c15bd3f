-- `index::any_in_row` meets its contract: the columns left answer.
use Rattle.std.specs.Prelude.{ℕ, ◌+◌, ◌%◌, length}
use Rattle.std.proofs.Common.{sym, ap, ◌∙◌, arith, rules}
use Rattle.index_pools.specs.Pool.{cells}
use Rattle.index_pools.specs.FileLaws.{cell_in, next_column}
use Rattle.index.proofs.Walked.{row_hit, row_next, row_over}
use Rattle.index.proofs.any_in_row.Goals as goal

pub cell_of-cell-requires : goal.cell_of-cell-requires
cell_of-cell-requires g c =
    let inside = cell_in (length c.args.pool.now) 0 0 c.requires.cells.0 in
    (omega (arith, inside, c.cells_of-m.ensures), search rules, c.requires.cells.1)

pub head_at-requires : goal.head_at-requires
head_at-requires g c = rw (sym c.loop-k.invariant.0) at (cell_in (length c.args.pool.now) c.loop-k.k c.args.j c.requires.cells.0)

pub returns-then-any_in_chain : goal.returns-then-any_in_chain
returns-then-any_in_chain g c =
    λ tests decides.
    row_hit tests c.args.pool.now c.args.j c.loop-k.k (c.args.right + 1) c.loop-k.invariant.0 (c.loop-k.invariant.1 tests decides) c.loop-k-test.true c.head_at.ensures
    (c.any_in_chain.ensures tests decides) c.if-any_in_chain.true

pub next_cell-cell-requires : goal.next_cell-cell-requires
next_cell-cell-requires g c =
    omega (arith, cell_in (length c.args.pool.now) c.loop-k.k c.args.j c.requires.cells.0, c.loop-k.invariant.0, c.cells_of-m.ensures)

pub loop-k-preserved : goal.loop-k-preserved
loop-k-preserved g c = (
  c.next_cell-cell.ensures ∙ ap (λ (m : ℕ). (c.loop-k.cell + 1) % m) c.cells_of-m.ensures
      ∙ ap (λ (h : ℕ). (h + 1) % cells (length c.args.pool.now)) c.loop-k.invariant.0
      ∙ sym (next_column (cells (length c.args.pool.now)) c.loop-k.k c.args.j),
  λ tests decides.
      row_next tests c.args.pool.now c.args.j c.loop-k.k (c.args.right + 1) c.loop-k.invariant.0 (c.loop-k.invariant.1 tests decides) c.loop-k-test.true c.head_at.ensures
      (c.any_in_chain.ensures tests decides) c.if-any_in_chain.false,
)

pub returns : goal.returns
returns g c = λ tests decides. row_over tests c.args.pool.now c.args.j c.loop-k.k (c.args.right + 1) c.loop-k.invariant.0 (c.loop-k.invariant.1 tests decides) (omega (arith, c.loop-k-test.false))
