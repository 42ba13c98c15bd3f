-- `index_pools::file_row` meets its contract: one column more a turn, and its cell by a step.
use mathlib.Core.Path.{◌∙◌, ap}
use Prim.Native.Nat.{ℕ, ◌+◌, ◌%◌}
use native.Mathlib.Omega.{arith}
use Rattle.index_pools.specs.Pool.{cells, cell_of}
use Rattle.index_pools.specs.FileLaws.{some_cell, row_start, row_inside, row_next, row_end}
use Rattle.index_pools.proofs.file_row.Goals as goal

pub cell_of-cell-requires : goal.cell_of-cell-requires
cell_of-cell-requires c =
    (rw c.cells_of-m.ensures (some_cell _ c.requires.0), omega arith, c.requires.1)

pub loop-k-init : goal.loop-k-init
loop-k-init c =
    let args = c.args in
    row_start (c.cell_of-cell.ensures ∙ ap (λ (m : ℕ). cell_of m args.left args.j) c.cells_of-m.ensures)

pub push-requires : goal.push-requires
push-requires c =
    (row_inside c.loop-k.invariant c.requires.0, rw c.loop-k.invariant.size (omega (arith, c.loop-k.invariant.places, c.requires.2, c.loop-k-test.true, c.span-w.ensures)))

pub next_cell-cell-requires : goal.next_cell-cell-requires
next_cell-cell-requires c =
    omega (arith, row_inside c.loop-k.invariant c.requires.0, ap cells c.loop-k.invariant.size, c.cells_of-m.ensures)

pub loop-k-preserved : goal.loop-k-preserved
loop-k-preserved c =
    row_next c.loop-k.invariant c.requires.0 c.loop-k-test.true c.push.ensures
    (c.next_cell-cell.ensures ∙ ap (λ (m : ℕ). (c.loop-k.cell + 1) % m) c.cells_of-m.ensures)

pub shape_of-pool : goal.shape_of-pool
shape_of-pool c = c.loop-k.invariant.size

pub returns : goal.returns
returns c = row_end c.loop-k.invariant _ c.loop-k-test.false c.span-w.ensures
