-- `points_text::read_cells` meets its contract.
use Rattle.std.specs.Prelude.{◌≡◌, ℕ}
use Rattle.std.proofs.Common.{arith, ap, ◌∙◌, subst, length}
use Rattle.laws.specs.Loop.{loop_start_lem, loop_next, loop_end}
use Rattle.points_text.specs.Words.{no_cells, cell_ended, cells}
use Rattle.points_text.specs.Bounds.{CellsFit}
use Rattle.points_text.proofs.Spans.{fits_none, fits_next, fits_ended, count_next}
use Rattle.points_text.proofs.read_cells.Goals as goal

pub loop-i-init : goal.loop-i-init
unfolding no_cells
loop-i-init c = rw c.none-cells.ensures (loop_start_lem _ _ _, fits_none, omega arith)

pub loop-i-preserved : goal.loop-i-preserved
loop-i-preserved c = rw c.read-cells.ensures (
  loop_next _ _ c.loop-i.invariant.0 c.loop-i-test.true,
  fits_next _ _ _ _ c.loop-i.invariant.1,
  count_next _ _ _ _ c.loop-i.invariant.2,
)

pub returns-clause-is : goal.returns-clause-is
unfolding cells
returns-clause-is c = c.ended.ensures ∙ ap cell_ended (loop_end _ _ c.loop-i.invariant.0 c.loop-i-test.false)

pub returns-clause-fits : goal.returns-clause-fits
returns-clause-fits c =
    let all : c.loop-i.i ≡ length c.args.row.now = omega (arith, c.loop-i.invariant.0.within) in
    rw c.ended.ensures (fits_ended (subst (λ (n : ℕ). CellsFit n c.loop-i.cells) all c.loop-i.invariant.1))
