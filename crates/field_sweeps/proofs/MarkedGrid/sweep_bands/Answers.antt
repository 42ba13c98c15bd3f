-- `field_sweeps::MarkedGrid::sweep_bands` meets its contract. Assumes nothing.
use Rattle.std.proofs.Common.{◌≡◌, refl, ◌∙◌, ◌+◌, ◌*◌, ◌≤◌, arith, mul-le-mul_right}
use Rattle.std.proofs.Math.Logic.{⊎_elim}
use Rattle.laws.specs.Loop.{loop_start_lem, loop_next}
use Rattle.field_sweeps.proofs.MarkedGrid.sweep_bands.Goals as goal

pub loop-k-init : goal.loop-k-init
loop-k-init c = (refl, loop_start_lem _ _ _)

pub sweep_four_rows-quiet-requires-clause-rows : goal.sweep_four_rows-quiet-requires-clause-rows
sweep_four_rows-quiet-requires-clause-rows c =
    let l = c.loop-k in
    let g = c.args.self.grid in
    let over : 4 * l.k + 4 ≤ g.ny = omega (arith, c.requires.bands.within, c.loop-k-test.true) in
    (omega (arith, over), omega (arith, c.requires.room.marks, mul-le-mul_right g.nx over))

pub sweep_four_rows-quiet-requires-clause-columns : goal.sweep_four_rows-quiet-requires-clause-columns
sweep_four_rows-quiet-requires-clause-columns c =
    ⊎_elim (λ e. absurd (omega (arith, e, c.loop-k-test.true))) (λ h. h) c.requires.bands.columns

pub loop-k-preserved : goal.loop-k-preserved
loop-k-preserved c =
    let l = c.loop-k in
    let h = c.loop-k-test.true in
    let next : 4 * (l.k + 1) ≡ 4 * l.k + 1 + 1 + 1 + 1 = omega arith in
    let two : 4 * l.k + 2 ≡ 4 * l.k + 1 + 1 = omega arith in
    let three : 4 * l.k + 3 ≡ 4 * l.k + 1 + 1 + 1 = omega arith in (
      c.sweep_four_rows-quiet.auto.values ∙ l.invariant.0,
      rw (next, c.sweep_four_rows-quiet.ensures, two, three)
          (loop_next _ _ (loop_next _ _ (loop_next _ _ (loop_next _ _ l.invariant.1 (omega (arith, h, c.requires.bands.within))) (omega (arith, h, c.requires.bands.within))) (omega (arith, h, c.requires.bands.within))) (omega (arith, h, c.requires.bands.within))),
    )
