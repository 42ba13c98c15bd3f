-- `field_sweeps::MarkedGrid::sweep` meets its contract. Assumes nothing.
use Rattle.std.proofs.Common.{◌≡◌, ◌∙◌, ◌+◌, ◌*◌, arith}
use Rattle.laws.specs.Loop.{loop_next, loop_end}
use Rattle.field_sweeps.specs.Sweeps.{sweep}
use Rattle.field_sweeps.proofs.MarkedGrid.sweep.Goals as goal

pub loop-k-init : goal.loop-k-init
loop-k-init c =
    let none : 4 * c.bands-bands.result + 0 ≡ 4 * c.bands-bands.result = omega arith in (
      c.sweep_bands-quiet.auto.values,
      record { within = omega (arith, c.bands-bands.ensures.within); same = rw none c.sweep_bands-quiet.ensures },
    )

pub loop-k-preserved : goal.loop-k-preserved
loop-k-preserved c =
    let l = c.loop-k in
    let next : 4 * c.bands-bands.result + (l.k + 1) ≡ 4 * c.bands-bands.result + l.k + 1 = omega arith in (
      c.sweep_row-quiet.auto.values ∙ l.invariant.0,
      rw (next, c.sweep_row-quiet.ensures) (loop_next _ _ l.invariant.1 (omega (arith, c.loop-k-test.true))),
    )

pub returns : goal.returns
unfolding sweep
returns c = loop_end _ _ c.loop-k.invariant.1 (omega (arith, c.loop-k-test.false, c.bands-bands.ensures.within))
