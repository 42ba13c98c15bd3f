-- `field_sweeps::MarkedGrid::sweeps` meets its contract. Assumes nothing.
use mathlib.Core.List.{List}
use mathlib.Core.Path.{refl, ◌∙◌}
use lib.Ieee.{Float}
use Rattle.laws.specs.Loop.{run_start, run_go, run_out, run_end}
use Rattle.field_averages.specs.Places.{room_of}
use Rattle.field_sweeps.specs.Sweeps.{sweeps}
use Rattle.field_sweeps.proofs.MarkedGrid.sweeps.Goals as goal

pub loop-init : goal.loop-init
loop-init c = (refl, run_start _ (λ (last : List Float). last) _ _)

pub sweep-requires : goal.sweep-requires
sweep-requires c = room_of c.requires c.loop.invariant.0 refl

pub shape_of-values-then-sweep : goal.shape_of-values-then-sweep
shape_of-values-then-sweep c = c.sweep.auto.values ∙ c.loop.invariant.0

pub returns-then-sweep : goal.returns-then-sweep
unfolding sweeps
returns-then-sweep c = run_out _ _ _ _ c.loop.invariant.1
    c.loop-test.true (rw (← c.sweep.ensures, c.if-sweep.true))

pub loop-preserved : goal.loop-preserved
loop-preserved c = (
  c.sweep.auto.values ∙ c.loop.invariant.0,
  run_go _ (λ (last : List Float). last) _ _ c.loop.invariant.1
      c.loop-test.true (rw (← c.sweep.ensures, c.if-sweep.false)),
)

pub shape_of-values : goal.shape_of-values
shape_of-values c = c.loop.invariant.0

pub returns : goal.returns
unfolding sweeps
returns c = run_end _ _ _ c.loop.invariant.1 c.loop-test.false
