-- `bowl_nearest_step::size_in_steps` meets its contract: `no_step` below 1/128, then `step_shift`.
use mathlib.Core.Path.{◌∙◌}
use native.Mathlib.Omega.{arith}
use Rattle.bowl_nearest_step.proofs.StepBase.{no_step, step_shift}
use Rattle.bowl_nearest_step.proofs.size_in_steps.Goals as goal

pub returns-then-exponent-lt1015 : goal.returns-then-exponent-lt1015
returns-then-exponent-lt1015 c = no_step c.args.significand c.args.exponent c.requires.0 c.if-exponent-lt1015.true

pub nearest_whole-requires : goal.nearest_whole-requires
nearest_whole-requires c =
    (c.requires.0, omega (arith, c.requires.1), omega (arith, c.if-exponent-lt1015.false))

pub returns : goal.returns
returns c =
    c.nearest_whole.ensures
    ∙ step_shift c.args.significand c.args.exponent c.if-exponent-lt1015.false c.requires.1
