-- `numbers::abs_f64` meets its contract: the library's `abs` is `abs_f`. Assumes nothing.
use Rattle.std.proofs.Common.{◌≡◌, false, refl, ◌∙◌}
use lib.Ieee.{Float, nan, inf, fin}
use Rattle.std.specs.Float.{float_with_sign}
use Rattle.numbers.specs.Float.{abs_f}
use Rattle.numbers.proofs.abs_f64.Goals as goal

same : (x : Float) → float_with_sign false x ≡ abs_f x
unfolding float_with_sign abs_f
same nan = refl
same (inf s) = refl
same (fin s m e) = refl

pub returns : goal.returns
returns c = c.abs.ensures.value ∙ same c.args.x
