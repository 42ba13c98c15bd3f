-- What the test of a callee's answer x tells of the definition b that the answer equals.
use Rattle.std.specs.Prelude.{Bool, true, false, not, ◌≡◌}
use Rattle.std.proofs.Common.{sym, ◌∙◌}
use Rattle.std.proofs.lemmas.Bool.{not-true, not-false}

-- `if !f(..)`, taken and left
pub test_refused : {x b : Bool} → x ≡ b → not x ≡ true → b ≡ false
test_refused e t = sym e ∙ not-true _ t

pub test_passed : {x b : Bool} → x ≡ b → not x ≡ false → b ≡ true
test_passed e t = sym e ∙ not-false _ t
