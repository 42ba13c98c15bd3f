-- A chain of tests that is left at the first that fails. Assumes nothing.
use Rattle.std.specs.Prelude.{◌≡◌, refl, Bool, true, false, ◌&&◌}
use Rattle.std.proofs.Common.{sym, ◌∙◌}
use Rattle.laws.specs.Tests.{and_true, and_false}

pub passes : {a b r : Bool} → a ≡ true → r ≡ b → r ≡ a && b
passes p q = rw p q

pub fails : {a : Bool} (b : Bool) → a ≡ false → false ≡ a && b
fails b p = rw p refl

-- the second test is asked first
pub second_passes : {a b r : Bool} → b ≡ true → r ≡ a → r ≡ a && b
second_passes {a} p q = rw p (q ∙ sym (and_true a))

pub second_fails : (a : Bool) {b : Bool} → b ≡ false → false ≡ a && b
second_fails a p = rw p (sym (and_false a))

pub exchange : (a b c : Bool) → a && (b && c) ≡ b && (a && c)
exchange true b c = refl
exchange false b c = sym (and_false b)
