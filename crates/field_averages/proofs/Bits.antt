-- A truth value as a number.
use Rattle.std.specs.Prelude.{Bool, true, false, cond, ℕ, ◌≡◌, refl}
use mir.Val.{bool_byte}

pub bool_number : (b : Bool) → ◌≡◌ {A = ℕ} (bool_byte b) (cond b 1 0)
bool_number true = refl
bool_number false = refl
