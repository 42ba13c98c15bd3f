-- A product with a half, a quarter, or any such power of two is the quotient by 2, 4, .., for every float: NaNs, infinities, both zeros, and results
-- too small for a normal float, since both are one exact fraction, rounded once. Assumes nothing.
use Rattle.std.specs.Prelude.{false, ◌≡◌, refl, ℕ, suc, ◌*◌, ◌^◌, pos, negsuc, Float}
use Rattle.std.proofs.Common.{sym, ap, ◌∙◌, mul_comm, one-mul}
use Rattle.std.specs.Float.{nan, inf, fin, binary64}
use Rattle.std.specs.Float.Ieee.{up, down, unlike, round, mul, div}
use Rattle.numbers.specs.Float.{◌⊗◌, ◌⊘◌}

-- 2 ^ -(k + 1), and 2 ^ (k + 1)
abbrev pub power_below : ℕ → Float
power_below k = fin false 1 (negsuc k)

abbrev pub power_above : ℕ → Float
power_above k = fin false 1 (pos (suc k))

pub power_same : (k : ℕ) (x : Float) → x ⊗ power_below k ≡ x ⊘ power_above k
unfolding mul div
power_same k nan = refl
power_same k (inf s) = refl
power_same k (fin s m e) =
    ap (λ (d : ℕ). round binary64 (unlike s false) (m * up e * 1) d)
    (mul_comm (down e) (2 ^ suc k) ∙ ap (λ (z : ℕ). z * down e) (sym (one-mul (2 ^ suc k))))
