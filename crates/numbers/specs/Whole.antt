-- Whole numbers from floats, as Rust's `as` has them: cut to the integer type's range, and 0 for a NaN. Definitions only.
use Rattle.std.specs.Prelude.{◌≡◌, ◌<◌, Bool, ℕ, ◌+◌, ◌-◌, ◌*◌, ◌/◌, ◌%◌, ◌^◌, min, cond, ℤ, pos, neg_ℤ, nat_lt, Float}
use Rattle.std.specs.Float.{nan, inf, fin}
use Rattle.std.specs.Float.Ieee.{up, down}
use Rattle.numbers.specs.Float.{◌⊘◌}

-- a / c, rounded up
abbrev pub ceil_div : ℕ → ℕ → ℕ
ceil_div a c = (a + (c - 1)) / c

-- `x.floor() as i64`: rounded down, so the size of a negative number is rounded up
unfoldable pub floor_int : Float → ℤ
floor_int nan = pos 0
floor_int (inf s) = cond s (neg_ℤ (pos (2 ^ 63))) (pos (2 ^ 63 - 1))
floor_int (fin s m e) = cond s (neg_ℤ (pos (min (ceil_div (m * up e) (down e)) (2 ^ 63)))) (pos (min (m * up e / down e) (2 ^ 63 - 1)))

-- `(x / b).floor() as i64`: SCOPE's key of x for a bucket size b. The quotient is rounded before its floor is taken.
unfoldable pub floor_quotient : Float → Float → ℤ
floor_quotient x b = floor_int (x ⊘ b)

-- `x.ceil() as usize`
unfoldable pub ceil_count : Float → ℕ
ceil_count nan = 0
ceil_count (inf s) = cond s 0 (2 ^ 64 - 1)
ceil_count (fin s m e) = cond s 0 (min (ceil_div (m * up e) (down e)) (2 ^ 64 - 1))

-- the size of the double whose bits are b, the sign clear, in units of 2 ^ -1074
unfoldable pub size_of_bits : ℕ → ℕ
size_of_bits b = cond (nat_lt b (2 ^ 52)) b ((b % 2 ^ 52 + 2 ^ 52) * 2 ^ (b / 2 ^ 52 - 1))

-- of a size in such units, the whole part and whether a fraction is left
pub record IsWholePart (size whole : ℕ) (fraction : Bool) : Type 0 where
  pub floor : whole ≡ size / 2 ^ 1074
  pub ceil : whole + cond fraction 1 0 ≡ ceil_div size (2 ^ 1074)
  pub room : whole + cond fraction 1 0 < 2 ^ 64
