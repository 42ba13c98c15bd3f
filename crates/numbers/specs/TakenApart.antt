-- A finite double taken apart: its sign, and its size as a significand times a power of two, in units of 2 ^ -1074. Definitions only.
use Rattle.std.specs.Prelude.{◌*◌, ◌^◌, ◌<◌, ◌≤◌, Float}
use Rattle.std.specs.Float.Ieee.Exact.{HasValue}
use Rattle.numbers.specs.declared.Parts.{Parts}

-- `value`: the double is exactly that. `short`: the significand has at most 53 binary digits; `leading`: exactly 53 where there is a power of two.
pub record IsParts (x : Float) (p : Parts) : Type 0 where
  pub value : HasValue x p.negative (p.significand * 2 ^ p.exponent) (2 ^ 1074)
  pub short : p.significand < 2 ^ 53
  pub leading : 0 < p.exponent → 2 ^ 52 ≤ p.significand
