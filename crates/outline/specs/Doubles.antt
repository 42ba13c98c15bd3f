-- The floats of an outline's lists are doubles, as every `f64` is. Definitions only.
use Rattle.std.specs.Prelude.{List, ℕ, T, get_or, Float}
use Rattle.std.specs.Float.{nan, binary64}
use Rattle.std.specs.Float.Ieee.{fits}

pub record Doubles (s t : List Float) : Type 0 where
  pub outer : (i : ℕ) → T (fits binary64 (get_or s i nan))
  pub holes : (i : ℕ) → T (fits binary64 (get_or t i nan))
