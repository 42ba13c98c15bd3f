-- The lowest number that passes a test. Definitions only.
use Rattle.std.specs.Prelude.{Bool, cond, ℕ}
use Rattle.laws.specs.Loop.{Turn, go, out, run}

abbrev pub lowest_turn : (ℕ → Bool) → ℕ → Unit {0} → Turn (Unit {0}) ℕ
lowest_turn test i s = cond (test i) (out i) (go s)

-- the lowest number below n that passes the test, and n where none does
unfoldable pub lowest : ℕ → (ℕ → Bool) → ℕ
lowest n test = run n (lowest_turn test) (λ s. n) tt
