-- Refusal 10 of the list of the loops' lengths. Definitions only.
use Rattle.std.specs.Prelude.{cond, ℕ, ltb}
use Rattle.outline.specs.Outline.{Outline}
use Rattle.front.specs.Sampling.{loop_count}

-- 10: there are fewer places for the lengths of loops than the outline has loops
abbrev pub lengths_refusal : Outline → ℕ → ℕ
lengths_refusal o places = cond (ltb places (loop_count o)) 10 0
