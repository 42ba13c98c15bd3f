-- Two lists of bytes compared, and the lines of a text. Definitions only.
use Rattle.std.specs.Prelude.{cond, List, [], ◌∷◌, ◌≡◌, ℕ, suc, ◌+◌, ◌≤◌, eqb, length, drop, Option, Some, None}

-- the first place at which two lists differ, places counted from i on; one may end there
unfoldable pub compared_from : ℕ → List ℕ → List ℕ → Option ℕ
compared_from i [] [] = None
compared_from i [] (y ∷ m) = Some i
compared_from i (x ∷ l) [] = Some i
compared_from i (x ∷ l) (y ∷ m) = cond (eqb x y) (compared_from (suc i) l m) (Some i)

abbrev pub compared : List ℕ → List ℕ → Option ℕ
compared = compared_from 0

-- how many bytes there are before the first line feed, or in all
unfoldable pub line_length : List ℕ → ℕ
line_length [] = 0
line_length (b ∷ l) = cond (eqb b 10) 0 (suc (line_length l))

-- the line of l that begins at place i ends at place r
pub record EndsAt (l : List ℕ) (i r : ℕ) : Type 0 where
  pub same : r ≡ i + line_length (drop i l)
  pub within : (i ≤ r) × (r ≤ length l)
