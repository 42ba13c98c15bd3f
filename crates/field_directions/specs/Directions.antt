-- Lists of directions: the direction query over a whole list of points and targets, its answers as floats, and refusal 14. Definitions only.
use Rattle.std.specs.Prelude.{Bool, not, ◌||◌, cond, List, Result, Ok, Err, [], ◌∷◌, ◌++◌, ◌≡◌, ℕ, ◌*◌, ◌%◌, ◌<◌, ltb, eqb, length, take, drop, Float}
use Rattle.laws.specs.Loop.{for_up}
use Rattle.numbers.specs.Float.{zero_f, to_float}
use Rattle.outline.specs.declared.Point.{Point}
use Rattle.outline.specs.Outline.{points, point_at, first_of}
use Rattle.outline.specs.Queries.{answer_by}
use Rattle.field_direction.specs.Record.{FieldRecord, field_record}
use Rattle.field_direction.specs.Direction.{record_refusal, direction_answer}

-- the record of the three floats, the two counts and the two lists lent
abbrev pub record_lent : Float → Float → Float → ℕ → ℕ → List Float → List ℕ → FieldRecord
record_lent xmin ymin h nx ny values marks = field_record (record { xmin = xmin; ymin = ymin; h = h; nx = nx; ny = ny }) values marks

-- ---- the answers

-- an answer as three floats: 0 and the direction, or the refusal's number and two zeros
unfoldable pub direction_floats : Result Point ℕ → List Float
direction_floats (Err n) = to_float n ∷ zero_f ∷ zero_f ∷ []
direction_floats (Ok d) = zero_f ∷ d.x ∷ d.y ∷ []

-- point i's: those of the single query, `direction_answer`, for point i and target i
abbrev pub floats_at : FieldRecord → List Float → List Float → ℕ → List Float
floats_at r ps targets i = direction_floats (direction_answer r (point_at ps i) (point_at targets i))

-- f 0, f 1, .., f (n - 1), one after the other
unfoldable pub strung : (ℕ → List Float) → ℕ → List Float
strung f n = for_up n (λ i l. l ++ f i) []

-- ---- the refusals

-- 14: the two lists differ in length, end in half a point, or the answer list has fewer than three floats a point
unfoldable pub lists_unfit : List Float → List Float → List Float → Bool
lists_unfit ps targets answers =
    not (eqb (length ps) (length targets)) || (eqb (length ps % 2) 1 || ltb (length answers) (3 * points ps))

-- 14, then 11 for the whole list, also an empty one
unfoldable pub directions_refusal : FieldRecord → List Float → List Float → List Float → ℕ
directions_refusal r ps targets answers = first_of (cond (lists_unfit ps targets answers) 14 0) (record_refusal r)

-- ---- the call

-- the refusal, 0 for none, and the answer list as it is left
pub record DirectionsExit : Type 0 where
  pub refusal : ℕ
  pub answers : List Float

abbrev pub directions_exit : ℕ → List Float → DirectionsExit
directions_exit refusal answers = record { refusal = refusal; answers = answers }

-- refused, with the answer list as it was; or the answers of all points on its first places, and the others as they were
unfoldable pub directions_answer : FieldRecord → List Float → List Float → List Float → DirectionsExit
directions_answer r ps targets answers =
    answer_by (λ number. directions_exit number answers)
    (directions_exit 0 (strung (floats_at r ps targets) (points ps) ++ drop (3 * points ps) answers))
    (directions_refusal r ps targets answers)

-- WHAT A HOST GETS of a record, points and targets, where `before` is lent for the answers, `refusal` answered and `after` left in that list
pub record DirectionsGiven (r : FieldRecord) (ps targets before : List Float) (refusal : ℕ) (after : List Float) : Type 0 where
  -- number and list are the definition's
  pub equal : directions_exit refusal after ≡ directions_answer r ps targets before
  -- a refusal leaves the list as it was
  pub refused : (refusal ≡ 0 → ⊥) → after ≡ before
  -- the three floats of each point are the single query's answer to it, in the order of the points
  pub each : refusal ≡ 0 → (i : ℕ) → i < points ps → take 3 (drop (3 * i) after) ≡ floats_at r ps targets i
  -- places past three a point keep their contents
  pub past : refusal ≡ 0 → drop (3 * points ps) after ≡ drop (3 * points ps) before
