-- The list `fours` as numbers: those below 65,536 that pass, rising, and the order that rising numbers give. What holds of it is in proofs/Order.antt.
use Rattle.std.specs.Prelude.{◌≡◌, List, [], ◌∷◌, ◌++◌, ◌⊎◌, Bool, true, cond, ℕ, ◌<◌, length, get_or}
use Rattle.laws.specs.Loop.{for_up}
use Rattle.small_quads_lattice.specs.Fours.{first_point, second_point, third_point, fourth_point, points_of}

-- ---- the numbers of the fours

abbrev pub number_turn : (ℕ → Bool) → ℕ → List ℕ → List ℕ
number_turn test k l = cond (test k) (l ++ k ∷ []) l

-- the numbers that pass, below n
unfoldable pub numbers_below : (ℕ → Bool) → ℕ → List ℕ
numbers_below test n = for_up n (number_turn test) []

-- the points of one number after the other
unfoldable pub written_out : List ℕ → List ℕ
written_out [] = []
written_out (k ∷ ks) = points_of k ++ written_out ks

-- l has the numbers below n that pass, each once, rising
pub record NumbersBelow (test : ℕ → Bool) (n : ℕ) (l : List ℕ) : Type 0 where
  pub below : (i : ℕ) → i < length l → get_or l i 0 < n
  pub passes : (i : ℕ) → i < length l → test (get_or l i 0) ≡ true
  pub rising : (i j : ℕ) → i < j → j < length l → get_or l i 0 < get_or l j 0
  pub all : (k : ℕ) → k < n → test k ≡ true → (i : ℕ) × (i < length l) × (get_or l i 0 ≡ k)

-- ---- dictionary order

-- the four k stands before the four l in a dictionary
abbrev pub Before : ℕ → ℕ → Type 0
Before k l =
    (first_point k < first_point l) ⊎ ((first_point k ≡ first_point l) × ((second_point k < second_point l) ⊎ ((second_point k ≡ second_point l)
    × ((third_point k < third_point l) ⊎ ((third_point k ≡ third_point l) × (fourth_point k < fourth_point l))))))
