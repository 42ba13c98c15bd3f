-- Every run of passes ends as Ends.antt describes it: `advance_ends`. Turn by turn through a pass, and pass by pass.
use Rattle.std.specs.Prelude.{◌≡◌, List, ℕ, suc, ◌<◌, ◌≤◌, length, get_or}
use Rattle.std.proofs.Math.Path.{refl}
use Rattle.std.proofs.Common.{◌∙◌, ⊎_elim, eq-or-lt_of_le, le_of_suc-le-suc, arith, length-set, get_or-set_same, get_or-set_other}
use Rattle.laws.specs.Loop.{for_up_keeps}
use Rattle.topology.specs.Links.{off}
use Rattle.paving.specs.Advance.{copy_turn, copied}

-- i is the last of the numbers below n + 1, or below n
pub last_or_less : (i n : ℕ) {A : Type 0} → i < suc n → (i ≡ n → A) → (i < n → A) → A
last_or_less i n h last less = ⊎_elim last less (eq-or-lt_of_le (le_of_suc-le-suc h))

-- ---- the snapshot holds the links

pub copied_at : (n : ℕ) (links l : List ℕ) → n ≤ length l → (a : ℕ) → a < n → get_or (copied n links l) a 0 ≡ get_or links a off
unfolding copied
copied_at n links l long a h =
    (for_up_keeps (λ k m. (length m ≡ length l) × ((a : ℕ) → a < k → get_or m a 0 ≡ get_or links a off)) n (copy_turn links) l
    (refl, λ a h. absurd (omega arith)) one).1 a h
  where
    one : (k : ℕ) (m : List ℕ) → k < n → (length m ≡ length l) × ((a : ℕ) → a < k → get_or m a 0 ≡ get_or links a off)
        → (length (copy_turn links k m) ≡ length l) × ((a : ℕ) → a < suc k → get_or (copy_turn links k m) a 0 ≡ get_or links a off)
    one k m less P = (
      length-set m k (get_or links k off) ∙ P.0,
      λ a h.
          last_or_less a k h (λ e. rw e (get_or-set_same m k (get_or links k off) 0 (omega (arith, P.0))))
          (λ g. get_or-set_other m k a (get_or links k off) 0 (λ e. omega arith) ∙ P.1 a g),
    )
