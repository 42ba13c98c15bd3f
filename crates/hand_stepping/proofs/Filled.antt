-- A part of a list filled at once is its places set one after the other. Assumes nothing.
use Rattle.std.specs.Prelude.{ℕ, zero, suc, ◌+◌, ◌<◌, ◌≤◌, List, [], ◌∷◌, ◌++◌, ◌≡◌, refl, length, set, replicate}
use Rattle.std.proofs.Common.{ap, sym, ◌∙◌, drop, zero-add, arith}
use Rattle.std.proofs.Math.Nat.{suc-add}
use borrow.Rule.Slice.PartMut.{put_mid}
use Rattle.laws.specs.Loop.{for_up}
use Rattle.hand_steps.specs.Hand.{origin_turn}

-- one place more
filled_more : (v j : ℕ) (l : List ℕ) → j < length l → set (replicate j v ++ drop j l) j v ≡ replicate (suc j) v ++ drop (suc j) l
filled_more v zero [] h = absurd (omega arith)
filled_more v zero (x ∷ l) h = refl
filled_more v (suc j) [] h = absurd (omega arith)
filled_more v (suc j) (x ∷ l) h = ap (λ t. v ∷ t) (filled_more v j l (omega arith))

-- the first j places
filled_start : (v j : ℕ) (l : List ℕ) → j ≤ length l → replicate j v ++ drop j l ≡ for_up j (origin_turn v 0) l
unfolding for_up
filled_start v zero l h = refl
filled_start v (suc j) l h =
    sym (filled_more v j l (omega arith)) ∙ rw (zero-add j) (ap (λ t. set t j v) (filled_start v j l (omega arith)))

-- places past the first
filled_past : (v n j x : ℕ) (l : List ℕ) → for_up j (origin_turn v (suc n)) (x ∷ l) ≡ x ∷ for_up j (origin_turn v n) l
unfolding for_up
filled_past v n zero x l = refl
filled_past v n (suc j) x l = rw (suc-add n j, filled_past v n j x l) refl

pub filled : (v n j : ℕ) (l : List ℕ) → n + j ≤ length l → put_mid n j l (replicate j v) ≡ for_up j (origin_turn v n) l
filled v zero j l h = filled_start v j l (omega arith)
filled v (suc n) j [] h = absurd (omega arith)
filled v (suc n) j (x ∷ l) h = ap (λ t. x ∷ t) (filled v n j l (omega arith)) ∙ sym (filled_past v n j x l)
