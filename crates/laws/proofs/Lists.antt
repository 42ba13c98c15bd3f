-- `any_up` over a list is the library's `list_any`.
use Rattle.std.specs.Prelude.{Bool, List, [], ◌∷◌, ◌||◌, ◌≡◌, refl, ℕ, zero, suc, length, get_or}
use Rattle.std.specs.List.{list_any}
use Rattle.std.proofs.Common.{sym, ap, ◌∙◌}
use Rattle.std.proofs.Math.Bool.{true, false}
use Rattle.laws.specs.Loop.{for_up, any_up}

-- the first index apart
any_first : (n : ℕ) (test : ℕ → Bool) → any_up (suc n) test ≡ (test 0 || any_up n (λ i. test (suc i)))
unfolding any_up for_up
any_first zero test = swap (test 0)
  where
    swap : (b : Bool) → (false || b) ≡ (b || false)
    swap true = refl
    swap false = refl
any_first (suc n) test = ap (λ (b : Bool). b || test (suc n)) (any_first n test) ∙ moved (test 0) (any_up n (λ i. test (suc i))) (test (suc n))
  where
    moved : (a b c : Bool) → ((a || b) || c) ≡ (a || (b || c))
    moved true b c = refl
    moved false b c = refl

pub any_list : {A : Type 0} (test : A → Bool) (d : A) (s : List A) → list_any test s ≡ any_up (length s) (λ i. test (get_or s i d))
unfolding any_up for_up
any_list test d [] = refl
any_list test d (x ∷ s) = ap (λ (b : Bool). test x || b) (any_list test d s) ∙ sym (any_first (length s) (λ i. test (get_or (x ∷ s) i d)))
