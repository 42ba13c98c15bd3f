-- Laws of `laid`.
use Rattle.std.specs.Prelude.{◌≡◌, ◌≤◌, List, [], ◌∷◌, ◌++◌, length, refl}
use Rattle.std.proofs.Common.{ap, le_of_suc-le-suc, arith, set}
use Rattle.laws.specs.Overlay.{overlay}
use Rattle.points_reader.specs.Laid.{laid}

-- one more behind the last
pub laid_more : {A : Type 0} (l s : List A) (v : A) → set (laid l s) (length l) v ≡ laid (l ++ v ∷ []) s
laid_more [] [] v = refl
laid_more [] (y ∷ s) v = refl
laid_more (x ∷ l) [] v = refl
laid_more (x ∷ l) (y ∷ s) v = ap (λ t. x ∷ t) (laid_more l s v)

-- where there is room
pub laid_whole : {A : Type 0} (l s : List A) → length l ≤ length s → laid l s ≡ overlay l s
unfolding overlay
laid_whole [] s h = refl
laid_whole (x ∷ l) [] h = absurd (omega arith)
laid_whole (x ∷ l) (y ∷ s) h = ap (λ t. x ∷ t) (laid_whole l s (le_of_suc-le-suc h))
