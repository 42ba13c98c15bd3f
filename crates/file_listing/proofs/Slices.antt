-- A part of a list of doubles is one.
use Rattle.std.specs.Prelude.{ℕ, zero, suc, T, List, [], ◌∷◌, Float, get_or, take, drop}
use Rattle.std.specs.Float.{nan, binary64}
use Rattle.std.specs.Float.Ieee.{fits}

abbrev AllDoubles : List Float → Type 0
AllDoubles l = (i : ℕ) → T (fits binary64 (get_or l i nan))

pub take_doubles : (n : ℕ) (l : List Float) → AllDoubles l → AllDoubles (take n l)
unfolding fits
take_doubles zero l h i = tt
take_doubles (suc n) [] h i = tt
take_doubles (suc n) (x ∷ l) h zero = h zero
take_doubles (suc n) (x ∷ l) h (suc i) = take_doubles n l (λ j. h (suc j)) i

pub drop_doubles : (n : ℕ) (l : List Float) → AllDoubles l → AllDoubles (drop n l)
unfolding fits
drop_doubles zero l h i = h i
drop_doubles (suc n) [] h i = tt
drop_doubles (suc n) (x ∷ l) h i = drop_doubles n l (λ j. h (suc j)) i
