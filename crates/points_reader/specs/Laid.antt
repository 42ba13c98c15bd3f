-- What is written one by one on a list that may be too short: its first places, as far as they reach.
use Rattle.std.specs.Prelude.{List, [], ◌∷◌}

abbrev pub laid : {A : Type 0} → List A → List A → List A
laid [] s = s
laid (x ∷ l) [] = []
laid (x ∷ l) (y ∷ s) = x ∷ laid l s
