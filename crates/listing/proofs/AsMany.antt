-- Taking or dropping as many as there are, of lists of ids.
use Rattle.std.specs.Prelude.{◌≡◌, ℕ, min, List, length, take, drop}
use Rattle.std.proofs.lemmas.List as lists

pub take_min : (n : ℕ) (l : List ℕ) → take (min n (length l)) l ≡ take n l
take_min n l = lists.take_min n l

pub drop_min : (n : ℕ) (l : List ℕ) → drop (min n (length l)) l ≡ drop n l
drop_min n l = lists.drop_min n l
