-- First places kept in a lent list of any length.
use Rattle.std.specs.Prelude.{ℕ, ◌<◌, ◌≡◌, List, length, get_or}
use Rattle.order.specs.Order.{first_place}

-- the list has at i the first place of i, for each i that it has a place for
pub record FirstPlaces (places order : List ℕ) : Type 0 where
  pub at : (i : ℕ) → i < length places → get_or places i 0 ≡ first_place order i
