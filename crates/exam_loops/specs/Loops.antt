-- The loops of a mesh as it is lent, and what reading one answers. Definitions only.
use Rattle.std.specs.Prelude.{Bool, not, ◌&&◌, ◌||◌, cond, List, [], ◌∷◌, ℕ, zero, suc, eqb, ltb, length, Result, Ok, Err}
use Rattle.laws.specs.Loop.{any_up}
use Rattle.topology.specs.Links.{off, link_of}
use Rattle.topology.specs.Listing.{walks}
use Rattle.laws.specs.Overlay.{overlay}

-- ---- links, of n nodes

-- v, to which u is linked, is off or a node that is linked back to u
unfoldable pub links_back : ℕ → List ℕ → ℕ → ℕ → Bool
links_back n back u v = eqb v off || (ltb v n && eqb (link_of n back v) u)

-- so are both links of u
unfoldable pub are_paired : ℕ → List ℕ → List ℕ → ℕ → Bool
are_paired n next prev u = links_back n prev u (link_of n next u) && links_back n next u (link_of n prev u)

-- no link is out of range, and next and prev are inverse to each other
unfoldable pub links_sound : ℕ → List ℕ → List ℕ → Bool
links_sound n next prev = not (any_up n (λ u. not (are_paired n next prev u)))

-- ---- loops

-- the loops of three nodes or more, each from its smallest id, in rising order of these; none where the links aren't sound
unfoldable pub linked_loops : ℕ → List ℕ → List ℕ → List (List ℕ)
linked_loops n next prev = cond (links_sound n next prev) (walks 3 n n (link_of n next)) []

-- loop k of a list; past the last one the empty loop
unfoldable pub loop_numbered : List (List ℕ) → ℕ → List ℕ
loop_numbered [] k = []
loop_numbered (l ∷ ls) zero = l
loop_numbered (l ∷ ls) (suc k) = loop_numbered ls k

-- ---- a reading

-- how many ids the loop has, or the refusal, and the reply list as it is left
pub record LoopReading : Type 0 where
  pub read : Result ℕ ℕ
  pub list : List ℕ

abbrev pub loop_reading : Result ℕ ℕ → List ℕ → LoopReading
loop_reading r list = record { read = r; list = list }

-- how many ids the loop has, unless it is refused with a number other than 0
abbrev pub loop_read : ℕ → ℕ → Result ℕ ℕ
loop_read zero length = Ok length
loop_read (suc n) length = Err (suc n)

-- l on the first places of the list; 14 where there are too few, and the list as it was
unfoldable pub read_into : List ℕ → List ℕ → LoopReading
read_into l list = cond (ltb (length list) (length l)) (loop_reading (Err 14) list) (loop_reading (Ok (length l)) (overlay l list))

-- loop k is read
unfoldable pub read_loop : ℕ → List ℕ → List ℕ → ℕ → List ℕ → LoopReading
read_loop n next prev k list = read_into (loop_numbered (linked_loops n next prev) k) list
