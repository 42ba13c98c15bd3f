-- Stretches of nodes off the front. A node has three places in the list of tries; where the first of them says that it has no try, the second may hold
-- the end of a stretch that begins at the node. Definitions only.
use Rattle.std.specs.Prelude.{Bool, cond, ◌&&◌, List, ◌≡◌, ◌≢◌, ℕ, ◌+◌, ◌*◌, ◌/◌, ◌≤◌, ◌<◌, min, max, ltb, eqb, length, get_or, set}
use Rattle.laws.specs.Loop.{for_up}
use Rattle.topology.specs.Links.{off}

-- node a has its places
abbrev pub has_places : List ℕ → ℕ → Bool
has_places l a = ltb a (length l / 3)

-- node a has no try, and the nodes from a up to `end`, without it, are a stretch, where a has its places
unfoldable pub stretched : List ℕ → ℕ → ℕ → List ℕ
stretched l a end = cond (has_places l a) (set (set l (3 * a) off) (3 * a + 1) end) l

-- the node with which to go on after a: the next of the n, or the end of the stretch that begins at a
unfoldable pub node_after : List ℕ → ℕ → ℕ → ℕ
node_after l a n = cond (has_places l a && eqb (get_or l (3 * a) 0) off) (max (a + 1) (min (get_or l (3 * a + 1) 0) n)) (a + 1)

-- in the copying of links: the next node, the first of the stretch that ends before it, and the list
pub record Joining : Type 0 where
  pub from : ℕ
  pub at : ℕ
  pub tried : List ℕ

abbrev pub joining : ℕ → ℕ → List ℕ → Joining
joining from at l = record { from = from; at = at; tried = l }

-- a node off the front, and the stretch that begins at it, make the stretch before it longer; after a node on it another begins
abbrev pub join_node : List ℕ → ℕ → Joining → Joining
join_node next n s =
    cond (eqb (get_or next s.at 0) off)
    (joining s.from (node_after s.tried s.at n) (stretched s.tried s.from (node_after s.tried s.at n)))
    (joining (s.at + 1) (s.at + 1) s.tried)

abbrev pub joining_turn : List ℕ → ℕ → ℕ → Joining → Joining
joining_turn next n k s = cond (ltb s.at n) (join_node next n s) s

-- the list with the stretches of n nodes joined: n turns are enough, since each goes on by a node or more
unfoldable pub stretches_joined : List ℕ → ℕ → List ℕ → List ℕ
stretches_joined next n l = (for_up n (joining_turn next n) (joining 0 0 l)).tried

-- node i, one of n, is off the front, and so it was when the pass began
abbrev pub OffBoth : ℕ → List ℕ → List ℕ → ℕ → Type 0
OffBoth n next snapshot i = (i < n) × (get_or next i 0 ≡ off) × (get_or snapshot i 0 ≡ off)

-- every node in a stretch that begins at one of the n nodes is so
abbrev pub Stretches : List ℕ → ℕ → List ℕ → List ℕ → Type 0
Stretches l n next snapshot =
    (a : ℕ) → a < length l / 3 → a < n → get_or l (3 * a) 0 ≡ off → (i : ℕ) → a ≤ i → i < get_or l (3 * a + 1) 0 → OffBoth n next snapshot i

-- the places of node a are the same in both
abbrev pub SamePlaces : List ℕ → List ℕ → ℕ → Type 0
SamePlaces l m a = (get_or m (3 * a) 0 ≡ get_or l (3 * a) 0) × ((get_or m (3 * a + 1) 0 ≡ get_or l (3 * a + 1) 0) × (get_or m (3 * a + 2) 0 ≡ get_or l (3 * a + 2) 0))

-- whatever try m has, l has
pub record FewerTries (l m : List ℕ) : Type 0 where
  pub long : length m ≡ length l
  pub kept : (a : ℕ) → a < length l / 3 → get_or m (3 * a) 0 ≢ off → SamePlaces l m a
