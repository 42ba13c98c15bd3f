-- The pool: items filed under cells, in one lent list of n numbers. The first number says how many places are in use, the second how many items are filed;
-- then come n/4 heads, then the places, pairs of an owner and a link. A cell's chain goes from its head along the links. Items are filed one after the
-- other, until one finds no place: those that come after it aren't filed. Definitions only.
use Rattle.std.specs.Prelude.{Bool, true, false, cond, ◌&&◌, ◌||◌, List, [], ◌∷◌, ◌++◌, ◌⊎◌, ◌≡◌, ℕ, zero, suc, ◌+◌, ◌-◌, ◌*◌, ◌/◌, ◌%◌, ◌<◌, ◌≤◌, min, eqb, leb, length, get_or, set}
use Rattle.laws.specs.Loop.{for_up, sum_up}
use Rattle.index_pools.specs.declared.Rect.{Rect}

-- ---- the layout, which the length n decides

-- no place
abbrev pub none : ℕ
none = 4294967295

unfoldable pub cells : ℕ → ℕ
cells n = n / 4

-- how many places there are
unfoldable pub capacity : ℕ → ℕ
capacity n = min ((n - 2 - cells n) / 2) 4294967294

abbrev pub own_place : ℕ → ℕ → ℕ
own_place n t = 2 + cells n + 2 * t

abbrev pub link_place : ℕ → ℕ → ℕ
link_place n t = 2 + cells n + 2 * t + 1

-- ---- reading

abbrev pub used : List ℕ → ℕ
used pool = get_or pool 0 0

-- how many items are filed; none in a list that is too short for a cell
unfoldable pub filed : List ℕ → ℕ
filed pool = cond (leb 4 (length pool)) (get_or pool 1 0) 0

abbrev pub head_at : List ℕ → ℕ → ℕ
head_at pool c = get_or pool (2 + c) 0

abbrev pub own_at : ℕ → List ℕ → ℕ → ℕ
own_at n pool t = get_or pool (own_place n t) 0

abbrev pub link_at : ℕ → List ℕ → ℕ → ℕ
link_at n pool t = get_or pool (link_place n t) 0

-- ---- chains

-- the owners from place t on, along links that fall, at places below k
unfoldable pub falling : (ℕ → ℕ) → (ℕ → ℕ) → ℕ → ℕ → List ℕ
falling own link zero t = []
falling own link (suc k) t = cond (eqb t k) (own k ∷ falling own link k (link k)) (falling own link k t)

-- the chain from place t on; none where t is no place
unfoldable pub chain : ℕ → List ℕ → ℕ → List ℕ
chain n pool t = falling (own_at n pool) (link_at n pool) (capacity n) t

-- the test holds for an entry of the list
unfoldable pub any_of : (ℕ → Bool) → List ℕ → Bool
any_of test [] = false
any_of test (x ∷ l) = test x || any_of test l

-- ---- cells

-- how far apart rows of cells lie
abbrev pub stride : ℕ
stride = 2654435761

-- the cell of the shifted key (i, j), of m cells
unfoldable pub cell_of : ℕ → ℕ → ℕ → ℕ
cell_of m i j = (i + j * stride) % m

-- the chain under the shifted key (i, j)
unfoldable pub chain_at : ℕ → List ℕ → ℕ → ℕ → List ℕ
chain_at n pool i j = chain n pool (head_at pool (cell_of (cells n) i j))

-- the shifted key (i, j) lies in the rectangle
pub record InRect (r : Rect) (i j : ℕ) : Type 0 where
  pub left : r.left ≤ i
  pub right : i ≤ r.right
  pub low : r.low ≤ j
  pub high : j ≤ r.high

-- ---- filing

-- the numbers from a to b
abbrev pub span : ℕ → ℕ → ℕ
span a b = suc b - a

-- the head of cell c emptied
abbrev pub clear_cell : ℕ → List ℕ → List ℕ
clear_cell c pool = set pool (2 + c) none

-- a pool with no item
unfoldable pub cleared_pool : List ℕ → List ℕ
cleared_pool pool = cond (leb 4 (length pool)) (for_up (cells (length pool)) clear_cell (set (set pool 0 0) 1 0)) pool

-- the next place, u, has the owner, and is the head of cell c
abbrev pub item_placed : ℕ → ℕ → ℕ → List ℕ → List ℕ
item_placed u c own pool =
    set (set (set (set pool (own_place (length pool) u) own) (link_place (length pool) u) (head_at pool c)) (2 + c) u) 0 (u + 1)

-- `own` at the head of the chain of cell c
unfoldable pub push : ℕ → ℕ → List ℕ → List ℕ
push c own pool = item_placed (used pool) c own pool

-- `own` under the k-th column of row j, from `left` on, of m cells
abbrev pub file_column : ℕ → ℕ → ℕ → ℕ → ℕ → List ℕ → List ℕ
file_column m left j own k pool = push (cell_of m (left + k) j) own pool

-- `own` under the columns `left` to `right` of row j
unfoldable pub file_row : ℕ → ℕ → ℕ → ℕ → List ℕ → List ℕ
file_row left right j own pool = for_up (span left right) (file_column (cells (length pool)) left j own) pool

-- `own` under the k-th row of the rectangle
abbrev pub file_line : Rect → ℕ → ℕ → List ℕ → List ℕ
file_line r own k pool = file_row r.left r.right (r.low + k) own pool

-- how many keys the rectangle has
abbrev pub key_count : Rect → ℕ
key_count r = span r.left r.right * span r.low r.high

-- `own` is the next item, and there are places for the keys of its rectangle
unfoldable pub takes : Rect → ℕ → List ℕ → Bool
takes r own pool = leb 4 (length pool) && (eqb (filed pool) own && leb (used pool + key_count r) (capacity (length pool)))

-- `own` in the chain of every cell of the rectangle, where the pool takes it
unfoldable pub file : Rect → ℕ → List ℕ → List ℕ
file r own pool = cond (takes r own pool) (set (for_up (span r.low r.high) (file_line r own) pool) 1 (own + 1)) pool

-- ---- what is filed

-- Every place in use has an owner below the count; heads are places in use, or none; and where S says that x is under cell c, it is in that chain.
pub record Holds (n : ℕ) (pool : List ℕ) (count : ℕ) (S : ℕ → ℕ → Type 0) : Type 0 where
  pub fits : used pool ≤ capacity n
  pub heads : (c : ℕ) → c < cells n → (head_at pool c < used pool) ⊎ (capacity n ≤ head_at pool c)
  pub owners : (t : ℕ) → t < used pool → own_at n pool t < count
  pub has : (c x : ℕ) → c < cells n → S c x → any_of (eqb x) (chain n pool (head_at pool c)) ≡ true

-- one of the first `count` items, x, has a key in cell c, of m
pub record Under (m : ℕ) (rects : ℕ → Rect) (count c x : ℕ) : Type 0 where
  pub i : ℕ
  pub j : ℕ
  pub counted : x < count
  pub within : InRect (rects x) i j
  pub cell : c ≡ cell_of m i j

-- how many keys the first `count` items have
abbrev pub key_sum : (ℕ → Rect) → ℕ → ℕ
key_sum rects count = sum_up count (λ id. key_count (rects id))

-- each of the first `count` items is in the chain of every cell of its rectangle, and the places in use are theirs.
-- (An item that isn't to be filed has an empty rectangle.)
pub record Filed (pool : List ℕ) (rects : ℕ → Rect) (count : ℕ) : Type 0 where
  pub exact : used pool ≡ key_sum rects count
  pub holds : Holds (length pool) pool count (Under (cells (length pool)) rects count)

-- The first items are filed, and they are all `count` of them, unless the next one finds no place, is beyond the 32 bits of a pool's numbers, or the pool
-- has no cell.
pub record Indexed (pool : List ℕ) (rects : ℕ → Rect) (count : ℕ) : Type 0 where
  pub within : filed pool ≤ count
  pub first : 4 ≤ length pool → Filed pool rects (filed pool)
  pub full : 4 ≤ length pool → filed pool < min count 4294967295 → capacity (length pool) < key_sum rects (filed pool + 1)
