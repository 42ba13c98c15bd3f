-- A walk along the chains of a rectangle's cells, row by row. Definitions only.
use Rattle.std.specs.Prelude.{Bool, true, List, [], ◌++◌, ◌≡◌, ℕ, zero, suc, ◌+◌, ◌<◌, length}
use Rattle.index_pools.specs.Pool.{chain_at, span}
use Rattle.index_pools.specs.declared.Rect.{Rect}
use Rattle.index_key_rects.specs.Rects.{Meets}

-- f i, f (i + 1), .., w of them, joined
unfoldable pub across : (ℕ → List ℕ) → ℕ → ℕ → List ℕ
across f zero i = []
across f (suc w) i = f i ++ across f w (i + 1)

-- the owners under w keys of row j, from column i on
abbrev pub columns : List ℕ → ℕ → ℕ → ℕ → List ℕ
columns pool j w i = across (λ i. chain_at (length pool) pool i j) w i

-- the owners under the keys of h rows of the rectangle, from row j on
abbrev pub rows : List ℕ → Rect → ℕ → ℕ → List ℕ
rows pool r h j = across (λ j. columns pool j (span r.left r.right) r.left) h j

-- the owners under all keys of the rectangle
unfoldable pub visited : List ℕ → Rect → List ℕ
visited pool r = rows pool r (span r.low r.high) r.low

-- a call of a test on a number below `count` answers what `tests` says of it
abbrev pub Decides : (ℕ → Bool → Type 0) → ℕ → (ℕ → Bool) → Type 0
Decides post count tests = (id : ℕ) (b : Bool) → id < count → post id b → b ≡ tests id

-- what passes the test has a rectangle that meets r
abbrev pub AreMet : (ℕ → Bool) → (ℕ → Rect) → Rect → Type 0
AreMet tests rects r = (id : ℕ) → tests id ≡ true → Meets (rects id) r
