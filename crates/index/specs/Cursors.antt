-- What a cursor has still to visit of a walk, its place and the next. Definitions only.
use Rattle.std.specs.Prelude.{Bool, false, cond, List, [], ◌∷◌, ◌++◌, ◌≡◌, ℕ, ◌+◌, ◌-◌, ◌<◌, ◌≤◌, eqb, length, Option, Some, None}
use Rattle.index_pools.specs.Pool.{none, cells, capacity, own_at, chain, cell_of}
use Rattle.index_pools.specs.declared.Rect.{Rect}
use Rattle.index.specs.declared.cursors.Cursor.{Cursor}
use Rattle.index.specs.Walk.{columns, rows}

-- the cursor is at no place
unfoldable pub over : Cursor → Bool
over c = eqb c.t none

-- the cursor that an answer gives: of none, one at no place
abbrev pub cursor_of : Option Cursor → Cursor
cursor_of None = record { i = 0; j = 0; cell = 0; t = none }
cursor_of (Some c) = c

-- what is left of its row, from its place on
unfoldable pub row_ahead : List ℕ → ℕ → Cursor → List ℕ
row_ahead pool right c = cond (over c) [] (chain (length pool) pool c.t ++ columns pool c.j (right - c.i) (c.i + 1))

-- what is left of the walk
unfoldable pub ahead : List ℕ → Rect → Cursor → List ℕ
ahead pool r c = cond (over c) [] (row_ahead pool r.right c ++ rows pool r (r.high - c.j) (c.j + 1))

-- the cursor is at a place of the pool, in the chain of its cell
pub record At (pool : List ℕ) (c : Cursor) : Type 0 where
  pub some : 4 ≤ length pool
  pub cell : c.cell ≡ cell_of (cells (length pool)) c.i c.j
  pub place : c.t < capacity (length pool)

-- the cursor stands in row j, and from it on `rest` is left of the row
pub record InRow (pool : List ℕ) (right j : ℕ) (rest : List ℕ) (c : Cursor) : Type 0 where
  pub at : over c ≡ false → At pool c
  pub row : over c ≡ false → c.j ≡ j
  pub all : row_ahead pool right c ≡ rest

-- from the cursor on `rest` is left of the walk
pub record Stands (pool : List ℕ) (r : Rect) (rest : List ℕ) (c : Cursor) : Type 0 where
  pub at : over c ≡ false → At pool c
  pub all : ahead pool r c ≡ rest

-- d is the cursor after c: its owner has been visited, and the rest is left
pub record NextCursor (pool : List ℕ) (r : Rect) (c d : Cursor) : Type 0 where
  pub at : over d ≡ false → At pool d
  pub rest : ahead pool r c ≡ own_at (length pool) pool c.t ∷ ahead pool r d
