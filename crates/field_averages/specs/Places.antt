-- Where the nodes of a grid lie in the lent lists: what the functions over them ask. Assumes nothing.
use Rattle.std.specs.Prelude.{List, ◌≡◌, true, ℕ, ◌+◌, ◌*◌, ◌≤◌, ◌<◌, ltb, length, Float}
use Rattle.std.proofs.Common.{ap, mul-le-mul_right, arith, ltb-true}
use Rattle.field_direction.specs.declared.Grid.{Grid}
use Rattle.field_direction.specs.Record.{most_field_nodes}
use Rattle.field_direction.specs.Cells.{row_in, row_over}
use Rattle.field_averages.specs.declared.GridNode.{GridNode}
use Rattle.field_averages.specs.declared.GridRow.{GridRow}

-- n rows of w nodes: room for two floats and a mark each
pub record FieldRoom (w n floats bytes : ℕ) : Type 0 where
  pub values : 2 * (n * w) ≤ floats
  pub marks : n * w ≤ bytes

-- node (i, j) of a grid of n rows of w, whose number is id, in a list of so many floats
pub record Node (w n j i id floats : ℕ) : Type 0 where
  pub at : id ≡ j * w + i
  pub column : i < w
  pub row : j < n
  pub room : 2 * (n * w) ≤ floats

-- row j, whose first node's number is base
pub record Row (w n j base floats : ℕ) : Type 0 where
  pub at : base ≡ j * w
  pub row : j < n
  pub room : 2 * (n * w) ≤ floats

-- a node of a grid, and a row, in a list of two floats a node
abbrev pub NodeIn : Grid → GridNode → List Float → Type 0
NodeIn g node values = Node g.nx g.ny node.j node.i node.id (length values)

abbrev pub RowIn : Grid → GridRow → List Float → Type 0
RowIn g row values = Row g.nx g.ny row.j row.first (length values)

-- a row's node in column i
abbrev pub row_node : GridRow → ℕ → GridNode
row_node row i = record { i = i; j = row.j; id = row.first + i }

-- the row k above it, in rows of nx nodes
abbrev pub row_above : GridRow → ℕ → ℕ → GridRow
row_above row nx k = record { j = row.j + k; first = row.first + k * nx }

-- a mark for node id, and counts that a float holds
pub record NodeMark (w n id bytes : ℕ) : Type 0 where
  pub mark : id < bytes
  pub columns : w ≤ most_field_nodes
  pub rows : n ≤ most_field_nodes

-- marks for the row that begins with node base, and counts that a float holds
pub record RowMarks (w n base bytes : ℕ) : Type 0 where
  pub marks : base + w ≤ bytes
  pub columns : w ≤ most_field_nodes
  pub rows : n ≤ most_field_nodes

-- the row below begins at 0 or later
row_under : (j w : ℕ) → 0 < j → w ≤ j * w
row_under j w h = omega (arith, mul-le-mul_right w h)

module _ {w n j i id floats : ℕ} (h : Node w n j i id floats) where
  pub here_in : 2 * id + 1 < floats
  here_in = omega (arith, h.at, h.column, h.room, row_in j n w h.row)

  pub left_in : ltb 0 i ≡ true → 1 ≤ id
  left_in t = omega (arith, h.at, ltb-true 0 i t)

  pub right_in : ltb (i + 1) w ≡ true → 2 * (id + 1) + 1 < floats
  right_in t = omega (arith, h.at, h.room, ltb-true (i + 1) w t, row_in j n w h.row)

  pub under_in : ltb 0 j ≡ true → w ≤ id
  under_in t = omega (arith, h.at, row_under j w (ltb-true 0 j t))

  pub over_in : ltb (j + 1) n ≡ true → 2 * (id + w) + 1 < floats
  over_in t = omega (arith, h.at, h.column, h.room, row_over j n w (ltb-true (j + 1) n t))

-- the lists keep their lengths while they are written
pub node_of : {w n j base floats now : ℕ} (i : ℕ) → Row w n j base floats → i < w → now ≡ floats → Node w n j i (base + i) now
node_of i h t e = record { at = ap (λ (z : ℕ). z + i) h.at; column = t; row = h.row; room = omega (arith, h.room, e) }

pub row_of : {w n base floats now : ℕ} (j : ℕ) → base ≡ j * w → j < n → 2 * (n * w) ≤ floats → now ≡ floats → Row w n j base now
row_of j a t r e = record { at = a; row = t; room = omega (arith, r, e) }

pub room_of : {w n floats bytes floats' bytes' : ℕ} → FieldRoom w n floats bytes → floats' ≡ floats → bytes' ≡ bytes → FieldRoom w n floats' bytes'
room_of h e f = record { values = omega (arith, h.values, e); marks = omega (arith, h.marks, f) }

pub mark_of : {w n base bytes now : ℕ} (i : ℕ) → RowMarks w n base bytes → i < w → now ≡ bytes → NodeMark w n (base + i) now
mark_of i h t e = record { mark = omega (arith, h.marks, e); columns = h.columns; rows = h.rows }

pub row_marks : {w n base floats bytes now : ℕ} (j : ℕ) → FieldRoom w n floats bytes → w ≤ most_field_nodes → n ≤ most_field_nodes
    → base ≡ j * w → j < n → now ≡ bytes → RowMarks w n base now
row_marks {w} {n} j h columns rows a t e = record { marks = omega (arith, h.marks, e, row_in j n w t); columns = columns; rows = rows }
