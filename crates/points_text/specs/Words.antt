-- The words of a row. Bytes are naturals below 256, places count from 0, and a word is a span of places. Definitions only.
use Rattle.std.specs.Prelude.{ℕ, ◌+◌, Bool, false, not, ◌&&◌, ◌||◌, cond, List, length, ◌==◌, leb, get_or}
use Rattle.laws.specs.Loop.{for_up}
use Rattle.points_text.specs.declared.Span.{Span}
use Rattle.points_text.specs.declared.Cells.{Cells}

-- what may stand about a word: a space, a tab or a double quote
abbrev pub is_blank : ℕ → Bool
is_blank b = (b == 32 || b == 9) || b == 34

abbrev pub span : ℕ → ℕ → Span
span a b = record { begin = a; end = b }

-- no byte of the word
abbrev pub is_empty : Span → Bool
is_empty w = w.begin == w.end

-- before the first byte of a row: the cell that is read, how many have ended, how many of these up to the last that has a word, and the first two;
-- whether one has a word, whether more have, whether a word begins or ends with a comma, and whether that which is read ends with one so far
unfoldable pub no_cells : Cells
no_cells = record { word = span 0 0; count = 0; used = 0; x = span 0 0; y = span 0 0; some = false; more = false; edge = false; comma = false }

-- the cell that is read ends
unfoldable pub cell_ended : Cells → Cells
cell_ended c = record {
  word = c.word;
  count = c.count + 1;
  used = cond (is_empty c.word) c.used (c.count + 1);
  x = cond (c.count == 0) c.word c.x;
  y = cond (c.count == 1) c.word c.y;
  some = c.some || not (is_empty c.word);
  more = c.more || (c.some && not (is_empty c.word));
  edge = c.edge || c.comma;
  comma = false;
}

-- a letter b, at place i: a word reaches from its first to its last
unfoldable pub letter_read : ℕ → ℕ → Cells → Cells
letter_read b i c = record c {
  word = span (cond (is_empty c.word) i c.word.begin) (i + 1);
  edge = c.edge || (is_empty c.word && b == 44);
  comma = b == 44;
}

-- byte b, at place i: a separator ends the cell, and a blank is no letter
unfoldable pub cell_turn : ℕ → ℕ → ℕ → Cells → Cells
cell_turn separator b i c =
    cond (b == separator) (record (cell_ended c) { word = span (i + 1) (i + 1) })
    (cond (is_blank b) c (letter_read b i c))

abbrev pub row_turn : ℕ → List ℕ → ℕ → Cells → Cells
row_turn separator row i c = cell_turn separator (get_or row i 0) i c

-- the cells of a row
unfoldable pub cells : ℕ → List ℕ → Cells
cells separator row = cell_ended (for_up (length row) (row_turn separator row) no_cells)

-- words with a tab between, and no comma beside it
unfoldable pub is_tabbed : List ℕ → Bool
is_tabbed row = let c = cells 9 row in c.more && not c.edge

-- how many values a row has: empty cells behind the second and behind the last word are columns that a table has and a point hasn't
unfoldable pub values : Cells → ℕ
values c = cond (leb c.count 2) c.count (cond (leb c.used 2) 2 c.used)
