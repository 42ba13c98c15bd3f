-- What a line tells. Definitions only.
use Rattle.std.specs.Prelude.{ℕ, ◌+◌, Bool, not, ◌&&◌, ◌||◌, cond, List, length, ◌==◌, leb, get_or, take, slice_range, Option, Some, None, is_some, Result, Ok, Err, Float}
use Rattle.std.specs.List.{position_or_len}
use Rattle.points_text.specs.declared.Span.{Span}
use Rattle.points_text.specs.declared.Cells.{Cells}
use Rattle.points_text.specs.declared.Place.{Place}
use Rattle.points_text.specs.declared.Wrong.{Wrong}
use Rattle.points_text.specs.declared.Told.{Told}
use Rattle.points_text.specs.declared.Told.TheVariants as told
use Rattle.points_text.specs.Words.{is_empty, cells, values}
use Rattle.points_text.specs.Numbers.{number}

-- `#` begins a comment
abbrev pub is_hash : ℕ → Bool
is_hash b = b == 35

-- where a line's comment begins: at its length where it has none
abbrev pub comment_at : List ℕ → ℕ
comment_at line = position_or_len is_hash line

-- what stands before the comment
abbrev pub row_of : List ℕ → List ℕ
row_of line = take (comment_at line) line

abbrev pub word_of : List ℕ → Span → List ℕ
word_of row w = slice_range row w.begin w.end

-- ---- faults of a row, by number: 1 not two values, 2 x is missing, 3 y is missing, 4 x is no number, 5 y is no number; `at` is where in the line

abbrev pub wrong : ℕ → ℕ → Wrong
wrong kind at = record { kind = kind; at = at }

-- a coordinate, or what is wrong with it: `missing` where there is no word
unfoldable pub coordinate : ℕ → Span → Option Float → Result Float Wrong
coordinate missing w (Some x) = Ok x
coordinate missing w None = Err (wrong (cond (is_empty w) missing (missing + 2)) w.begin)

abbrev pub place : Float → Float → Place
place x y = record { x = x; y = y }

unfoldable pub pair : Result Float Wrong → Result Float Wrong → Result Place Wrong
pair (Ok x) (Ok y) = Ok (place x y)
pair (Ok x) (Err e) = Err e
pair (Err e) r = Err e

-- the point of a row
unfoldable pub point_of : ℕ → List ℕ → Cells → Result Place Wrong
point_of separator row c =
    cond (values c == 2)
    (pair (coordinate 2 c.x (number separator (word_of row c.x))) (coordinate 3 c.y (number separator (word_of row c.y))))
    (Err (wrong 1 c.x.begin))

-- ---- a heading

-- a letter of ASCII, or a byte of any other character
abbrev pub is_letter : ℕ → Bool
is_letter b = ((leb 65 b && leb b 90) || (leb 97 b && leb b 122)) || leb 128 b

-- a word that begins with a letter and is no number
unfoldable pub is_title : ℕ → List ℕ → Bool
is_title separator word = is_letter (get_or word 0 0) && not (is_some (number separator word))

-- two such words
unfoldable pub is_heading : ℕ → List ℕ → Cells → Bool
is_heading separator row c = values c == 2 && (is_title separator (word_of row c.x) && is_title separator (word_of row c.y))

-- ---- a line

unfoldable pub row_told : Result Place Wrong → Told
row_told (Ok p) = told.Point p
row_told (Err e) = told.Wrong e

-- what the line tells; `first` says that no row has been read, so that it may be a heading
unfoldable pub told_of : ℕ → Bool → List ℕ → Told
told_of separator first line =
    let row = row_of line in
    let c = cells separator row in
    cond (c.used == 0) (cond (comment_at line == length line) told.Blank (told.Comment (comment_at line)))
    (cond (first && is_heading separator row c) told.Heading (row_told (point_of separator row c)))
