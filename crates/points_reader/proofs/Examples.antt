-- Each rule of the format on the smallest text that shows it. The check computes them: of each text the points' coordinates, the points' lines, the loops' lengths and their marks,
-- or the fault: its kind, line and column.
use Rattle.std.specs.Prelude.{List, [], ◌∷◌, ◌++◌, ◌≡◌, refl, ℕ, Float, codes, true, false}
use Rattle.std.specs.Int.Count.{count_trailing_zeros}
use Rattle.std.specs.Float.Ieee.{span, climb, size, odd, units, round, neg, sum, eq, le, lt, of_int, of_fields, of_bits, is_nan}
use Rattle.std.specs.Float.Numeral.{scan_numeral}
use Rattle.std.specs.Float.Parse.{read_float}
use Rattle.laws.specs.Loop.{for_up, any_up}
use Rattle.numbers.specs.Float.{bits, one_f, two_f}
use Rattle.points_text.specs.Words.{no_cells, cell_ended, letter_read, cell_turn, cells, is_tabbed, values}
use Rattle.points_text.specs.Numbers.{has_decimal_comma, plain_byte, plain_turn, plain_word, number}
use Rattle.points_text.specs.Lines.{coordinate, pair, point_of, is_title, is_heading, row_told, told_of}
use Rattle.points_reader.specs.declared.reading.Fault.{Fault}
use Rattle.points_reader.specs.Reading.{fault, new_reader, is_first, faulted, repeats, loop_ended, loop_given, remarked, point_taken, point_given, comment_taken, told_read, told_given, line_read, line_given}
use Rattle.points_reader.specs.Walking.{Output, commented, tabs_turn, has_tabs, has_semicolons, separator_of, out_more, new_walk, line_walked, walk_turn, walk_ended, walked}
use Rattle.points_reader.specs.Answers.{text_walked}

unfoldable opened_floats : Unit {0}
unfolding count_trailing_zeros span climb size odd units round neg sum eq le lt of_int of_fields of_bits is_nan scan_numeral read_float
opened_floats = tt

unfoldable opened : Unit {0}
unfolding opened_floats for_up any_up no_cells cell_ended cell_turn cells values has_decimal_comma plain_byte plain_turn plain_word number coordinate pair point_of is_title
    is_heading row_told told_of new_reader is_first faulted repeats loop_ended loop_given remarked point_taken point_given comment_taken told_read told_given line_read line_given
    commented tabs_turn has_tabs has_semicolons separator_of is_tabbed letter_read out_more new_walk line_walked walk_turn walk_ended walked
opened = tt

-- what is read of a text
abbrev read : List ℕ → Output
read text = (text_walked text 0).out

-- its first fault
abbrev fault_of : List ℕ → Fault
fault_of text = (text_walked text 0).reader.fault

output : List Float → List ℕ → List ℕ → List ℕ → Output
output points lines lengths marks = record { points = points; lines = lines; lengths = lengths; marks = marks }

-- a line feed
abbrev fed : List ℕ
fed = 10 ∷ []

-- x and y with a comma between
commas : (read (codes "1,2")).points ≡ one_f ∷ two_f ∷ []
unfolding opened
commas = refl

-- with a semicolon between, decimals may have commas
decimal_commas : (read (codes "1,5;2")).points ≡ bits 0x3ff8_0000_0000_0000 ∷ two_f ∷ []
unfolding opened
decimal_commas = refl

-- and so with a tab
decimal_commas_and_tabs : (read (codes "1,5" ++ (9 ∷ []) ++ codes "2")).points ≡ bits 0x3ff8_0000_0000_0000 ∷ two_f ∷ []
unfolding opened
decimal_commas_and_tabs = refl

-- with commas they are values: the first fault, at line 1 and column 1
three_values : fault_of (codes "1,5,2") ≡ fault 1 1 1 true
unfolding opened
three_values = refl

-- the first row may be a heading
heading : (read (codes "x,y" ++ fed ++ codes "1,2")).lines ≡ 2 ∷ []
unfolding opened
heading = refl

-- but no other: x is no number
one_heading : fault_of (codes "x,y" ++ fed ++ codes "x,y") ≡ fault 4 2 1 false
unfolding opened
one_heading = refl

-- a blank line ends a loop
blank_line : (read (codes "1,2" ++ fed ++ fed ++ codes "2,1")).lengths ≡ 1 ∷ 1 ∷ []
unfolding opened
blank_line = refl

-- the comment right before a loop names it: its places are those behind #
comment : (read (codes "#a" ++ fed ++ codes "1,2")).marks ≡ 1 ∷ 2 ∷ 0 ∷ []
unfolding opened
comment = refl

-- of several the first does
first_comment : (read (codes "#a" ++ fed ++ codes "#b" ++ fed ++ codes "1,2")).marks ≡ 1 ∷ 2 ∷ 0 ∷ []
unfolding opened
first_comment = refl

-- one that stands alone between two points is a fault, the sixth, at its line
comment_between : fault_of (codes "1,2" ++ fed ++ codes " #a" ++ fed ++ codes "2,1") ≡ fault 6 2 2 false
unfolding opened
comment_between = refl

-- one behind a point isn't alone
comment_behind : (read (codes "1,2#a" ++ fed ++ codes "2,1")).lengths ≡ 2 ∷ []
unfolding opened
comment_behind = refl

-- a last point that repeats the first is left out, which its line says
closed : (read (codes "1,2" ++ fed ++ codes "2,1" ++ fed ++ codes "1,2")).marks ≡ 0 ∷ 0 ∷ 3 ∷ []
unfolding opened
closed = refl

-- so two points are read
closed_lines : (read (codes "1,2" ++ fed ++ codes "2,1" ++ fed ++ codes "1,2")).lines ≡ 1 ∷ 2 ∷ []
unfolding opened
closed_lines = refl

-- empty columns behind y don't count
empty_columns : (read (codes "1,2,,")).points ≡ one_f ∷ two_f ∷ []
unfolding opened
empty_columns = refl

-- the third fault, where the word would begin
no_y : fault_of (codes "1,") ≡ fault 3 1 3 true
unfolding opened
no_y = refl

-- the fourth
bad_x : fault_of (codes "1,2" ++ fed ++ codes " O,2") ≡ fault 4 2 2 false
unfolding opened
bad_x = refl

-- a byte order mark is no part of the text
byte_order_mark : (read ((239 ∷ 187 ∷ 191 ∷ []) ++ codes "1,2")).points ≡ one_f ∷ two_f ∷ []
unfolding opened
byte_order_mark = refl

-- a carriage return and a line feed end one line
crlf : (read (codes "1,2" ++ (13 ∷ 10 ∷ []) ++ codes "2,1")).lines ≡ 1 ∷ 2 ∷ []
unfolding opened
crlf = refl

-- and so does a carriage return alone
cr : (read (codes "1,2" ++ (13 ∷ []) ++ codes "2,1")).lines ≡ 1 ∷ 2 ∷ []
unfolding opened
cr = refl

-- spaces, tabs and quotes may stand about a word
blanks : (read ((9 ∷ []) ++ (34 ∷ []) ++ codes "1" ++ (34 ∷ []) ++ codes " , 2")).points ≡ one_f ∷ two_f ∷ []
unfolding opened
blanks = refl

-- a minus sign of three bytes, U+2212
minus_sign : (read ((226 ∷ 136 ∷ 146 ∷ []) ++ codes "1,2")).points ≡ bits 0xbff0_0000_0000_0000 ∷ two_f ∷ []
unfolding opened
minus_sign = refl

-- a number is the double nearest to its decimal, to the seventeenth digit
nearest : (read (codes "0.1,0.10000000000000002")).points ≡ bits 0x3fb9_9999_9999_999a ∷ bits 0x3fb9_9999_9999_999b ∷ []
unfolding opened
nearest = refl

-- a text without points
empty : (read []).lengths ≡ []
unfolding opened
empty = refl
