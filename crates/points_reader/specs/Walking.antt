-- A text, line by line, and what it gives. Definitions only.
use Rattle.std.specs.Prelude.{ℕ, ◌+◌, ◌-◌, Bool, false, not, ◌&&◌, ◌||◌, cond, List, [], ◌∷◌, ◌++◌, length, ◌==◌, ltb, get_or, drop, slice_range, Option, Some, None, Float}
use Rattle.laws.specs.Loop.{for_up, any_up}
use Rattle.points_text.specs.Words.{is_tabbed}
use Rattle.points_text.specs.Lines.{is_hash, row_of}
use Rattle.points_reader.specs.declared.reading.Spot.{Spot}
use Rattle.points_reader.specs.declared.reading.Ended.{Ended}
use Rattle.points_reader.specs.declared.reading.Given.{Given}
use Rattle.points_reader.specs.declared.reading.Reader.{Reader}
use Rattle.points_reader.specs.Reading.{loop_ended, loop_given, line_read, line_given}

-- ---- lines

-- A line ends at a carriage return or a line feed, 13 and 10.
abbrev pub is_end : ℕ → Bool
is_end b = b == 10 || b == 13

-- a line feed right after a carriage return ends no line of its own
abbrev pub is_second : List ℕ → ℕ → Bool
is_second text i = get_or text i 0 == 10 && (ltb 0 i && get_or text (i - 1) 0 == 13)

-- the text without a byte order mark
abbrev pub is_marked : List ℕ → Bool
is_marked text = get_or text 0 0 == 239 && (get_or text 1 0 == 187 && get_or text 2 0 == 191)

abbrev pub unmarked : List ℕ → List ℕ
unmarked text = cond (is_marked text) (drop 3 text) text

-- ---- the separator: a semicolon where one stands outside a comment, else a tab where a line has words with one between, else a comma

-- a comment goes on behind byte b
abbrev pub in_comment : ℕ → Bool → Bool
in_comment b comment = not (is_end b) && (comment || is_hash b)

abbrev pub comment_turn : List ℕ → ℕ → Bool → Bool
comment_turn text i comment = in_comment (get_or text i 0) comment

-- place i is in a comment
unfoldable pub commented : List ℕ → ℕ → Bool
commented text i = for_up i (comment_turn text) false

abbrev pub separates : List ℕ → ℕ → Bool
separates text i = get_or text i 0 == 59 && not (commented text i)

-- where the line begins that is read, and whether a line so far has words with a tab between, and no comma beside it
pub record Tabs : Type 0 where
  pub from : ℕ
  pub found : Bool

abbrev pub tabs : ℕ → Bool → Tabs
tabs from found = record { from = from; found = found }

-- the line ends at place `to`
abbrev pub tabs_found : List ℕ → ℕ → Tabs → Bool
tabs_found text to t = t.found || is_tabbed (row_of (slice_range text t.from to))

unfoldable pub tabs_turn : List ℕ → ℕ → Tabs → Tabs
tabs_turn text i t = cond (is_end (get_or text i 0)) (tabs (i + 1) (tabs_found text i t)) t

unfoldable pub has_tabs : List ℕ → Bool
has_tabs text = tabs_found text (length text) (for_up (length text) (tabs_turn text) (tabs 0 false))

unfoldable pub has_semicolons : List ℕ → Bool
has_semicolons text = any_up (length text) (separates text)

unfoldable pub separator_of : List ℕ → ℕ
separator_of text = cond (has_semicolons text) 59 (cond (has_tabs text) 9 44)

-- ---- what is given

-- the coordinates of the points, x then y, and each point's line; each loop's points, and three numbers: the places of its comment and the line of its last
-- point where that is left out
pub record Output : Type 0 where
  pub points : List Float
  pub lines : List ℕ
  pub lengths : List ℕ
  pub marks : List ℕ

abbrev pub no_output : Output
no_output = record { points = []; lines = []; lengths = []; marks = [] }

abbrev pub point_numbers : Option Spot → List Float
point_numbers (Some s) = s.x ∷ s.y ∷ []
point_numbers None = []

abbrev pub point_line : Option Spot → List ℕ
point_line (Some s) = s.line ∷ []
point_line None = []

abbrev pub loop_length : Option Ended → List ℕ
loop_length (Some e) = e.length ∷ []
loop_length None = []

abbrev pub loop_marks : Option Ended → List ℕ
loop_marks (Some e) = e.from ∷ e.to ∷ e.left ∷ []
loop_marks None = []

unfoldable pub out_more : Given → Output → Output
out_more g o = record {
  points = o.points ++ point_numbers g.point;
  lines = o.lines ++ point_line g.point;
  lengths = o.lengths ++ loop_length g.ended;
  marks = o.marks ++ loop_marks g.ended;
}

-- ---- the walk

-- where the line begins that is read, what is kept, and what has been given
pub record Walk : Type 0 where
  pub from : ℕ
  pub reader : Reader
  pub out : Output

-- before the first byte
unfoldable pub new_walk : Reader → Walk
new_walk r = record { from = 0; reader = r; out = no_output }

-- the line ends at place `to`
unfoldable pub line_walked : ℕ → List ℕ → ℕ → Walk → Walk
line_walked separator text to w =
    let line = slice_range text w.from to in
    record { from = w.from; reader = line_read separator line w.from w.reader; out = out_more (line_given separator line w.reader) w.out }

-- byte i
unfoldable pub walk_turn : ℕ → List ℕ → ℕ → Walk → Walk
walk_turn separator text i w =
    cond (is_end (get_or text i 0))
    (cond (is_second text i) (record w { from = i + 1 }) (record (line_walked separator text i w) { from = i + 1 }))
    w

-- the last line ends with the text, and so does the last loop
unfoldable pub walk_ended : ℕ → List ℕ → Walk → Walk
walk_ended separator text w =
    let v = line_walked separator text (length text) w in
    record { from = v.from; reader = loop_ended v.reader; out = out_more (loop_given v.reader) v.out }

unfoldable pub walked : ℕ → List ℕ → Reader → Walk
walked separator text r = walk_ended separator text (for_up (length text) (walk_turn separator text) (new_walk r))
