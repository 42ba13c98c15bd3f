-- Words lie within their row.
use Rattle.std.specs.Prelude.{ℕ, ◌≤◌, ◌<◌, Result, Ok, Err}
use Rattle.points_text.specs.declared.Span.{Span}
use Rattle.points_text.specs.declared.Cells.{Cells}
use Rattle.points_text.specs.declared.Wrong.{Wrong}
use Rattle.points_text.specs.declared.Told.{Told}
use Rattle.points_text.specs.declared.Told.TheVariants as told

pub record SpanFits (n : ℕ) (w : Span) : Type 0 where
  pub order : w.begin ≤ w.end
  pub within : w.end ≤ n

pub record CellsFit (n : ℕ) (c : Cells) : Type 0 where
  pub word : SpanFits n c.word
  pub x : SpanFits n c.x
  pub y : SpanFits n c.y

-- what is told of a line of n bytes is within it
abbrev pub TellsWithin : ℕ → Told → Type 0
TellsWithin n told.Blank = Unit {0}
TellsWithin n (told.Comment k) = k < n
TellsWithin n told.Heading = Unit {0}
TellsWithin n (told.Point p) = Unit {0}
TellsWithin n (told.Wrong w) = w.at ≤ n

abbrev pub WrongWithin : {A : Type 0} → ℕ → Result A Wrong → Type 0
WrongWithin n (Ok x) = Unit {0}
WrongWithin n (Err w) = w.at ≤ n
