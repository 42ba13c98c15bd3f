-- What a reader of a points file keeps from line to line, and what a line gives. Definitions only.
use Rattle.std.specs.Prelude.{ℕ, ◌+◌, ◌-◌, Bool, false, ◌&&◌, cond, List, length, ◌==◌, ltb, Some, None, Float}
use Rattle.std.specs.Float.Ieee.{eq}
use Rattle.numbers.specs.Float.{zero_f}
use Rattle.points_text.specs.declared.Place.{Place}
use Rattle.points_text.specs.declared.Told.{Told}
use Rattle.points_text.specs.declared.Told.TheVariants.{Blank, Comment, Heading, Point, Wrong as Faulty}
use Rattle.points_text.specs.Lines.{told_of}
use Rattle.points_reader.specs.declared.reading.Spot.{Spot}
use Rattle.points_reader.specs.declared.reading.Remark.{Remark}
use Rattle.points_reader.specs.declared.reading.Fault.{Fault}
use Rattle.points_reader.specs.declared.reading.Given.{Given}
use Rattle.points_reader.specs.declared.reading.Reader.{Reader}

abbrev pub spot : Float → Float → ℕ → Spot
spot x y line = record { x = x; y = y; line = line }

abbrev pub no_spot : Spot
no_spot = spot zero_f zero_f 0

abbrev pub no_remark : Remark
no_remark = record { line = 0; column = 0; from = 0; to = 0 }

abbrev pub fault : ℕ → ℕ → ℕ → Bool → Fault
fault kind line column leads = record { kind = kind; line = line; column = column; leads = leads }

abbrev pub no_fault : Fault
no_fault = fault 0 0 0 false

-- before the first line; `which` of the faults is asked for, from 0
unfoldable pub new_reader : ℕ → Reader
new_reader which = record {
  line = 0;
  heading = 0;
  loops = 0;
  points = 0;
  here = 0;
  first = no_spot;
  last = no_spot;
  name = no_remark;
  pending = no_remark;
  faults = 0;
  which = which;
  fault = no_fault;
}

-- no row has been read
unfoldable pub is_first : Reader → Bool
is_first r = (r.loops == 0 && r.here == 0) && (r.faults == 0 && r.heading == 0)

-- a fault more
unfoldable pub faulted : Fault → Reader → Reader
faulted f r = record r { faults = r.faults + 1; fault = cond (r.faults == r.which) f r.fault }

abbrev pub nothing : Given
nothing = record { point = None; ended = None }

-- ---- the end of a loop

-- The last point of the loop, which isn't its only one, repeats the first: a loop closes by itself.
unfoldable pub repeats : Reader → Bool
repeats r = ltb 1 r.here && (eq r.first.x r.last.x && eq r.first.y r.last.y)

-- the loop ends, if there is one
unfoldable pub loop_ended : Reader → Reader
loop_ended r =
    cond (r.here == 0) (record r { pending = no_remark })
    (record r { loops = r.loops + 1; points = cond (repeats r) r.points (r.points + 1); here = 0; pending = no_remark })

-- its last point is given, or left out where it repeats the first
unfoldable pub loop_given : Reader → Given
loop_given r =
    cond (r.here == 0) nothing
    (record {
      point = cond (repeats r) None (Some r.last);
      ended = Some (record {
        length = cond (repeats r) (r.here - 1) r.here;
        from = r.name.from;
        to = r.name.to;
        left = cond (repeats r) r.last.line 0;
      });
    })

-- ---- a point

-- A comment that stands alone between two points of a loop is a fault, the sixth.
unfoldable pub remarked : Reader → Reader
remarked r = cond (r.pending.line == 0) r (faulted (fault 6 r.pending.line r.pending.column false) r)

-- a point begins a loop, which the comment right before it names, or goes on with one
unfoldable pub point_taken : Place → Reader → Reader
point_taken p r =
    cond (r.here == 0)
    (record r { here = 1; first = spot p.x p.y r.line; last = spot p.x p.y r.line; name = r.pending; pending = no_remark })
    (record (remarked (record r { points = r.points + 1; here = r.here + 1; last = spot p.x p.y r.line })) { pending = no_remark })

-- the point before it is given
unfoldable pub point_given : Reader → Given
point_given r = cond (r.here == 0) nothing (record { point = Some r.last; ended = None })

-- ---- a line

-- Of the comments right before a loop the first counts: from behind its `#`, at k of the line that begins at `at`, to the end of its n bytes.
unfoldable pub comment_taken : ℕ → ℕ → ℕ → Reader → Reader
comment_taken at n k r = cond (r.pending.line == 0) (record r { pending = record { line = r.line; column = k + 1; from = at + k + 1; to = at + n } }) r

unfoldable pub told_read : ℕ → ℕ → Told → Reader → Reader
told_read at n Blank r = loop_ended r
told_read at n (Comment k) r = comment_taken at n k r
told_read at n Heading r = record r { heading = r.line }
told_read at n (Point p) r = point_taken p r
told_read at n (Faulty w) r = faulted (fault w.kind r.line (w.at + 1) (is_first r)) r

unfoldable pub told_given : Told → Reader → Given
told_given Blank r = loop_given r
told_given (Comment k) r = nothing
told_given Heading r = nothing
told_given (Point p) r = point_given r
told_given (Faulty w) r = nothing

abbrev pub next_line : Reader → Reader
next_line r = record r { line = r.line + 1 }

-- after a line, which begins at `at`
unfoldable pub line_read : ℕ → List ℕ → ℕ → Reader → Reader
line_read separator line at r = told_read at (length line) (told_of separator (is_first r) line) (next_line r)

-- what the line gives
unfoldable pub line_given : ℕ → List ℕ → Reader → Given
line_given separator line r = told_given (told_of separator (is_first r) line) (next_line r)
