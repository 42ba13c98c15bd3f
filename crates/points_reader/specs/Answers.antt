-- What is answered of a text, and what is written. Definitions only.
use Rattle.std.specs.Prelude.{ℕ, ◌/◌, Bool, false, ◌&&◌, cond, List, length, ◌==◌, leb}
use Rattle.laws.specs.Overlay.{overlay}
use Rattle.points_reader.specs.declared.reading.Reader.{Reader}
use Rattle.points_reader.specs.declared.entry.PointsAnswer.{PointsAnswer}
use Rattle.points_reader.specs.Reading.{new_reader}
use Rattle.points_reader.specs.Walking.{Walk, unmarked, separator_of, walked}

-- more bytes aren't read
abbrev pub most_bytes : ℕ
most_bytes = 268435456

-- 31, and the fault that was asked for
unfoldable pub faulty_answer : ℕ → Reader → PointsAnswer
faulty_answer separator r = record {
  refusal = 31;
  fault = r.fault.kind;
  line = r.fault.line;
  column = r.fault.column;
  leads = r.fault.leads;
  faults = r.faults;
  separator = separator;
  heading = r.heading;
  points = 0;
  loops = 0;
}

-- nothing is wrong with the text: 14 where a list is too short
unfoldable pub read_answer : ℕ → Bool → Reader → PointsAnswer
read_answer separator room r = record {
  refusal = cond room 0 14;
  fault = 0;
  line = 0;
  column = 0;
  leads = false;
  faults = 0;
  separator = separator;
  heading = r.heading;
  points = r.points;
  loops = r.loops;
}

-- a text of more bytes, 31 too: the seventh fault
unfoldable pub long_answer : PointsAnswer
long_answer = record {
  refusal = 31;
  fault = 7;
  line = 0;
  column = 0;
  leads = false;
  faults = 1;
  separator = 0;
  heading = 0;
  points = 0;
  loops = 0;
}

-- lists of these lengths have room for what is read: two coordinates and a line for each point, a length and three marks for each loop
unfoldable pub has_room : Reader → ℕ → ℕ → ℕ → ℕ → Bool
has_room r points lines lengths marks = (leb r.points (points / 2) && leb r.points lines) && (leb r.loops lengths && leb r.loops (marks / 3))

-- what is read of a text
abbrev pub text_walked : List ℕ → ℕ → Walk
text_walked text which = let u = unmarked text in walked (separator_of u) u (new_reader which)

abbrev pub reader_answer : ℕ → Bool → Reader → PointsAnswer
reader_answer separator room r = cond (r.faults == 0) (read_answer separator room r) (faulty_answer separator r)

unfoldable pub points_answer : List ℕ → ℕ → ℕ → ℕ → ℕ → ℕ → PointsAnswer
points_answer text which points lines lengths marks =
    let u = unmarked text in
    let r = (text_walked text which).reader in
    cond (leb (length u) most_bytes) (reader_answer (separator_of u) (has_room r points lines lengths marks) r) long_answer

-- a list where nothing is refused, and as it was otherwise
unfoldable pub written : {A : Type 0} → ℕ → List A → List A → List A
written refusal l s = cond (refusal == 0) (overlay l s) s
