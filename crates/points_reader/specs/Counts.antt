-- How far the counts of a reader can be: no count passes that of the lines.
use Rattle.std.specs.Prelude.{◌≡◌, ◌≤◌}
use Rattle.points_reader.specs.declared.reading.Reader.{Reader}

pub record Counted (r : Reader) : Type 0 where
  pub points : r.points ≤ r.line
  pub here : r.here ≤ r.line
  pub loops : r.loops ≤ r.line
  pub faults : r.faults ≤ r.line

-- nothing has been read
pub record IsNew (r : Reader) : Type 0 where
  pub line : r.line ≡ 0
  pub points : r.points ≡ 0
  pub here : r.here ≡ 0
  pub loops : r.loops ≡ 0
  pub faults : r.faults ≡ 0
