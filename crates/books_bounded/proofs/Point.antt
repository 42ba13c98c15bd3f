-- Points that are doubles within 1,001 both ways: what the sine theorem asks of a quad's corners. Definitions only.
use Rattle.outline.specs.declared.Point.{Point}
use Rattle.outline.specs.Accepted.{PointFits, PointWithin}

pub record Bounded (p : Point) : Type 0 where
  pub fits : PointFits p
  pub within : PointWithin 1001 1001 p
