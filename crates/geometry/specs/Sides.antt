-- A corner's test by the two sides that meet there, so that the length of a side serves both its corners. Assumes nothing.
use Rattle.std.specs.Prelude.{Bool, not, ◌&&◌, ◌≡◌}
use Rattle.std.specs.Float.Ieee.{le}
use Rattle.numbers.specs.Float.{◌⊖◌, ◌⊗◌, ◌⊘◌, tolerance}
use Rattle.exact.specs.Corner.{sin20}
use Rattle.exact.specs.Corner.{norm, corner_ok}
use Rattle.outline.specs.declared.Point.{Point}
use Rattle.geometry.specs.declared.Side.{Side}
use Rattle.geometry.specs.Plane.{convex_at}

-- the side a to b
abbrev pub side_of : Point → Point → Side
side_of a b = record { x = b.x ⊖ a.x; y = b.y ⊖ a.y; length = norm (b.x ⊖ a.x) (b.y ⊖ a.y) }

-- the test of the corner where u ends and v starts
unfoldable pub turn_ok : Side → Side → Bool
turn_ok u v =
    let sine = (u.x ⊗ v.y ⊖ u.y ⊗ v.x) ⊘ (u.length ⊗ v.length) in
    not (le u.length tolerance) && not (le v.length tolerance) && not (le sine sin20)

-- it is that of the corner b between a and c
pub turn_is : (a b c : Point) {u v : Side} {r : Bool} → u ≡ side_of a b → v ≡ side_of b c → r ≡ turn_ok u v → r ≡ convex_at a b c
unfolding turn_ok corner_ok
turn_is a b c eu ev e = rw (eu, ev) at e
