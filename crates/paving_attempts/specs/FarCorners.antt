-- The choice of the far corners with the checks that read points and links alone, which the code makes before all others. Definitions only.
use Rattle.std.specs.Prelude.{Bool, not, ◌&&◌, ℕ, eqb, Float, Option}
use Rattle.outline.specs.declared.Point.{Point}
use Rattle.front.specs.declared.Corner.{Corner}
use Rattle.front.specs.State.{State}
use Rattle.front.specs.Neighbours.{next_at, is_at}
use Rattle.front.specs.Place.{id_c, id_d}
use Rattle.front.specs.declared.FarCorners.{FarCorners}
use Rattle.paving.specs.Checks.{corners_apart}
use Rattle.paving.specs.Attempt.{corner_c, corner_d, quad_if}

-- c and d are two nodes, more than 0.45 × size apart where both are new, and c to d is not on the front
abbrev pub pair_fits : Float → State → Corner → Corner → Bool
pair_fits size s c d =
    not (eqb (id_c s c) (id_d s c d)) && (corners_apart size c d && not (is_at (next_at s (id_c s c)) (id_d s c d)))

-- the far corners of a quad on the edge a to b, where they fit
unfoldable pub far_corners : Float → State → ℕ → ℕ → Point → Point → Option FarCorners
far_corners size s a b da db =
    let c = corner_c size s a b da in
    let d = corner_d size s a b db in
    quad_if (pair_fits size s c d) c d
