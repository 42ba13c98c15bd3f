-- The free functions of src/alt_crossfield.rs on points, each float operation as it stands there. `convex_ccw` is that file's, with the
-- angle limit, and not the one of src/two_d.rs.
-- Definitions only.
use Rattle.std.specs.Prelude.{Bool, not, ◌&&◌, ◌||◌, cond, Float}
use Rattle.std.specs.Float.Ieee.{neg, lt, le}
use Rattle.numbers.specs.Float.{◌⊕◌, ◌⊖◌, ◌⊗◌, ◌⊘◌, zero_f, one_f, four_f, tolerance, abs_f, min_f, max_f}
use Rattle.exact.specs.Corner.{norm, corner_ok}
use Rattle.outline.specs.declared.Point.{Point}
use Rattle.outline.specs.Outline.{point}
use Rattle.geometry.specs.declared.Corners.{Corners}

-- `distance`
unfoldable pub distance : Point → Point → Float
distance a b = norm (a.x ⊖ b.x) (a.y ⊖ b.y)

-- `tangent`: (1, 0) for a segment no longer than 1e-12
unfoldable pub tangent : Point → Point → Point
tangent a b =
    let dx = b.x ⊖ a.x in
    let dy = b.y ⊖ a.y in
    let length = norm dx dy in
    cond (le length tolerance) (point one_f zero_f) (point (dx ⊘ length) (dy ⊘ length))

-- the summand of `signed_area`, and of the area in `convex_ccw`
unfoldable pub area_term : Point → Point → Float
area_term a b = a.x ⊗ b.y ⊖ b.x ⊗ a.y

-- `cross2`
unfoldable pub cross2 : Point → Point → Point → Float
cross2 a b c = (b.x ⊖ a.x) ⊗ (c.y ⊖ a.y) ⊖ (b.y ⊖ a.y) ⊗ (c.x ⊖ a.x)

-- the area in `convex_ccw`, doubled
unfoldable pub doubled_area : Corners → Float
doubled_area p = zero_f ⊕ area_term p.a p.b ⊕ area_term p.b p.d ⊕ area_term p.d p.c ⊕ area_term p.c p.a

-- q is strictly left of a to b
unfoldable pub left_of : Point → Point → Point → Bool
left_of a b q = not (le (cross2 a b q) zero_f)

-- `point_in_convex`
unfoldable pub point_in_convex : Corners → Point → Bool
point_in_convex p q = left_of p.a p.b q && (left_of p.b p.d q && (left_of p.d p.c q && left_of p.c p.a q))

-- `on_segment`
unfoldable pub on_segment : Point → Point → Point → Bool
on_segment a b p =
    le (min_f a.x b.x ⊖ tolerance) p.x && (le p.x (max_f a.x b.x ⊕ tolerance)
    && (le (min_f a.y b.y ⊖ tolerance) p.y && le p.y (max_f a.y b.y ⊕ tolerance)))

-- two orientations of which one is above the tolerance and the other below its negative
unfoldable pub opposite : Float → Float → Bool
opposite o u = lt tolerance o && lt u (neg tolerance) || lt o (neg tolerance) && lt tolerance u

-- p has no side of a to b, by the tolerance, and lies in its box
unfoldable pub touches : Float → Point → Point → Point → Bool
touches o a b p = le (abs_f o) tolerance && on_segment a b p

-- `segments_cross`
unfoldable pub segments_cross : Point → Point → Point → Point → Bool
segments_cross a b c d =
    let o1 = cross2 a b c in
    let o2 = cross2 a b d in
    let o3 = cross2 c d a in
    let o4 = cross2 c d b in
    opposite o1 o2 && opposite o3 o4 || (touches o1 a b c || (touches o2 a b d || (touches o3 c d a || touches o4 c d b)))

-- the mean of the corners, as `quad_ok` takes it
unfoldable pub centroid : Corners → Point
centroid p =
    point ((p.a.x ⊕ p.b.x ⊕ p.d.x ⊕ p.c.x) ⊘ four_f) ((p.a.y ⊕ p.b.y ⊕ p.d.y ⊕ p.c.y) ⊘ four_f)

-- one corner of `convex_ccw`: both sides above 1e-12, and the sine of the turn from a to b to c above sin 20°
abbrev pub convex_at : Point → Point → Point → Bool
convex_at a b c = corner_ok a.x a.y b.x b.y c.x c.y

-- `convex_ccw` at 20 degrees
unfoldable pub convex_ccw : Corners → Bool
convex_ccw p =
    not (le (doubled_area p) tolerance) && (convex_at p.c p.a p.b && (convex_at p.a p.b p.d
    && (convex_at p.b p.d p.c && convex_at p.d p.c p.a)))
