-- The rules on keys that replace the buckets of `EdgeIndex` and `NodeIndex`. Definitions only.
use Rattle.std.specs.Prelude.{Bool, true, false, not, ◌&&◌, cond, ℕ, ◌+◌, ℤ, pos, negsuc, nat_abs, ◌-ℤ◌, leb, Float}
use Rattle.std.specs.Float.Ieee.{lt}
use Rattle.numbers.specs.Float.{◌⊕◌, ◌⊖◌, ◌⊗◌, bits, two_f, infinity_f, neg_infinity_f, min_f, max_f}
use Rattle.numbers.specs.Whole.{floor_quotient}
use Rattle.outline.specs.declared.Point.{Point}
use Rattle.outline.specs.Outline.{point}
use Rattle.geometry.specs.declared.Key.{Key}
use Rattle.geometry.specs.declared.KeyRect.{KeyRect}
use Rattle.geometry.specs.declared.Spans.{Spans}
use Rattle.geometry.specs.declared.Corners.{Corners}

-- a key is the pair of floors of x/B and y/B
unfoldable pub key_of : Float → Point → Key
key_of bucket p = record { i = floor_quotient p.x bucket; j = floor_quotient p.y bucket }

-- the rectangle whose opposite corners are the keys of p and q
abbrev pub rect_between : Float → Point → Point → KeyRect
rect_between bucket p q = record { k = key_of bucket p; l = key_of bucket q }

-- B for nodes is the size, for edges twice the size
abbrev pub edge_bucket : Float → Float
edge_bucket size = two_f ⊗ size

-- how far apart two whole numbers are
abbrev pub gap : ℤ → ℤ → ℕ
gap k l = nat_abs (k -ℤ l)

abbrev pub is_negative : ℤ → Bool
is_negative (pos n) = false
is_negative (negsuc n) = true

-- k ≤ l
abbrev pub at_most : ℤ → ℤ → Bool
at_most k l = not (is_negative (l -ℤ k))

abbrev pub lesser : ℤ → ℤ → ℤ
lesser k l = cond (at_most k l) k l

abbrev pub greater : ℤ → ℤ → ℤ
greater k l = cond (at_most k l) l k

-- the spans of a key rectangle, by two opposite corners
abbrev pub spans_of : Key → Key → Spans
spans_of k l = record { i = gap k.i l.i; j = gap k.j l.j }

-- they add up to 4,096 at most
unfoldable pub spans_kept : Key → Key → Bool
spans_kept k l = leb ((spans_of k l).i + (spans_of k l).j) 4096

-- the ranges from k to l and from m to n, either end first, have a number in common
unfoldable pub ranges_meet : ℤ → ℤ → ℤ → ℤ → Bool
ranges_meet k l m n = at_most (lesser k l) (greater m n) && at_most (lesser m n) (greater k l)

-- two key rectangles, each by two opposite corners, overlap
unfoldable pub rectangles_meet : Key → Key → Key → Key → Bool
rectangles_meet k l m n = ranges_meet k.i l.i m.i n.i && ranges_meet k.j l.j m.j n.j

-- the edge c to d is a candidate for a query whose ends have the keys k and l: its key rectangle overlaps the query's, and neither has
-- spans above 4,096
unfoldable pub candidate_at : Key → Key → Float → Point → Point → Bool
candidate_at k l size c d =
    let m = key_of (edge_bucket size) c in
    let n = key_of (edge_bucket size) d in
    spans_kept k l && (spans_kept m n && rectangles_meet k l m n)

-- the edge c to d is a candidate for the query a to b
unfoldable pub is_candidate : Float → Point → Point → Point → Point → Bool
is_candidate size a b c d = candidate_at (key_of (edge_bucket size) a) (key_of (edge_bucket size) b) size c d

-- 0.45, the factor of the clearance
abbrev pub clearance : Float
clearance = bits 0x3fdc_cccc_cccc_cccd

-- two keys each way: what `too_close` looks at
unfoldable pub near_keys : Key → Key → Bool
near_keys k l = leb (spans_of k l).i 2 && leb (spans_of k l).j 2

-- one node q of `too_close` round p, whose key is k: its key is within two of k each way, and the square of its distance is below radius2
unfoldable pub too_close_at : Key → Point → Float → Float → Point → Bool
too_close_at k p radius2 size q =
    let dx = q.x ⊖ p.x in
    let dy = q.y ⊖ p.y in
    near_keys k (key_of size q) && lt (dx ⊗ dx ⊕ dy ⊗ dy) radius2

-- one node q of `too_close`: it is nearer to p than 0.45 × size
unfoldable pub is_too_close : Float → Point → Point → Bool
is_too_close size p q =
    let radius = clearance ⊗ size in
    too_close_at (key_of size p) p (radius ⊗ radius) size q

-- the least and the greatest of four, as `in_box` takes them, from the infinities on
unfoldable pub least_of : Float → Float → Float → Float → Float
least_of x y z w = min_f (min_f (min_f (min_f infinity_f x) y) z) w

unfoldable pub greatest_of : Float → Float → Float → Float → Float
greatest_of x y z w = max_f (max_f (max_f (max_f neg_infinity_f x) y) z) w

-- what g picks of the corners' coordinates, from `start` on
abbrev pub picked : (Float → Float → Float) → Float → Corners → Point
picked g start p =
    point (g (g (g (g start p.a.x) p.b.x) p.d.x) p.c.x) (g (g (g (g start p.a.y) p.b.y) p.d.y) p.c.y)

-- the corners of a quad's box
unfoldable pub lowest : Corners → Point
lowest p = point (least_of p.a.x p.b.x p.d.x p.c.x) (least_of p.a.y p.b.y p.d.y p.c.y)

unfoldable pub highest : Corners → Point
highest p = point (greatest_of p.a.x p.b.x p.d.x p.c.x) (greatest_of p.a.y p.b.y p.d.y p.c.y)

-- k lies from l to m
abbrev pub between : ℤ → ℤ → ℤ → Bool
between k l m = at_most l k && at_most k m

-- one node q of `in_box`: its key lies in the key rectangle from l to m
unfoldable pub in_box_at : Key → Key → Float → Point → Bool
in_box_at l m size q =
    let k = key_of size q in
    between k.i l.i m.i && between k.j l.j m.j

-- its key lies in the quad's key rectangle
unfoldable pub is_in_box : Float → Corners → Point → Bool
is_in_box size p q = in_box_at (key_of size (lowest p)) (key_of size (highest p)) size q
