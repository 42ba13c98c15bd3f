-- Whether a drawn outline is sound (SCOPE, sound outlines): no two segments of a loop meet except neighbours at their common end, no two loops touch, every
-- hole lies inside the outer loop, and no hole lies in another. Judged on the outline as lent, each coordinate as its whole number of units, so
-- exactly and with no tolerance. Definitions only.
use Rattle.std.specs.Prelude.{Bool, not, ◌&&◌, ◌||◌, cond, List, ℕ, suc, eqb, length, ℤ, pos, nat_abs, ◌+ℤ◌, ◌*ℤ◌, Float}
use Rattle.std.specs.Int.Signed.{lt_z}
use Rattle.laws.specs.Loop.{any_up}
use Rattle.exact.specs.Corner.{Vector}
use Rattle.outline.specs.Outline.{Outline, hole_at, loop_at, points, point_at, after}
use Rattle.outline.specs.Parity.{odd_up}
use Rattle.outline_orientation.specs.Orient.{in_units, way, orient}

-- ---- places

-- where segment i of a loop starts
abbrev pub segment_start : List Float → ℕ → Vector
segment_start s i = in_units (point_at s i)

-- and where it ends
abbrev pub segment_end : List Float → ℕ → Vector
segment_end s i = segment_start s (after (points s) i)

-- ---- three places

-- the scalar product
unfoldable pub scalar_product : Vector → Vector → ℤ
scalar_product u v = u.x *ℤ v.x +ℤ u.y *ℤ v.y

-- c is left of the line from a to b
abbrev pub is_left : Vector → Vector → Vector → Bool
is_left a b c = lt_z (pos 0) (orient a b c)

-- c is right of it
abbrev pub is_right : Vector → Vector → Vector → Bool
is_right a b c = lt_z (orient a b c) (pos 0)

-- ---- two segments, a to b and c to d

-- the smaller of two numbers, and the larger
abbrev pub min_z : ℤ → ℤ → ℤ
min_z u v = cond (lt_z u v) u v

abbrev pub max_z : ℤ → ℤ → ℤ
max_z u v = cond (lt_z u v) v u

-- the numbers from u to v and those from s to t have one in common: neither lot lies wholly below the other
unfoldable pub overlap : ℤ → ℤ → ℤ → ℤ → Bool
overlap u v s t = not (lt_z (max_z u v) (min_z s t)) && not (lt_z (max_z s t) (min_z u v))

-- c and d are on the same side of the line through a and b, neither of them on it
unfoldable pub parted : Vector → Vector → Vector → Vector → Bool
parted a b c d = (is_left a b c && is_left a b d) || (is_right a b c && is_right a b d)

-- they have a point in common, ends included (`meets_shares`): their boxes overlap, and neither line has the other segment wholly on one side
unfoldable pub meets : Vector → Vector → Vector → Vector → Bool
meets a b c d =
    overlap a.x b.x c.x d.x && (overlap a.y b.y c.y d.y && (not (parted a b c d) && not (parted c d a b)))

-- a to b and b to c have more in common than b (`folds_shares`): the way goes back on itself at b
unfoldable pub folds_back : Vector → Vector → Vector → Bool
folds_back a b c = eqb (nat_abs (orient a b c)) 0 && lt_z (scalar_product (way a b) (way b c)) (pos 0)

-- ---- one loop

-- segments i and j of n in a ring have a common end, by their places in the loop
abbrev pub neighbours : ℕ → ℕ → ℕ → Bool
neighbours n i j = eqb j (after n i) || eqb i (after n j)

-- segment j comes after segment i and folds back on it
unfoldable pub folds_at : List Float → ℕ → ℕ → Bool
folds_at s i j = eqb j (after (points s) i) && folds_back (segment_start s i) (segment_start s j) (segment_end s j)

-- segments i and j have in common what they may not: neighbours more than their common end, others anything
unfoldable pub clash : List Float → ℕ → ℕ → Bool
clash s i j =
    folds_at s i j || (folds_at s j i || (not (neighbours (points s) i j) && meets (segment_start s i) (segment_end s i) (segment_start s j) (segment_end s j)))

-- some two segments of the loop clash
unfoldable pub crosses_itself : List Float → Bool
crosses_itself s = any_up (points s) (λ i. any_up i (λ j. clash s j i))

-- ---- two loops

-- some segment of s meets some segment of t
unfoldable pub touch : List Float → List Float → Bool
touch s t = any_up (points s) (λ i. any_up (points t) (λ j. meets (segment_start s i) (segment_end s i) (segment_start t j) (segment_end t j)))

-- q is higher than p
abbrev pub is_above : Vector → Vector → Bool
is_above p q = lt_z p.y q.y

-- the ray from p to the right meets the segment a to b, the lower end counted: one end is above p and one is not, and p is left of a segment that goes
-- up and right of one that goes down
unfoldable pub ray_meets : Vector → Vector → Vector → Bool
ray_meets p a b = (not (is_above p a) && (is_above p b && is_left a b p)) || (is_above p a && (not (is_above p b) && is_right a b p))

-- p is inside the loop: the ray meets an odd number of its segments
unfoldable pub is_inside : Vector → List Float → Bool
is_inside p s = odd_up (points s) (λ i. ray_meets p (segment_start s i) (segment_end s i))

-- ---- the outline

-- some point of hole k is not inside the outer loop
unfoldable pub strays_out : Outline → ℕ → Bool
strays_out o k = any_up (points (hole_at o k)) (λ i. not (is_inside (segment_start (hole_at o k) i) o.outer))

-- holes k and l are two, and some point of hole k is inside hole l
unfoldable pub lies_in : Outline → ℕ → ℕ → Bool
lies_in o k l = not (eqb k l) && any_up (points (hole_at o k)) (λ i. is_inside (segment_start (hole_at o k) i) (hole_at o l))

-- no loop crosses itself, no two loops touch, no hole strays out of the outer loop, and none lies in another
unfoldable pub outline_sound : Outline → Bool
outline_sound o =
    let holes = length o.lens in
    let loops = suc holes in
    not (any_up loops (λ k. crosses_itself (loop_at o k)))
    && (not (any_up loops (λ k. any_up k (λ l. touch (loop_at o k) (loop_at o l))))
    && (not (any_up holes (λ k. strays_out o k))
    && not (any_up holes (λ k. any_up holes (λ l. lies_in o k l)))))
