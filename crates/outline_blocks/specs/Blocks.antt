-- Blocks of the outline: up to 16 consecutive segments of one loop. A lent list has four numbers for each block: of its segments, that with the least x, that
-- with the greatest x, and so with y. Definitions only.
use Rattle.std.specs.Prelude.{Bool, false, not, ◌||◌, cond, List, ◌⊎◌, ◌≡◌, ℕ, zero, suc, ◌+◌, ◌-◌, ◌*◌, ◌/◌, ◌%◌, ◌≤◌, ◌<◌, min, ltb, eqb, length, get_or, Float}
use Rattle.std.specs.Float.Ieee.{lt}
use Rattle.laws.specs.Loop.{for_up}
use Rattle.numbers.specs.Float.{◌⊕◌, ◌⊖◌}
use Rattle.exact.specs.Units.{Within}
use Rattle.outline.specs.declared.Point.{Point}
use Rattle.outline.specs.Outline.{Outline, hole_start, loop_at, points, point_at, point_after, most_points, outline_refusal}
use Rattle.outline.specs.Accepted.{AllFit, OutlineFits, LoopWithin}
use Rattle.outline_loops.specs.Order.{lower_of, higher_of}
use Rattle.outline_blocks.specs.declared.Extent.{Extent}

-- ---- a part of a loop

-- `for i in from..to`
unfoldable pub for_between : {A : Type 0} → ℕ → ℕ → (ℕ → A → A) → A → A
for_between from to turn a = for_up (to - from) (λ j. turn (from + j)) a

-- ---- how far segments reach

-- The sides, by number: 0 is least x, 1 greatest x, 2 least y, 3 greatest y. The coordinate that a side bounds:
abbrev pub coordinate_of_side : ℕ → Point → Float
coordinate_of_side d p = cond (ltb d 2) p.x p.y

-- how far the segment a to b reaches on side d: over a, b, and a + (b − a), which is where a part of the way from a to b ends as it is computed
unfoldable pub reach_of : ℕ → Point → Point → Float
reach_of d a b =
    let u = coordinate_of_side d a in
    let v = coordinate_of_side d b in
    let w = u ⊕ (v ⊖ u) in
    cond (eqb (d % 2) 1) (higher_of (higher_of u v) w) (lower_of (lower_of u v) w)

-- the same of segment i of a loop
abbrev pub reach : ℕ → List Float → ℕ → Float
reach d s i = reach_of d (point_at s i) (point_after s i)

-- x is farther out than y on side d
unfoldable pub is_farther : ℕ → Float → Float → Bool
is_farther d x y = cond (eqb (d % 2) 1) (lt y x) (lt x y)

-- of the segments `from` up to `to`, none reaches farther out on side d than segment `far`
pub record Farthest (s : List Float) (d from to far : ℕ) : Type 0 where
  pub there : far < points s
  pub most : (i : ℕ) → from ≤ i → i < to → is_farther d (reach d s i) (reach d s far) ≡ false

-- ---- the blocks of a loop

abbrev pub block_size : ℕ
block_size = 16

-- block c of a loop of n points begins with segment 16 c and ends before this one
abbrev pub block_end : ℕ → ℕ → ℕ
block_end n from = min (from + block_size) n

-- the list has the four numbers of block b
abbrev pub is_listed : List ℕ → ℕ → Bool
is_listed blocks b = ltb (4 * b + 3) (length blocks)

-- the number that block b has for side d
abbrev pub side_at : List ℕ → ℕ → ℕ → ℕ
side_at blocks b d = get_or blocks (4 * b + d) 0

-- block b has its numbers in the list, and each is that of a segment
pub record BlockThere (s : List Float) (blocks : List ℕ) (b : ℕ) : Type 0 where
  pub listed : 4 * b + 3 < length blocks
  pub sides : (d : ℕ) → d < 4 → side_at blocks b d < points s

-- block b of the list bounds the segments of a loop from `from` on
pub record BlockFiled (s : List Float) (blocks : List ℕ) (b from : ℕ) : Type 0 where
  pub side : (d : ℕ) → d < 4 → Farthest s d from (block_end (points s) from) (side_at blocks b d)

-- block `first + c` bounds the loop's segments 16 c up to 16 c + 16, for every c that has segments and is listed
abbrev pub LoopFiled : List Float → List ℕ → ℕ → Type 0
LoopFiled s blocks first = (c : ℕ) → block_size * c < points s → 4 * (first + c) + 3 < length blocks → BlockFiled s blocks (first + c) (block_size * c)

-- block b is filed, and the rest of the list is as it was
pub record BlockFiles (s : List Float) (before after : List ℕ) (b from : ℕ) : Type 0 where
  pub filed : BlockFiled s after b from
  pub long : length after ≡ length before
  pub rest : (i : ℕ) → (i < 4 * b) ⊎ (4 * b + 4 ≤ i) → get_or after i 0 ≡ get_or before i 0

-- the blocks of a loop are filed, and what stands before them is as it was
pub record LoopFiles (s : List Float) (before after : List ℕ) (first : ℕ) : Type 0 where
  pub filed : LoopFiled s after first
  pub long : length after ≡ length before
  pub rest : (i : ℕ) → i < 4 * first → get_or after i 0 ≡ get_or before i 0

-- the blocks of a loop of doubles are filed, and every point of it is within 1,000
pub record LoopDrawn (s : List Float) (blocks : List ℕ) (first : ℕ) : Type 0 where
  pub fits : AllFit s
  pub within : LoopWithin s
  pub even : 2 * points s ≡ length s
  pub few : points s ≤ most_points
  pub filed : LoopFiled s blocks first

-- ---- the blocks of an outline

-- how many points stand before loop k, those of the outer loop first
abbrev pub points_before : Outline → ℕ → ℕ
points_before o zero = 0
points_before o (suc k) = points o.outer + hole_start o.lens k

-- The number of loop k's first block: one in 16 points, and one more a loop, for its last block may have less.
unfoldable pub first_block : Outline → ℕ → ℕ
first_block o k = points_before o k / block_size + k

-- the same from the outer loop's points and how many hole points stand before loop k
abbrev pub first_block_at : List Float → ℕ → ℕ → ℕ
first_block_at outer zero start = 0
first_block_at outer (suc k) start = (points outer + start) / block_size + suc k

-- none of 1 to 4 refuses the outline, and its blocks are in the list as far as that goes
pub record Drawn (o : Outline) (blocks : List ℕ) : Type 0 where
  pub taken : outline_refusal o ≡ 0
  pub fits : OutlineFits o
  pub filed : (k : ℕ) → k ≤ length o.lens → LoopFiled (loop_at o k) blocks (first_block o k)

-- ---- boxes

abbrev pub extent : Float → Float → Float → Float → Extent
extent xmin xmax ymin ymax = record { xmin = xmin; xmax = xmax; ymin = ymin; ymax = ymax }

-- the box of segment i
abbrev pub segment_extent : List Float → ℕ → Extent
segment_extent s i = extent (reach 0 s i) (reach 1 s i) (reach 2 s i) (reach 3 s i)

-- the box of block b
abbrev pub block_extent : List Float → List ℕ → ℕ → Extent
block_extent s blocks b =
    extent (reach 0 s (side_at blocks b 0)) (reach 1 s (side_at blocks b 1)) (reach 2 s (side_at blocks b 2)) (reach 3 s (side_at blocks b 3))

-- every side of the box is at most K either way
pub record ExtentWithin (K : ℕ) (e : Extent) : Type 0 where
  pub xmin : Within K e.xmin
  pub xmax : Within K e.xmax
  pub ymin : Within K e.ymin
  pub ymax : Within K e.ymax

-- The segment a to b lies in the box. (A side that is a NaN bounds nothing: `ExtentWithin` rules it out.)
pub record Covers (e : Extent) (a b : Point) : Type 0 where
  pub xmin : is_farther 0 (reach_of 0 a b) e.xmin ≡ false
  pub xmax : is_farther 1 (reach_of 1 a b) e.xmax ≡ false
  pub ymin : is_farther 2 (reach_of 2 a b) e.ymin ≡ false
  pub ymax : is_farther 3 (reach_of 3 a b) e.ymax ≡ false

-- the ray from p to the right can't change sides at a segment in the box: the box is above p, not above p, or not to the right of p
unfoldable pub ray_misses : Point → Extent → Bool
ray_misses p e = lt p.y e.ymin || (not (lt p.y e.ymax) || not (lt p.x e.xmax))
