-- What a query has of an outline's blocks: each loop's are filed (`drawn_loop`), a block that is listed is there (`block_there`), and its box covers its
-- segments (`block_covers`). No blocks do as well (`drawn_none`). Assumes nothing.
use Rattle.std.specs.Prelude.{false, List, ◌≡◌, refl, ℕ, zero, suc, ◌+◌, ◌-◌, ◌*◌, ◌/◌, ◌≤◌, ◌<◌, min, T, length, drop, Float}
use Rattle.std.proofs.Common.{sym, ap, ◌∙◌, subst, zero-le, arith, length-take, length-drop}
use Rattle.std.specs.Float.{binary64}
use Rattle.std.specs.Float.Ieee.{fits}
use Rattle.outline.specs.Outline.{Outline, hole_length, hole_start, hole_at, loop_at, points, point_at, point_after, most_points}
use Rattle.outline.specs.Outline.{misshapen, outline_refusal, LoopPlace}
use Rattle.outline.proofs.OutlineBase.{start_over, shaped, HolesPassed}
use Rattle.outline.proofs.OutlineLaws.{passed_place, passed_few}
use Rattle.outline.specs.Accepted.{OutlineFits, Accepted, each, loop_within}
use Rattle.outline.proofs.Accepted.{accepted}
use Rattle.outline_blocks.specs.Blocks.{reach, block_size, block_end, BlockThere, BlockFiled, LoopFiled, LoopDrawn, points_before, first_block, first_block_at}
use Rattle.outline_blocks.specs.Blocks.{Drawn, segment_extent, block_extent, Covers}
use Rattle.outline_blocks.proofs.BetweenLaws.{BlockPlace}
use Rattle.outline_blocks.proofs.OrderLaws.{farther_self}

-- ---- a block

module _ {s : List Float} {blocks : List ℕ} {b from : ℕ} (f : BlockFiled s blocks b from) where
  pub block_there : 4 * b + 3 < length blocks → BlockThere s blocks b
  block_there h = record { listed = h; sides = λ d l. (f.side d l).there }

  pub block_covers : (i : ℕ) → from ≤ i → i < block_end (points s) from → Covers (block_extent s blocks b) (point_at s i) (point_after s i)
  block_covers i h l = record {
    xmin = (f.side 0 (omega arith)).most i h l;
    xmax = (f.side 1 (omega arith)).most i h l;
    ymin = (f.side 2 (omega arith)).most i h l;
    ymax = (f.side 3 (omega arith)).most i h l;
  }

pub segment_covers : (s : List Float) (i : ℕ) → Covers (segment_extent s i) (point_at s i) (point_after s i)
segment_covers s i = record {
  xmin = farther_self 0 (reach 0 s i);
  xmax = farther_self 1 (reach 1 s i);
  ymin = farther_self 2 (reach 2 s i);
  ymax = farther_self 3 (reach 3 s i);
}

-- the block at which a loop by blocks stands
pub block_filed : {s : List Float} {blocks : List ℕ} {first from b : ℕ} → LoopFiled s blocks first → BlockPlace (points s) first from b → from < points s
    → 4 * b + 3 < length blocks → BlockFiled s blocks b from
block_filed {s} {blocks} {first} {from} {b} f p h l =
    let same = number first b p.begun in
    subst (λ (k : ℕ). BlockFiled s blocks k from) same
    (subst (λ (k : ℕ). BlockFiled s blocks (first + (b - first)) k) (sym p.at)
    (f (b - first) (omega arith) (omega (arith, same))))
  where
    number : (first b : ℕ) → first ≤ b → first + (b - first) ≡ b
    number first b h = omega arith

-- ---- a loop of an outline that isn't refused

-- how many points loop k has at most: as many as are told
abbrev loop_length : Outline → ℕ → ℕ
loop_length o zero = points o.outer
loop_length o (suc k) = hole_length o.lens k

record LoopLong (o : Outline) (k : ℕ) : Type 0 where
  long : length (loop_at o k) ≡ 2 * loop_length o k
  few : points_before o k + loop_length o k ≤ most_points

loop_long : (o : Outline) → misshapen o ≡ false → (k : ℕ) → k ≤ length o.lens → LoopLong o k
unfolding loop_at hole_at
loop_long o e zero h = let s = shaped o e in record { long = omega arith; few = omega arith }
loop_long o e (suc k) h =
    let s = shaped o e in
    let over = start_over o.lens k (length o.lens) h in
    let m = 2 * hole_length o.lens k in
    let d = 2 * hole_start o.lens k in
    record { long = omega (arith, length-take m (drop d o.holes) ∙ ap (min m) (length-drop d o.holes)); few = omega arith }

-- a later loop's points stand after an earlier one's
before_over : (o : Outline) (j k : ℕ) → j < k → points_before o j + loop_length o j ≤ points_before o k
before_over o zero zero h = absurd (omega arith)
before_over o zero (suc k) h = omega arith
before_over o (suc j) zero h = absurd (omega arith)
before_over o (suc j) (suc k) h = omega (arith, start_over o.lens j k (omega arith))

-- the blocks of an earlier loop have lower numbers
pub first_over : (o : Outline) → misshapen o ≡ false → (j k c : ℕ) → j < k → k ≤ length o.lens → block_size * c < points (loop_at o j)
    → first_block o j + c < first_block o k
unfolding first_block
first_over o e j k c h l m =
    let long = (loop_long o e j (omega arith)).long in
    let over = before_over o j k h in
    go (points_before o j) (loop_length o j) (points_before o k) over (omega arith)
  where
    go : (p n q : ℕ) → p + n ≤ q → 16 * c < n → p / 16 + j + c < q / 16 + k
    go p n q g m = omega arith

-- every loop has three points, so there are few
before_most : (o : Outline) → Accepted o → (k : ℕ) → k ≤ length o.lens → 3 * k ≤ points_before o k
before_most o a zero h = omega arith
before_most o a (suc k) h =
    omega (
      arith,
      before_most o a k (omega arith),
      a.three k (omega arith),
      (loop_long o a.shape k (omega arith)).long,
      before_over o k (suc k) (omega arith),
    )

pub first_few : (o : Outline) → outline_refusal o ≡ 0 → (k : ℕ) → k ≤ length o.lens → (k ≤ most_points) × (first_block o k ≤ 2 * most_points)
unfolding first_block
first_few o e k h =
    let a = accepted o e in
    let most = before_most o a k h in
    let few = (loop_long o a.shape k h).few in
    (omega arith, omega arith)

pub loop_few : (o : Outline) → outline_refusal o ≡ 0 → (k : ℕ) → k ≤ length o.lens → points (loop_at o k) ≤ most_points
loop_few o e k h =
    let l = loop_long o (accepted o e).shape k h in
    let long = l.long in
    let few = l.few in
    omega arith

-- the number as the code has it
pub first_later : (outer : List Float) (k start : ℕ) → (k ≡ 0 → ⊥) → (points outer + start) / block_size + k ≡ first_block_at outer k start
first_later outer zero start h = absurd (h refl)
first_later outer (suc k) start h = refl

pub first_at : {o : Outline} {start : ℕ} (k : ℕ) → LoopPlace o k start → first_block_at o.outer k start ≡ first_block o k
unfolding first_block
first_at {o} zero p = refl
first_at {o} (suc k) p = ap (λ (n : ℕ). (points o.outer + n) / block_size + suc k) p.at

module _ {o : Outline} {blocks : List ℕ} (d : Drawn o blocks) where
  pub drawn_shape : misshapen o ≡ false
  drawn_shape = (accepted o d.taken).shape

  pub drawn_loop : (k : ℕ) → k ≤ length o.lens → LoopDrawn (loop_at o k) blocks (first_block o k)
  drawn_loop k h =
      let a = accepted o d.taken in
      let l = loop_long o a.shape k h in
      let long = l.long in
      let few = l.few in
      record {
        fits = each o (λ x. T (fits binary64 x)) d.fits.outer d.fits.holes k;
        within = loop_within o d.fits a k h;
        even = omega arith;
        few = omega arith;
        filed = d.filed k h;
      }

-- a list of blocks that has none serves every outline that isn't refused
pub drawn_none : {o : Outline} {blocks : List ℕ} → outline_refusal o ≡ 0 → OutlineFits o → length blocks ≡ 0 → Drawn o blocks
drawn_none {o} e f none = record { taken = e; fits = f; filed = λ k h c l m. absurd (omega arith) }

-- ---- a loop over the holes

-- the outer loop's first block
pub outer_first : (o : Outline) → first_block o 0 ≡ 0
unfolding first_block
outer_first o = refl

module _ {o : Outline} {k start : ℕ} (p : HolesPassed o k start) (h : k < length o.lens) where
  -- what `first_block` asks
  pub hole_asks : outline_refusal o ≡ 0 → (points o.outer ≤ most_points) × (start ≤ most_points) × (k + 1 ≤ most_points)
  hole_asks e =
      let few = (shaped o p.shape).few in
      let passed = passed_few p h in
      (omega arith, omega arith, (first_few o e (k + 1) (omega arith)).0)

  pub hole_first : {first : ℕ} → first ≡ first_block_at o.outer (k + 1) start → first ≡ first_block o (k + 1)
  hole_first e = e ∙ first_at (k + 1) (passed_place p h)

  -- what a function over the loop's blocks asks of the first one's number
  pub hole_most : {first : ℕ} → outline_refusal o ≡ 0 → first ≡ first_block_at o.outer (k + 1) start → first ≤ 2 * most_points
  hole_most e f = let few = (first_few o e (k + 1) (omega arith)).1 in omega (arith, hole_first f)

  pub hole_drawn : {blocks : List ℕ} {s : List Float} {first : ℕ} → Drawn o blocks → s ≡ loop_at o (k + 1) → first ≡ first_block_at o.outer (k + 1) start
      → LoopDrawn s blocks first × (first ≤ 2 * most_points)
  hole_drawn {blocks} d e f =
      (rw e (subst (LoopDrawn (loop_at o (k + 1)) blocks) (sym (hole_first f)) (drawn_loop d (k + 1) (omega arith))), hole_most d.taken f)

pub outer_drawn : {o : Outline} {blocks : List ℕ} {s : List Float} → Drawn o blocks → s ≡ loop_at o 0 → LoopDrawn s blocks 0
outer_drawn {o} {blocks} d e = rw e (subst (LoopDrawn (loop_at o 0) blocks) (outer_first o) (drawn_loop d 0 zero-le))
