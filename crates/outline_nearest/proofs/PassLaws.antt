-- What the code's tests tell: a coordinate is moderate (`coordinate_moderate`), and a block that is passed over has no segment that the search would take (`passed_same`).
-- Assumes nothing.
use Rattle.std.specs.Prelude.{true, false, List, ◌≡◌, refl, ℕ, ◌+◌, ◌*◌, ◌≤◌, ◌<◌, T, length, Float}
use Rattle.std.proofs.Common.{ap, ◌∙◌, add-one, arith, leb→le}
use borrow.Author.Tests.{ltb-true}
use Rattle.std.specs.Float.{nan, inf, fin, binary64}
use Rattle.std.specs.Float.Ieee.{fits, lt, le, eq, of_bits}
use Rattle.laws.specs.Loop.{for_up}
use Rattle.laws.specs.Tests.{both}
use Rattle.numbers.specs.Float.{bits, is_finite, abs_f}
use Rattle.exact.specs.Units.{W, Val, sign_of, size_of, val_of, abs_val, Within, within_of}
use Rattle.exact.proofs.Order.{le_val}
use Rattle.outline.specs.declared.Point.{Point}
use Rattle.outline.specs.declared.Search.{Search}
use Rattle.outline.specs.Outline.{Outline, hole_at, loop_at, points, point_at, point_after}
use Rattle.outline.proofs.OutlineBase.{outer_points, hole_points}
use Rattle.outline.specs.Search.{search_turn, search_loop, search_hole, search_from}
use Rattle.outline_blocks.specs.Blocks.{block_end, is_listed, BlockThere, LoopDrawn, block_extent}
use Rattle.outline_blocks.proofs.BetweenLaws.{BlockPlace}
use Rattle.outline_blocks.proofs.BlockLaws.{block_there, block_covers, block_filed}
use Rattle.outline_blocks.proofs.ReachLaws.{block_within}
use Rattle.outline_nearest.specs.Far.{moderate_bound, ModeratePoint, is_far, is_passed}
use Rattle.outline_nearest.proofs.FarLaws.{segment_ends, far_same}

-- ---- a coordinate of the point

-- 2^20
abbrev moderate_f : Float
moderate_f = bits 0x4130_0000_0000_0000

moderate_val : Val moderate_f false (moderate_bound * W)
unfolding of_bits W
moderate_val = (refl, refl)

finite_abs : (x : Float) → T (le (abs_f x) moderate_f) → T (is_finite x)
unfolding le lt eq abs_f of_bits is_finite
finite_abs nan h = h
finite_abs (inf s) h = h
finite_abs (fin s m e) h = tt

pub coordinate_moderate : (x : Float) → T (fits binary64 x) → {y : Float} → y ≡ abs_f x → le y moderate_f ≡ true → Within moderate_bound x
coordinate_moderate x f e t =
    let h : T (le (abs_f x) moderate_f) = rw (← e, t) tt in
    let i = finite_abs x h in
    let v = abs_val x (sign_of x) (size_of x) (val_of x i f) in
    within_of moderate_bound x f i (leb→le (size_of x) (moderate_bound * W) ((le_val (abs_f x) moderate_f false false (size_of x) (moderate_bound * W) v moderate_val).0 h).le)

-- ---- the block at which a loop by blocks stands

module _ {s : List Float} {blocks : List ℕ} {first from b : ℕ} (d : LoopDrawn s blocks first) (place : BlockPlace (points s) first from b)
    (h : from < points s) where
  pub place_there : 4 * b + 3 < length blocks → BlockThere s blocks b
  place_there l = block_there (block_filed d.filed place h l) l

  -- a block that is passed over has no segment to take
  pub passed_same : (p : Point) (k : ℕ) (best : Search) → (0 < length blocks → ModeratePoint p) → is_passed p s blocks b best.squared ≡ true
      → (i : ℕ) → from ≤ i → i < block_end (points s) from → search_turn p s k i best ≡ best
  unfolding is_passed
  passed_same p k best m e i g l =
      let t = both (is_listed blocks b) (is_far p (block_extent s blocks b) best.squared) e in
      let listed = ltb-true (4 * b + 3) (length blocks) t.0 in
      let filed = block_filed d.filed place h listed in
      let there = block_there filed listed in
      far_same p (point_at s i) (point_after s i) (block_extent s blocks b) (m (omega arith)) (segment_ends s d.fits d.within i (omega arith)) (block_within s d.within there)
      (block_covers filed i g l) k i best t.1

-- ---- the loops of an outline

-- the search over hole k, loop k + 1
pub searched_hole : (o : Outline) (p : Point) (k : ℕ) (best : Search) {s : List Float} {found : Search} → s ≡ loop_at o (k + 1)
    → found ≡ search_loop p s (k + 1) best → found ≡ search_hole o p k best
searched_hole o p k best e f =
    f ∙ ap (λ (s : List Float). search_loop p s (k + 1) best) (hole_points o k e) ∙ ap (λ (j : ℕ). search_loop p (hole_at o k) j best) (add-one k)

-- the search over the outer loop, and then over the holes
pub searched_all : (o : Outline) (p : Point) (best : Search) {s : List Float} {first found : Search} → s ≡ loop_at o 0 → first ≡ search_loop p s 0 best
    → found ≡ for_up (length o.lens) (search_hole o p) first → found ≡ search_from o p best
unfolding search_from
searched_all o p best e f g = g ∙ ap (for_up (length o.lens) (search_hole o p)) (f ∙ ap (λ (s : List Float). search_loop p s 0 best) (outer_points o e))
