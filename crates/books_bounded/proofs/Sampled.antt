-- The points sampled are bounded: a cut of a segment whose ends are within 1,000, `cut_bounded`, so every cut of an accepted outline,
-- `sample_bounded`; and the point halfway between two bounded ones, `mean_bounded`. Assumes nothing.
use Rattle.std.specs.Prelude.{◌≡◌, refl, true, false, List, ℕ, ◌+◌, ◌*◌, ◌^◌, ◌≤◌, ◌<◌, length, Float}
use Rattle.std.proofs.Common.{sym, subst, inl, le_trans, le_of_eq, le_of_lt, lt_of_le_of_lt, mul-one, mul_assoc, mul-pos, mul-le-mul_right, mul-lt-mul_of_pos_right, arith, lit<}
use Rattle.std.specs.Float.{nan, inf, fin, binary64}
use Rattle.std.specs.Float.Ieee.{round, of_int}
use Rattle.std.specs.Float.Ieee.Fits.{add-fits, div-fits}
use Rattle.numbers.specs.Float.{◌⊕◌, ◌⊗◌, ◌⊘◌, two_f, to_float}
use Rattle.numbers.specs.Whole.{ceil_count}
use Rattle.exact.proofs.Rounding.{Close, rounded, round_close_whole, close_cancel}
use Rattle.exact.specs.Units.{W, W-pos, Val}
use Rattle.exact.proofs.Operations.{round_val}
use Rattle.exact.proofs.Blend.{Millionth, millionth, Fraction, fraction, blend}
use Rattle.exact.proofs.Monotone.{mean_within}
use Rattle.outline.specs.declared.Point.{Point}
use Rattle.outline.specs.Outline.{Outline, loop_at, points, point, point_at, point_after, outline_refusal}
use Rattle.outline.specs.Accepted.{OutlineFits, PointWithin, loop_within, after_within}
use Rattle.outline.proofs.Accepted.{accepted}
use Rattle.geometry.specs.Plane.{distance}
use Rattle.front.specs.Sampling.{stretch, cut, parts_of, parts}
use Rattle.books_bounded.proofs.Point.{Bounded}

-- ---- a count as a double

record Count (k : ℕ) : Type 0 where
  size : ℕ
  val : Val (to_float k) false size
  near : Millionth size (k * W)

count : (k : ℕ) → k < 2 ^ 64 → Count k
unfolding of_int
count k h =
    let near = millionth (rounded (k * W) 1) (k * W) close in
    record { size = rounded (k * W) 1; val = round_val false k 1 (room near (mul-le-mul_right W (le_of_lt h))); near = near }
  where
    close : Close (rounded (k * W) 1) (k * W) (k * W)
    close =
        subst (λ (n : ℕ). Close (rounded n 1) (k * W) (k * W)) (mul-one (k * W))
        (close_cancel (rounded (k * W * 1) 1) (k * W) (k * W) 1 (lit< tt) (round_close_whole (k * W) 1 (lit< tt)))

    twice : {n m : ℕ} → Millionth n (k * W) → k * W ≤ m → n ≤ 2 * m
    twice r h = omega arith

    room : {n : ℕ} → Millionth n (k * W) → k * W ≤ 2 ^ 64 * W → n < 2 ^ 1024 * W
    room r h =
        lt_of_le_of_lt (le_trans (twice r h) (le_of_eq (sym (mul_assoc 2 (2 ^ 64) W)))) (mul-lt-mul_of_pos_right (lit< tt) W-pos)

-- k / n
part : (n k : ℕ) → n < 2 ^ 64 → k < n → Fraction (to_float k ⊘ to_float n)
part n k h l =
    let a = count k (omega arith) in
    let b = count n h in
    fraction (to_float k) (to_float n) false false (k * W) (n * W) a.size b.size a.val b.val a.near b.near
    (record { less = mul-le-mul_right W (le_of_lt l); some = mul-pos (omega arith) W-pos; same = inl refl })

-- the parts of a segment are fewer than 2 ^ 64
count_small : (x : Float) → ceil_count x < 2 ^ 64
unfolding ceil_count
count_small nan = lit< tt
count_small (inf true) = lit< tt
count_small (inf false) = lit< tt
count_small (fin true m e) = lit< tt
count_small (fin false m e) = omega arith

pub parts_small : (size : Float) (s : List Float) (i : ℕ) → parts size s i < 2 ^ 64
unfolding parts parts_of
parts_small size s i = omega (arith, count_small (distance (point_at s i) (point_after s i) ⊘ (stretch ⊗ size)))

-- ---- the points

-- point k of n on a segment whose ends are within 1,000
pub cut_bounded : (a b : Point) (n k : ℕ) → PointWithin 1000 1000 a → PointWithin 1000 1000 b → n < 2 ^ 64 → k < n → Bounded (cut a b n k)
unfolding cut
cut_bounded a b n k A B h l =
    let t = part n k h l in
    record {
      fits = record { x = add-fits binary64 a.x _; y = add-fits binary64 a.y _ };
      within = record { x = blend _ a.x b.x t A.x B.x; y = blend _ a.y b.y t A.y B.y };
    }

-- the point midway between two bounded ones
pub mean_bounded : (a b : Point) → Bounded a → Bounded b → Bounded (point ((a.x ⊕ b.x) ⊘ two_f) ((a.y ⊕ b.y) ⊘ two_f))
mean_bounded a b A B = record {
  fits = record { x = div-fits binary64 (a.x ⊕ b.x) two_f; y = div-fits binary64 (a.y ⊕ b.y) two_f };
  within = record { x = mean_within A.within.x B.within.x; y = mean_within A.within.y B.within.y };
}

-- point j of segment i of loop k, of an accepted outline and any size
pub sample_bounded : (o : Outline) (size : Float) → OutlineFits o → outline_refusal o ≡ 0
    → (k i j : ℕ) → k ≤ length o.lens → i < points (loop_at o k) → j < parts size (loop_at o k) i
    → Bounded (cut (point_at (loop_at o k) i) (point_after (loop_at o k) i) (parts size (loop_at o k) i) j)
sample_bounded o size fits taken k i j h l m =
    let w = loop_within o fits (accepted o taken) k h in
    cut_bounded _ _ _ j (w i l) (after_within (loop_at o k) w i l) (parts_small size (loop_at o k) i) m
