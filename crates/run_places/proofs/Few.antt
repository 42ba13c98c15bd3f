-- An outline and a size that refusals 1 to 7 let pass are sampled into at most 2,400,000,000 nodes: a segment is at most 5,661 long, crudely, and a part
-- 0.0099 or more, so that it has at most 571,900 parts. Sizes are in units of the smallest float above 0, of which W make 1. Assumes nothing.
use Rattle.std.specs.Prelude.{Bool, false, List, ◌≡◌, refl, T, Float, length, take}
use Rattle.std.proofs.Common.{sym, ap, ◌∙◌, subst, le_trans, le_of_eq, le-mul_of_pos_right, mul_comm, mul_assoc, mul_left_comm, mul-le-mul, mul-le-mul_left, mul-le-mul_right, le_of_mul-le-mul_right, lit≤}
use Prim.Native.Nat.{ℕ, zero, suc, ◌+◌, ◌*◌, ◌/◌, ◌%◌, ◌^◌, ◌≤◌, ◌<◌, min}
use Rattle.std.proofs.Math.Nat.{mul-mul-mul_comm}
use Rattle.std.proofs.Math.Numerals.{add-one}
use native.Mathlib.Omega.{arith}
use Rattle.std.specs.Float.{binary64}
use Rattle.std.specs.Float.Ieee.{fits, unlike, of_bits}
use Rattle.std.specs.Float.Ieee.Fits.{add-fits}
use Rattle.std.proofs.Math.ListN.{drop, length-take}
use Rattle.laws.specs.Loop.{sum_up}
use Rattle.laws.proofs.Sums.{sum_zero, sum_suc}
use Rattle.numbers.specs.Float.{◌⊕◌, ◌⊖◌, ◌⊗◌, ◌⊘◌}
use Rattle.numbers.specs.Whole.{ceil_count}
use Rattle.exact.specs.Units.{W, W-pos, W-big, Val, unlike_self, Within}
use Rattle.exact.proofs.Operations.{mul_law, product_within, sub_law, add_law_pos, div_law}
use Rattle.exact.proofs.Root.{root_law}
use Rattle.exact.proofs.SineBounds.{le_of_sq, rel, rel_and}
use Rattle.exact.specs.Corner.{norm}
use Rattle.outline.specs.declared.Point.{Point}
use Rattle.outline.specs.Outline.{Outline, hole_length, hole_start, hole_at, loop_at, points, point_at, point_after, most_points, outline_refusal}
use Rattle.outline.proofs.OutlineBase.{start_first, start_next, start_over, shaped}
use Rattle.outline.specs.Accepted.{OutlineFits, PointWithin, Accepted, loop_within, after_within}
use Rattle.outline.proofs.Accepted.{accepted}
use Rattle.geometry.specs.Plane.{distance}
use Rattle.field_cross.specs.Grid.{size_refusal}
use Rattle.field_cross.proofs.SpacingLaws.{cells_le, Sized, sized, size_units}
use Rattle.front.specs.Sampling.{stretch, parts_of, parts, loop_parts, loop_nodes, sampled_count}

-- ---- the length of a segment

-- x is not negative, and at most K
record UpTo (K : ℕ) (x : Float) : Type 0 where
  units : ℕ
  val : Val x false units
  small : units ≤ K * W

apart : {x y : Float} → Within 1000 x → Within 1000 y → Within 2001 (x ⊖ y)
apart p q =
    let s = sub_law p q tt tt in
    let near = (rel s.size s.exact s.near).0 in
    record { sign = s.sign; size = s.size; val = s.val; small = go p.size q.size s.exact s.size W near s.small p.small q.small }
  where
    go : (a b x n w : ℕ) → 10000 * n ≤ 10001 * x → x ≤ a + b → a ≤ 1000 * w → b ≤ 1000 * w → n ≤ 2001 * w
    go a b x n w h l m k = omega arith

square_small : {x : Float} → Within 2001 x → UpTo 8008003 (x ⊗ x)
square_small {x} p =
    let q = mul_law p p tt tt in
    let t = product_within (2001 * 2001) q (le_trans (mul-le-mul p.small p.small) (le_of_eq (mul-mul-mul_comm 2001 W 2001 W))) in
    record { units = q.size; val = subst (λ (s : Bool). Val (x ⊗ x) s q.size) (unlike_self p.sign) q.val; small = t.small }

norm_small : {x y : Float} → Within 2001 x → Within 2001 y → UpTo 5661 (norm x y)
unfolding norm
norm_small {x} {y} p q =
    let a = square_small p in
    let b = square_small q in
    let s = add_law_pos (x ⊗ x) (y ⊗ y) a.units b.units a.val b.val (moderate a.units a.small) (moderate b.units b.small) in
    let r = root_law (x ⊗ x ⊕ y ⊗ y) (add-fits binary64 (x ⊗ x) (y ⊗ y)) s.size s.val in
    let few = sum a.units b.units s.size W (rel s.size (a.units + b.units) s.near).0 a.small b.small in
    record { units = r.L; val = r.val; small = le_of_sq r.L (5661 * W) (le_trans r.upper (squares s.size W few)) }
  where
    moderate : (n : ℕ) → n ≤ 8008003 * W → n ≤ 2 ^ 200 * W
    moderate n h = le_trans h (mul-le-mul_right W (lit≤ {m = 8008003} {n = 2 ^ 200} tt))

    sum : (a b n w : ℕ) → 10000 * n ≤ 10001 * (a + b) → a ≤ 8008003 * w → b ≤ 8008003 * w → n ≤ 16018000 * w
    sum a b n w h l m = omega arith

    squares : (n w : ℕ) → n ≤ 16018000 * w → 2 * (n * w) ≤ 5661 * w * (5661 * w)
    squares n w h =
        le_trans (twice (n * w) (w * w) (le_trans (mul-le-mul_right w h) (le_of_eq (mul_assoc 16018000 w w)))) (le_of_eq (sym (mul-mul-mul_comm 5661 w 5661 w)))
      where
        twice : (x y : ℕ) → x ≤ 16018000 * y → 2 * x ≤ 5661 * 5661 * y
        twice x y h = omega arith

-- ---- the parts of a segment

-- 1.05 is the float 4728779608739021 / 2 ^ 52
stretch_units : ℕ
stretch_units = 4728779608739021 * 2 ^ 1022

stretch_within : Within 2 stretch
unfolding W of_bits stretch_units
stretch_within = record { sign = false; size = stretch_units; val = (refl, refl); small = lit≤ tt }

stretch_large : 26 * W ≤ 25 * stretch_units
unfolding W stretch_units
stretch_large = lit≤ tt

-- how long a part may be: no less than the size, and so at least 0.0099
record Cut (size : Float) : Type 0 where
  units : ℕ
  val : Val (stretch ⊗ size) false units
  low : 99 * W ≤ 10000 * units

cut_long : (size : Float) → Sized size → Cut size
unfolding stretch_within
cut_long size z =
    let a = z.units in
    let p = mul_law {K = 2} {L = 100} stretch_within (record { sign = false; size = a; val = z.val; small = z.high }) tt tt in
    let many = size_units W a (le_trans (lit≤ {m = 1000000000000} {n = 10 ^ 36} tt) W-big) z.low in
    let near = (rel_and (p.size * W) (stretch_units * a) W p.near).1 in
    let longer = longer_by a stretch_units W stretch_large in
    let more = le_of_mul-le-mul_right (over (p.size * W) (stretch_units * a) (a * W) W near longer (mul-le-mul_right W many)) W-pos in
    record { units = p.size; val = p.val; low = through W a p.size z.low more }
  where
    longer_by : (a u w : ℕ) → 26 * w ≤ 25 * u → 26 * (a * w) ≤ 25 * (u * a)
    longer_by a u w h =
        le_trans (le_of_eq (mul_left_comm 26 a w))
        (le_trans (mul-le-mul_left a h) (le_of_eq (sym (mul_left_comm 25 a u) ∙ ap (λ (z : ℕ). 25 * z) (mul_comm a u))))

    over : (g x y w : ℕ) → 9999 * x ≤ 10000 * g + 10000 * w → 26 * y ≤ 25 * x → 1000000 * w ≤ y → y ≤ g
    over g x y w h l m = omega arith

    through : (w a p : ℕ) → 99 * w ≤ 10000 * a → a ≤ p → 99 * w ≤ 10000 * p
    through w a p h l = omega arith

few_cuts : {length : Float} (size : Float) → UpTo 5661 length → Sized size → ceil_count (length ⊘ (stretch ⊗ size)) ≤ 571900
few_cuts {length} size l z =
    let p = cut_long size z in
    let a = l.units in
    let b = p.units in
    let some = positive W b W-pos p.low in
    let q = div_law length (stretch ⊗ size) false false a b l.val p.val some
    (le_trans (far a b W l.small p.low) (mul-le-mul_right b (lit≤ {m = 571900} {n = 2 ^ 400} tt))) in
    let near = (rel_and (q.size * b) (a * W) b q.near).0 in
    cells_le (length ⊘ (stretch ⊗ size)) _ q.size 571900 q.val
    (le_of_mul-le-mul_right
    (le_trans (quotient (q.size * b) (a * W) (b * W) b near (scaled a b W l.small p.low) (le-mul_of_pos_right b W-pos))
    (le_of_eq (ap (λ (z : ℕ). 571900 * z) (mul_comm b W) ∙ sym (mul_assoc 571900 W b))))
    some)
  where
    positive : (w b : ℕ) → 0 < w → 99 * w ≤ 10000 * b → 0 < b
    positive w b h l = omega arith

    far : (a b w : ℕ) → a ≤ 5661 * w → 99 * w ≤ 10000 * b → a ≤ 571900 * b
    far a b w h l = omega arith

    scaled : (a b w : ℕ) → a ≤ 5661 * w → 99 * w ≤ 10000 * b → 99 * (a * w) ≤ 56610000 * (b * w)
    scaled a b w h l =
        le_trans (le_of_eq (sym (mul_assoc 99 a w)))
        (le_trans (mul-le-mul_right w (between a b w h l)) (le_of_eq (mul_assoc 56610000 b w)))
      where
        between : (a b w : ℕ) → a ≤ 5661 * w → 99 * w ≤ 10000 * b → 99 * a ≤ 56610000 * b
        between a b w h l = omega arith

    quotient : (g x y z : ℕ) → 10000 * g ≤ 10001 * x + 10000 * z → 99 * x ≤ 56610000 * y → z ≤ y → g ≤ 571900 * y
    quotient g x y z h l m = omega arith

-- ---- all of them

sum_below : (f : ℕ → ℕ) (K n : ℕ) → ((i : ℕ) → i < n → f i ≤ K) → sum_up n f ≤ n * K
sum_below f K zero h = omega (arith, sum_zero f)
sum_below f K (suc n) h = omega (arith, sum_suc f n, sum_below f K n (λ i l. h i (omega arith)), h n (omega arith))

module _ (o : Outline) (size : Float) (fits : OutlineFits o) (taken : outline_refusal o ≡ 0) (z : Sized size) where
  parts_few : (k i : ℕ) → k ≤ length o.lens → i < points (loop_at o k) → parts size (loop_at o k) i ≤ 571900
  unfolding parts parts_of distance
  parts_few k i h l =
      let w = loop_within o fits (accepted o taken) k h in
      let a = w i l in
      let b = after_within (loop_at o k) w i l in
      omega (arith, few_cuts size (norm_small (apart a.x b.x) (apart a.y b.y)) z)

  loop_few : (k : ℕ) → k ≤ length o.lens → loop_nodes o size k ≤ 571901 * points (loop_at o k)
  unfolding loop_nodes loop_parts
  loop_few k h =
      go (loop_parts size (loop_at o k)) (points (loop_at o k))
      (sum_below (parts size (loop_at o k)) 571900 (points (loop_at o k)) (λ i l. parts_few k i h l))
    where
      go : (n p : ℕ) → n ≤ p * 571900 → n + n % 2 ≤ 571901 * p
      go n p h = omega arith

  -- the outer loop and the first n holes
  loops_few : (n : ℕ) → n ≤ length o.lens → sum_up (suc n) (loop_nodes o size) ≤ 571901 * (points o.outer + hole_start o.lens n)
  unfolding loop_at hole_at
  loops_few zero h = omega (arith, sum_suc (loop_nodes o size) 0, sum_zero (loop_nodes o size), loop_few 0 h, start_first o.lens)
  loops_few (suc n) h =
      let m = hole_length o.lens n in
      let part = drop (2 * hole_start o.lens n) o.holes in
      omega (
        arith,
        sum_suc (loop_nodes o size) (suc n),
        loops_few n (omega arith),
        loop_few (suc n) h,
        length-take (2 * m) part,
        rw add-one at (start_next o.lens n),
      )

  pub sampled_few : sampled_count o size ≤ 2400000000
  unfolding sampled_count
  sampled_few =
      let s = shaped o (accepted o taken).shape in
      omega (arith, loops_few (length o.lens) (omega arith), s.sum, s.few)
