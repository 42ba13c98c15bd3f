-- The growth of the spacing ends: for a box at most 4,000 wide and high, a spacing that begins at 0.004 or more has grown to 11 or more
-- before the growths that are tried run out, and no grid of that spacing has more than 250,000 nodes. Sizes are in units of the smallest
-- float above 0, of which W make 1. Assumes nothing.
use Rattle.std.specs.Prelude.{◌≡◌, refl, Bool, not, ◌||◌, cond, ℕ, zero, suc, ◌+◌, ◌-◌, ◌*◌, ◌/◌, ◌^◌, ◌≤◌, ◌<◌, T, Float}
use Rattle.std.proofs.Common.{sym, ap, ◌∙◌, subst, true≢false, le_trans, le_of_eq, le-mul_of_pos_right, mul_comm, mul_assoc, mul_left_comm, suc-mul, mul-le-mul, le_of_mul-le-mul_right, div-lt_iff_lt-mul, le_of_lt, lt_of_not-le, le-ltb, ltb-false, lit≤, leb→le}
use Rattle.std.proofs.Math.Bool.{true, false}
use Rattle.std.proofs.Math.Nat.{min-le_left, mul-le-mul_right}
use native.Mathlib.Omega.{arith}
use Rattle.std.proofs.lemmas.Bool.{not-false}
use Rattle.std.specs.Float.{nan, inf, fin, binary64}
use Rattle.std.specs.Float.Ieee.{up, down, fits, lt, le, of_bits}
use Rattle.std.specs.Float.Ieee.Fits.{down_pos}
use Rattle.laws.specs.Loop.{Turn, go, out, onwards, answer, for_up, for_up_keeps, run}
use Rattle.laws.specs.Tests.{neither}
use Rattle.numbers.specs.Float.{◌⊖◌, ◌⊗◌, ◌⊘◌, half_f, zero_f, is_finite}
use Rattle.numbers.specs.Whole.{ceil_div, ceil_count}
use Rattle.exact.specs.Units.{W, W-pos, W-big, Val, val_of, sign_of, size_of, Within}
use Rattle.exact.proofs.Constants.{zero_val}
use Rattle.exact.proofs.Order.{not_lt_val, above_of_not_le}
use Rattle.exact.proofs.Operations.{mul_law, div_law}
use Rattle.outline.specs.Accepted.{cond_zero}
use Rattle.field_direction.specs.Record.{grid_nodes, most_field_nodes}
use Rattle.field_cross.specs.declared.Bounds.{Bounds}
use Rattle.field_cross.proofs.Box.{Box}
use Rattle.field_cross.specs.Grid.{growth, grid_count, too_many_nodes, grow_turn, growths, spacing, grid_of}
use Rattle.field_cross.specs.Grid.{least_size, most_size, size_refusal}

-- ---- counts

ceil_le : (n d K : ℕ) → 0 < d → n ≤ K * d → ceil_div n d ≤ K
ceil_le n d K D h = le_of_suc ((div-lt_iff_lt-mul D).1 (below n d K (K * d) D h refl))
  where
    le_of_suc : {a b : ℕ} → a < suc b → a ≤ b
    le_of_suc h = omega arith

    below : (n d K m : ℕ) → 0 < d → n ≤ m → m ≡ K * d → n + (d - 1) < suc K * d
    below n d K m D h e = let t = suc-mul K d in omega arith

-- what is at most K has at most K cells
pub cells_le : (x : Float) (s : Bool) (a K : ℕ) → Val x s a → a ≤ K * W → ceil_count x ≤ K
unfolding ceil_count
cells_le nan s a K v h = absurd v
cells_le (inf t) s a K v h = absurd v
cells_le (fin true m e) s a K v h = omega arith
cells_le (fin false m e) s a K v h =
    le_trans (min-le_left (ceil_div (m * up e) (down e)) (2 ^ 64 - 1))
    (ceil_le (m * up e) (down e) K (down_pos e)
    (le_of_mul-le-mul_right (le_trans (le_of_eq v.1) (le_trans (mul-le-mul_right (down e) h) (le_of_eq (turn K W (down e))))) W-pos))
  where
    turn : (K w d : ℕ) → K * w * d ≡ K * d * w
    turn K w d = mul_assoc K w d ∙ ap (λ (z : ℕ). K * z) (mul_comm w d) ∙ sym (mul_assoc K d w)

-- at most 400 cells each way are few nodes
few_count : (width h : Float) → ceil_count (width ⊘ h) ≤ 400 → grid_count width h ≤ 403
unfolding grid_count
few_count width h a = omega arith

few_nodes : (width height h : Float) → ceil_count (width ⊘ h) ≤ 400 → ceil_count (height ⊘ h) ≤ 400 → too_many_nodes width height h ≡ false
unfolding too_many_nodes
few_nodes width height h a b = le-ltb _ _ (le_trans (mul-le-mul (few_count width h a) (few_count height h b)) (lit≤ tt))

-- a box at most 4,000 wide has at most 400 cells of 11 or more
few_cells : {width : Float} (h : Float) (b : ℕ) → Within 4000 width → Val h false b → 11 * W ≤ b → ceil_count (width ⊘ h) ≤ 400
few_cells {width} h b p v low =
    let a = p.size in
    let q = div_law width h p.sign false a b p.val v (positive W b W-pos low)
    (le_trans p.small (le_trans (far W b low) (mul-le-mul_right b (lit≤ {m = 364} {n = 2 ^ 400} tt)))) in
    cells_le (width ⊘ h) _ q.size 400 q.val
    (le_of_mul-le-mul_right
    (le_trans
    (quotient (q.size * b) (a * W) (b * W) b q.near.0 (scaled a b W p.small low) (le-mul_of_pos_right b W-pos))
    (le_of_eq (ap (λ (z : ℕ). 400 * z) (mul_comm b W) ∙ sym (mul_assoc 400 W b))))
    (positive W b W-pos low))
  where
    positive : (w b : ℕ) → 0 < w → 11 * w ≤ b → 0 < b
    positive w b h l = omega arith

    far : (w b : ℕ) → 11 * w ≤ b → 4000 * w ≤ 364 * b
    far w b h = omega arith

    scaled : (a b w : ℕ) → a ≤ 4000 * w → 11 * w ≤ b → 11 * (a * w) ≤ 4000 * (b * w)
    scaled a b w h l =
        let m = mul-le-mul_right w (between a b w h l) in
        let e = mul_assoc 11 a w in
        let f = mul_assoc 4000 b w in omega arith
      where
        between : (a b w : ℕ) → a ≤ 4000 * w → 11 * w ≤ b → 11 * a ≤ 4000 * b
        between a b w h l = omega arith

    quotient : (g x y z : ℕ) → 2 ^ 53 * g ≤ 2 ^ 53 * x + (x + 2 ^ 52 * z) → 11 * x ≤ 4000 * y → z ≤ y → g ≤ 400 * y
    quotient g x y z c h l = omega arith

-- ---- one growth

-- 1.25 in units
growth_units : ℕ
growth_units = 5 * 2 ^ 1072

growth_quarters : 4 * growth_units ≡ 5 * W
unfolding W growth_units
growth_quarters = refl

growth_within : Within 2 growth
unfolding W of_bits growth_units
growth_within = record { sign = false; size = growth_units; val = (refl, refl); small = lit≤ tt }

-- A spacing of the definition's loop after k growths: at least `least_grown k` millionths, never below 0.004, and at most 200.
pub least_grown : ℕ → ℕ
least_grown zero = 4000
least_grown (suc k) = least_grown k * 6 / 5

pub record GrownSpacing (k : ℕ) (h : Float) : Type 0 where
  pub size : ℕ
  pub val : Val h false size
  pub low : least_grown k * W ≤ size * 1000000
  pub floor : 4000 * W ≤ size * 1000000
  pub high : size ≤ 200 * W

-- 1.25 times as many units, rounded: between 6/5 and twice as many
record Growth (b : ℕ) (x : Float) : Type 0 where
  size : ℕ
  val : Val x false size
  more : 6 * b ≤ 5 * size
  twice : size ≤ 2 * b

lower : (n x y w : ℕ) → 2 ^ 53 * x ≤ 2 ^ 53 * n + (x + 2 ^ 52 * w) → 4 * x ≡ 5 * y → 1000000 * w ≤ y → 6 * y ≤ 5 * n
lower n x y w c e l = omega arith

upper : (n x y w : ℕ) → 2 ^ 53 * n ≤ 2 ^ 53 * x + (x + 2 ^ 52 * w) → 4 * x ≤ 5 * y → w ≤ y → n ≤ 2 * y
upper n x y w c e l = omega arith

least_one : (w y : ℕ) → 1000000 * w ≤ y → w ≤ y
least_one w y l = omega arith

many_units : (w b : ℕ) → 1000000000000 ≤ w → 4000 * w ≤ b * 1000000 → 1000000 ≤ b
many_units w b h l = omega arith

quarters : (b u : ℕ) → 4 * u ≡ 5 * W → 4 * (b * u) ≡ 5 * (b * W)
quarters b u e =
    let f : b * (4 * u) ≡ b * (5 * W) = ap (λ (z : ℕ). b * z) e in
    mul_left_comm 4 b u ∙ f ∙ mul_left_comm b 5 W

grow : (h : Float) (b : ℕ) → Val h false b → b ≤ 200 * W → 4000 * W ≤ b * 1000000 → Growth b (h ⊗ growth)
unfolding growth_within
grow h b v high floor =
    let p = mul_law {K = 200} {L = 2} (record { sign = false; size = b; val = v; small = high }) growth_within tt tt in
    let e = quarters b growth_units growth_quarters in
    let l = mul-le-mul_right W (many_units W b (le_trans (lit≤ {m = 1000000000000} {n = 10 ^ 36} tt) W-big) floor) in
    record {
      size = p.size;
      val = p.val;
      more =
          le_of_mul-le-mul_right
          (le_trans (le_of_eq (mul_assoc 6 b W))
          (le_trans (lower (p.size * W) (b * growth_units) (b * W) W p.near.1 e l) (le_of_eq (sym (mul_assoc 5 p.size W)))))
          W-pos;
      twice = le_of_mul-le-mul_right (le_trans
          (upper (p.size * W) (b * growth_units) (b * W) W p.near.0 (le_of_eq e) (least_one W (b * W) l))
          (le_of_eq (sym (mul_assoc 2 b W)))) W-pos;
    }

-- ---- the loop

module _ (width height : Float) (p : Within 4000 width) (q : Within 4000 height) where
  -- a spacing of 11 or more leaves few nodes
  large_few : (h : Float) (b : ℕ) → Val h false b → 11 * W ≤ b → too_many_nodes width height h ≡ false
  large_few h b v low = few_nodes width height h (few_cells h b p v low) (few_cells h b q v low)

  -- so one with too many nodes is below 11
  small_many : (h : Float) (b : ℕ) → Val h false b → too_many_nodes width height h ≡ true → b ≤ 11 * W
  small_many h b v many = le_of_lt (lt_of_not-le (λ (low : 11 * W ≤ b). true≢false (sym many ∙ large_few h b v low)))

  -- what the loop has: a spacing that it still grows, or one with few nodes
  abbrev GrowthHeld : ℕ → Turn Float Float → Type 0
  GrowthHeld k (go h) = GrownSpacing k h
  GrowthHeld k (out h) = GrownSpacing 0 h × (too_many_nodes width height h ≡ false)

  one_more : (k : ℕ) (h : Float) (many : Bool) → too_many_nodes width height h ≡ many → GrownSpacing k h
      → GrowthHeld (suc k) (cond many (go (h ⊗ growth)) (out h))
  unfolding least_grown
  one_more k h false few g = (record { size = g.size; val = g.val; low = g.floor; floor = g.floor; high = g.high }, few)
  one_more k h true many g =
      let b = g.size in
      let r = grow h b g.val g.high g.floor in
      record {
        size = r.size;
        val = r.val;
        low = step (least_grown k) (least_grown (suc k)) b r.size W (fifths (least_grown k)) g.low r.more;
        floor = raise b r.size W g.floor r.more;
        high = bounded b r.size W (small_many h b g.val many) r.twice;
      }
    where
      fifths : (n : ℕ) → 5 * (n * 6 / 5) ≤ 6 * n
      fifths n = omega arith

      raise : (b r w : ℕ) → 4000 * w ≤ b * 1000000 → 6 * b ≤ 5 * r → 4000 * w ≤ r * 1000000
      raise b r w h l = omega arith

      bounded : (b r w : ℕ) → b ≤ 11 * w → r ≤ 2 * b → r ≤ 200 * w
      bounded b r w h l = omega arith

      step : (l m b r w : ℕ) → 5 * m ≤ 6 * l → l * w ≤ b * 1000000 → 6 * b ≤ 5 * r → m * w ≤ r * 1000000
      step l m b r w f h t =
          let e = mul-le-mul_right w f in
          let c = mul_assoc 5 m w in
          let d = mul_assoc 6 l w in omega arith

  start_held : (h : Float) → GrownSpacing 0 h → GrowthHeld growths (for_up growths (onwards (grow_turn width height)) (go h))
  start_held h g = for_up_keeps GrowthHeld growths (onwards (grow_turn width height)) (go h) g keeps
    where
      keeps : (k : ℕ) (t : Turn Float Float) → k < growths → GrowthHeld k t → GrowthHeld (suc k) (onwards (grow_turn width height) k t)
      keeps k (go h) l g = one_more k h (too_many_nodes width height h) refl g
      keeps k (out h) l g = g

  -- after all growths the spacing is 11 or more
  last_large : (h : Float) → GrownSpacing growths h → too_many_nodes width height h ≡ false
  unfolding least_grown
  last_large h g = large_few h g.size g.val (reaches W g.size g.low)
    where
      reaches : (w b : ℕ) → least_grown growths * w ≤ b * 1000000 → 11 * w ≤ b
      reaches w b l = let m = mul-le-mul_right w (lit≤ {m = 11000000} {n = least_grown growths} tt) in omega arith

  last_held : (t : Turn Float Float) → GrowthHeld growths t
      → GrownSpacing 0 (answer (λ (h : Float). h) t) × (too_many_nodes width height (answer (λ (h : Float). h) t) ≡ false)
  unfolding least_grown
  last_held (go h) g = (record { size = g.size; val = g.val; low = g.floor; floor = g.floor; high = g.high }, last_large h g)
  last_held (out h) g = g

  -- the definition's spacing is grown from h, is at most 200, and has few nodes
  pub spacing_held : (h : Float) → GrownSpacing 0 h
      → GrownSpacing 0 (spacing width height h) × (too_many_nodes width height (spacing width height h) ≡ false)
  unfolding spacing run
  spacing_held h g = last_held (for_up growths (onwards (grow_turn width height)) (go h)) (start_held h g)

-- ---- where it begins: half of a size from 0.01 to 100

half_units : ℕ
half_units = 2 ^ 1073

half_within : Within 1 half_f
unfolding W of_bits half_units
half_within = record { sign = false; size = half_units; val = (refl, refl); small = lit≤ tt }

half_twice : 2 * half_units ≡ W
unfolding W half_units
half_twice = refl

-- 0.01 is the float 5764607523034235 / 2 ^ 59
least_units : ℕ
least_units = 5764607523034235 * 2 ^ 1015

least_val : Val least_size false least_units
unfolding W of_bits least_units
least_val = (refl, refl)

least_large : 99 * W ≤ 10000 * least_units
unfolding W least_units
least_large = lit≤ tt

most_val : Val most_size false (100 * W)
unfolding W of_bits
most_val = (refl, refl)

-- half as many units, rounded
half_lower : (n x y w : ℕ) → 2 ^ 53 * x ≤ 2 ^ 53 * n + (x + 2 ^ 52 * w) → 2 * x ≡ y → 1000000 * w ≤ y → 10 * y ≤ 21 * n
half_lower n x y w c e l = omega arith

half_upper : (n x y w : ℕ) → 2 ^ 53 * n ≤ 2 ^ 53 * x + (x + 2 ^ 52 * w) → 2 * x ≡ y → w ≤ y → n ≤ 2 * y
half_upper n x y w c e l = omega arith

half_floor : (a n w : ℕ) → 99 * w ≤ 10000 * a → 10 * a ≤ 21 * n → 4000 * w ≤ n * 1000000
half_floor a n w h l = omega arith

half_high : (a n w : ℕ) → a ≤ 100 * w → n ≤ 2 * a → n ≤ 200 * w
half_high a n w h l = omega arith

pub size_units : (w a : ℕ) → 1000000000000 ≤ w → 99 * w ≤ 10000 * a → 1000000 ≤ a
size_units w a h l = omega arith

-- a size that refusals 5 and 6 let pass: from 0.0099 to 100
pub record Sized (size : Float) : Type 0 where
  pub units : ℕ
  pub val : Val size false units
  pub low : 99 * W ≤ 10000 * units
  pub high : units ≤ 100 * W

pub sized : (size : Float) → T (fits binary64 size) → size_refusal size ≡ 0 → Sized size
unfolding size_refusal
sized size held e =
    let five = cond_zero (not (is_finite size) || le size zero_f) 4 (cond (lt size least_size || lt most_size size) 6 0) e in
    let six = neither (lt size least_size) (lt most_size size) (cond_zero (lt size least_size || lt most_size size) 5 0 five.1).0 in
    let whole = neither (not (is_finite size)) (le size zero_f) five.0 in
    let v = val_of size (rw (not-false (is_finite size) whole.0) tt) held in
    let plus = above_of_not_le size zero_f (sign_of size) (size_of size) 0 v zero_val (rw whole.1 tt) in
    let w : Val size false (size_of size) = subst (λ (s : Bool). Val size s (size_of size)) plus.0 v in
    let least = leb→le least_units (size_of size) ((not_lt_val size least_size false false (size_of size) least_units w least_val).0 (rw six.0 tt)).le in
    record {
      units = size_of size;
      val = w;
      low = over W least_units (size_of size) least_large least;
      high = leb→le (size_of size) (100 * W) ((not_lt_val most_size size false false (100 * W) (size_of size) most_val w).0 (rw six.1 tt)).le;
    }
  where
    over : (w u a : ℕ) → 99 * w ≤ 10000 * u → u ≤ a → 99 * w ≤ 10000 * a
    over w u a h l = omega arith

pub start_size : (size : Float) → T (fits binary64 size) → size_refusal size ≡ 0 → GrownSpacing 0 (half_f ⊗ size)
unfolding half_within least_grown
start_size size held e =
    let from = sized size held e in
    let a = from.units in
    let p = mul_law {K = 1} {L = 100} half_within (record { sign = false; size = a; val = from.val; small = from.high }) tt tt in
    let x = half_units * a in
    let e : 2 * x ≡ a * W = sym (mul_assoc 2 half_units a) ∙ ap (λ (z : ℕ). z * a) half_twice ∙ mul_comm W a in
    let l = mul-le-mul_right W (size_units W a (le_trans (lit≤ {m = 1000000000000} {n = 10 ^ 36} tt) W-big) from.low) in
    let more = le_of_mul-le-mul_right (le_trans (le_of_eq (mul_assoc 10 a W))
    (le_trans (half_lower (p.size * W) x (a * W) W p.near.1 e l) (le_of_eq (sym (mul_assoc 21 p.size W))))) W-pos in
    let twice = le_of_mul-le-mul_right (le_trans (half_upper (p.size * W) x (a * W) W p.near.0 e (least_one W (a * W) l))
    (le_of_eq (sym (mul_assoc 2 a W)))) W-pos in
    let lower = half_floor a p.size W from.low more in
    record { size = p.size; val = p.val; low = lower; floor = lower; high = half_high a p.size W from.high twice }

-- ---- the grid of an outline and a size that are not refused has at most 250,000 nodes

pub few_enough : (b : Bounds) (size : Float) → Box b → T (fits binary64 size) → size_refusal size ≡ 0
    → grid_nodes (grid_of b size) ≤ most_field_nodes
unfolding grid_of too_many_nodes
few_enough b size x held e =
    let r = spacing_held (b.xmax ⊖ b.xmin) (b.ymax ⊖ b.ymin) x.width x.height (half_f ⊗ size) (start_size size held e) in
    ltb-false _ _ r.1
