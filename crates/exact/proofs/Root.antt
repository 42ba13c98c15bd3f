-- The square root of doubles in units: how near it is to the exact root, and that it keeps the order. Both follow from what crate numbers
-- proves: the root is the nearest double. Assumes nothing.
use Rattle.std.specs.Prelude.{◌≡◌, refl, Bool, true, false, not, ℕ, zero, suc, ◌+◌, ◌*◌, ◌≤◌, ◌<◌, ℤ, pos, T, ◌≤ℤ◌, Float}
use Rattle.std.proofs.Common.{sym, ap, ◌∙◌, zero-le, zero-lt-suc, add_comm, zero-mul, mul-le-mul_left, mul-le-mul_right, lt_of_lt_of_le, lt_irrefl, arith, ltb→lt, lt→ltb, leb→le, le→leb, T_not}
use Rattle.std.proofs.Math.Dec.{not_T}
use Rattle.std.specs.Float.{nan, inf, fin, binary64}
use Rattle.std.specs.Float.Ieee.{up, down, fits, lt}
use Rattle.std.specs.Float.Ieee.Positive.{value_pos}
use Rattle.numbers.specs.Root.{root}
use Rattle.numbers.specs.Float.{sqrt, is_finite}
use Rattle.numbers.specs.Nearest as N
use Rattle.exact.specs.Units.{W, W-pos, Val, signed, size_of, val_of}
use Rattle.exact.proofs.Order.{lt_val, not_lt_val}

-- ---- the error

-- y is near the root of n units: it is L units, and L * L is n * W within a factor, crudely
pub record RootOf (n : ℕ) (y : Float) : Type 0 where
  pub L : ℕ
  pub val : Val y false L
  pub lower : 9999 * (n * W) ≤ 10000 * (L * L)
  pub upper : L * L ≤ 2 * (n * W)

pub root_law : (x : Float) → T (fits binary64 x) → (n : ℕ) → Val x false n → RootOf n (sqrt x)
unfolding W
root_law x f n v = let r = N.root_units_law x f n v in record { L = r.L; val = r.val; lower = r.lower; upper = r.upper }

-- ---- the order

not_lt_nan : (z : Float) → T (not (lt z nan))
unfolding lt
not_lt_nan nan = tt
not_lt_nan (inf s) = tt
not_lt_nan (fin s m e) = tt

not_inf_lt : (z : Float) → T (not (lt (inf false) z))
unfolding lt
not_inf_lt nan = tt
not_inf_lt (inf s) = tt
not_inf_lt (fin s m e) = tt

-- two doubles above 0, of n and k units
roots_mono : (x y : Float) (n k : ℕ) → T (fits binary64 x) → T (fits binary64 y) → Val x false n → Val y false k → 0 < n → n ≤ k
    → T (not (lt (root y) (root x)))
unfolding W
roots_mono x y n k fx fy vx vy P h = not_T (lt (root y) (root x)) (λ t. clash (below_both (smaller t)))
  where
    X : N.NearestFloat n (root x)
    X = N.nearest_root_lem x n fx vx P

    Y : N.NearestFloat k (root y)
    Y = N.nearest_root_lem y k fy vy (lt_of_lt_of_le P h)

    smaller : T (lt (root y) (root x)) → Y.r < X.r
    smaller t = ltb→lt Y.r X.r ((lt_val (root y) (root x) false false Y.r X.r Y.value X.value).0 t).lt

    -- the exact root of y would be below the middle of the two roots, and that of x above it
    below_both : Y.r < X.r → 4 * (k * W) < 4 * (n * W)
    below_both l =
        let a : (X.r + Y.r) * (X.r + Y.r) < 4 * (n * W) = X.below (root y) Y.r Y.held Y.value l in
        let b : 4 * (k * W) < (Y.r + X.r) * (Y.r + X.r) = Y.above (root x) X.r X.held X.value l in
        let e : (Y.r + X.r) * (Y.r + X.r) ≡ (X.r + Y.r) * (X.r + Y.r) = ap (λ (z : ℕ). z * z) (add_comm Y.r X.r) in
        between (4 * (k * W)) (4 * (n * W)) ((Y.r + X.r) * (Y.r + X.r)) ((X.r + Y.r) * (X.r + Y.r)) b e a
      where
        between : (p q u v : ℕ) → p < u → u ≡ v → v < q → p < q
        between p q u v a e b = omega arith

    clash : 4 * (k * W) < 4 * (n * W) → ⊥
    clash l = lt_irrefl (4 * (k * W)) (lt_of_lt_of_le l (mul-le-mul_left 4 (mul-le-mul_right W h)))

-- a zero is no units, and a finite double with another significand is some
signed_zero_val : (s : Bool) (e : ℤ) → Val (fin s zero e) s 0
signed_zero_val s e = (refl, ap (λ (z : ℕ). z * W) (zero-mul (up e)) ∙ zero-mul W ∙ sym (zero-mul (down e)))

some_val : (m : ℕ) (e : ℤ) → T (fits binary64 (fin false (suc m) e)) → Val (fin false (suc m) e) false (size_of (fin false (suc m) e))
unfolding is_finite
some_val m e f = val_of (fin false (suc m) e) tt f

some_pos : (m : ℕ) (e : ℤ) → T (fits binary64 (fin false (suc m) e)) → 0 < size_of (fin false (suc m) e)
some_pos m e f = value_pos (fin false (suc m) e) (size_of (fin false (suc m) e)) W (lt→ltb 0 (suc m) (zero-lt-suc m)) W-pos (some_val m e f)

above_zero : (s : Bool) (e : ℤ) (n : ℕ) (d : ℤ) → T (fits binary64 (fin false (suc n) d)) → T (not (lt (root (fin false (suc n) d)) (fin s zero e)))
unfolding W
above_zero s e n d f =
    let Y = N.nearest_root_lem (fin false (suc n) d) (size_of (fin false (suc n) d)) f (some_val n d f) (some_pos n d f) in
    (not_lt_val (root (fin false (suc n) d)) (fin s zero e) false s Y.r 0 Y.value (signed_zero_val s e)).1 (least s Y.r)
  where
    least : (s : Bool) (r : ℕ) → signed s 0 ≤ℤ pos r
    least true r = record { le = le→leb 0 r zero-le }
    least false r = record { le = le→leb 0 r zero-le }

not_below_zero : (t : Bool) (d : ℤ) (m : ℕ) (e : ℤ) → T (fits binary64 (fin false (suc m) e)) → T (not (lt (fin t zero d) (fin false (suc m) e))) → ⊥
not_below_zero t d m e f h =
    let n = size_of (fin false (suc m) e) in
    go t ((not_lt_val (fin t zero d) (fin false (suc m) e) t false 0 n (signed_zero_val t d) (some_val m e f)).0 h) (some_pos m e f)
  where
    none : (n : ℕ) → n ≤ 0 → 0 < n → ⊥
    none n h k = omega arith

    go : (t : Bool) {n : ℕ} → pos n ≤ℤ signed t 0 → 0 < n → ⊥
    go true {n} l k = none n (leb→le n 0 l.le) k
    go false {n} l k = none n (leb→le n 0 l.le) k

both_above : (m : ℕ) (e : ℤ) (n : ℕ) (d : ℤ) → T (fits binary64 (fin false (suc m) e)) → T (fits binary64 (fin false (suc n) d))
    → T (not (lt (fin false (suc n) d) (fin false (suc m) e)))
    → T (not (lt (root (fin false (suc n) d)) (root (fin false (suc m) e))))
both_above m e n d fx fy h =
    let x = fin false (suc m) e in
    let y = fin false (suc n) d in
    let vx = some_val m e fx in
    let vy = some_val n d fy in
    let l = leb→le (size_of x) (size_of y) ((not_lt_val y x false false (size_of y) (size_of x) vy vx).0 h).le in
    roots_mono x y (size_of x) (size_of y) fx fy vx vy (some_pos m e fx) l

-- The rounded root keeps the order: where y is not below x, the root of y is not below that of x. It holds of every pair of doubles, since the
-- root of a NaN or of a negative number is a NaN, which is below nothing and above nothing.
pub root_mono : (x y : Float) → T (fits binary64 x) → T (fits binary64 y) → T (not (lt y x)) → T (not (lt (sqrt y) (sqrt x)))
unfolding root lt is_finite
root_mono nan y fx fy h = not_lt_nan (root y)
root_mono (inf true) y fx fy h = not_lt_nan (root y)
root_mono (fin true (suc m) e) y fx fy h = not_lt_nan (root y)
root_mono (inf false) nan fx fy h = tt
root_mono (inf false) (inf true) fx fy h = tt
root_mono (inf false) (inf false) fx fy h = tt
root_mono (inf false) (fin t n d) fx fy h = absurd h
root_mono (fin s zero e) nan fx fy h = tt
root_mono (fin s zero e) (inf true) fx fy h = tt
root_mono (fin s zero e) (inf false) fx fy h = tt
root_mono (fin s zero e) (fin t zero d) fx fy h = h
root_mono (fin s zero e) (fin true (suc n) d) fx fy h = tt
root_mono (fin s zero e) (fin false (suc n) d) fx fy h = above_zero s e n d fy
root_mono (fin false (suc m) e) nan fx fy h = tt
root_mono (fin false (suc m) e) (inf true) fx fy h = tt
root_mono (fin false (suc m) e) (inf false) fx fy h = not_inf_lt (root (fin false (suc m) e))
root_mono (fin false (suc m) e) (fin true (suc n) d) fx fy h = tt
root_mono (fin false (suc m) e) (fin t zero d) fx fy h = absurd (not_below_zero t d m e fx h)
root_mono (fin false (suc m) e) (fin false (suc n) d) fx fy h = both_above m e n d fx fy h

-- and so a root that is below another is that of a number below
pub root_lt : (x y : Float) → T (fits binary64 x) → T (fits binary64 y) → T (lt (sqrt y) (sqrt x)) → T (lt y x)
root_lt x y fx fy h = go (lt y x) (root_mono x y fx fy)
  where
    go : (b : Bool) → (T (not b) → T (not (lt (sqrt y) (sqrt x)))) → T b
    go true k = tt
    go false k = T_not (lt (sqrt y) (sqrt x)) (k tt) h
