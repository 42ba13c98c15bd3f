-- A corner whose cross product is finite and not above 0 fails `convex_ccw`, whatever the lengths of its sides: their product is above 0, and may
-- overflow, but is no NaN, so the sine isn't above 0. (Where the cross product is minus infinity the sine may be a NaN, which passes.)
-- The definitions, then the laws. Assumes nothing.
use Rattle.std.specs.Prelude.{◌≡◌, refl, Bool, true, false, not, ◌&&◌, ◌||◌, ℕ, zero, suc, ◌+◌, ◌*◌, ◌<◌, ℤ, pos, negsuc, T, ltb, Float}
use Rattle.std.proofs.Common.{sym, ap, ◌∙◌, subst, true≢false, zero-mul, mul-one, mul-pos, zero-lt-suc, arith, lt→ltb, lit<}
use Rattle.std.proofs.Math.Dec.{eqb-suc-zero}
use Rattle.std.specs.Float.{nan, inf, fin, binary64}
use Rattle.std.specs.Float.Ieee.{up, down, round, mul, div, of_bits, level, le}
use Rattle.std.specs.Float.Ieee.Fits.{up_pos, down_pos, and_l, and_r}
use Rattle.std.specs.Float.Ieee.Scale.{round_same}
use Rattle.std.specs.Float.Ieee.Positive.{positive, above, above_of_le, mul_mono}
use Rattle.numbers.specs.Float.{◌⊕◌, ◌⊖◌, ◌⊗◌, ◌⊘◌, zero_f, tolerance, is_finite}
use Rattle.exact.specs.Corner.{sin20}
use Rattle.exact.specs.Corner.{norm, corner_ok}
use Rattle.outline.specs.declared.Point.{Point}
use Rattle.geometry.specs.declared.Corners.{Corners}
use Rattle.geometry.specs.Plane.{convex_at}
use Rattle.geometry.specs.SignLaws.{HasSign, round_sign, square_sign, sum_sign, root_sign, le_of_not, finite_difference, finite_product}

-- ---- definitions

-- the cross product of the step from a to b and that from b to c
abbrev pub turn : Point → Point → Point → Float
turn a b c = (b.x ⊖ a.x) ⊗ (c.y ⊖ b.y) ⊖ (b.y ⊖ a.y) ⊗ (c.x ⊖ b.x)

-- it is finite and not above 0
unfoldable pub no_left_turn : Point → Point → Point → Bool
no_left_turn a b c = le (turn a b c) zero_f && is_finite (turn a b c)

-- it is so at a corner of the quad
unfoldable pub lacks_left_turn : Corners → Bool
lacks_left_turn p =
    no_left_turn p.c p.a p.b || (no_left_turn p.a p.b p.d || (no_left_turn p.b p.d p.c || no_left_turn p.d p.c p.a))

-- each corner passes the test of `convex_ccw`
unfoldable pub corners_turn : Corners → Bool
corners_turn p = convex_at p.c p.a p.b && (convex_at p.a p.b p.d && (convex_at p.b p.d p.c && convex_at p.d p.c p.a))

-- ---- the product of two lengths above 1e-12 is above 0

length_sign : (x y : Float) → T (is_finite x) → T (is_finite y) → HasSign (norm x y) false
unfolding norm
length_sign x y p q = root_sign (x ⊗ x ⊕ y ⊗ y) (sum_sign (x ⊗ x) (y ⊗ y) (square_sign x p) (square_sign y q))

tolerance_sign : HasSign tolerance false
unfolding of_bits
tolerance_sign = refl

tolerance_positive : T (positive tolerance)
unfolding of_bits
tolerance_positive = tt

-- 1e-12 squared is no underflow
square_positive : T (positive (tolerance ⊗ tolerance))
unfolding of_bits mul
square_positive = tt

above_product : (l m : Float) → T (above l) → T (above m) → T (le tolerance l) → T (le tolerance m) → T (above (l ⊗ m))
unfolding mul
above_product nan m a b h k = absurd a
above_product (inf true) m a b h k = absurd a
above_product (inf false) nan a b h k = absurd b
above_product (inf false) (inf true) a b h k = absurd b
above_product (inf false) (inf false) a b h k = tt
above_product (inf false) (fin true n d) a b h k = absurd b
above_product (inf false) (fin false zero d) a b h k = absurd b
above_product (inf false) (fin false (suc n) d) a b h k = rw (eqb-suc-zero n) tt
above_product (fin true m e) y a b h k = absurd a
above_product (fin false m e) nan a b h k = absurd b
above_product (fin false m e) (inf true) a b h k = absurd b
above_product (fin false zero e) (inf false) a b h k = absurd a
above_product (fin false (suc m) e) (inf false) a b h k = rw (eqb-suc-zero m) tt
above_product (fin false m e) (fin true n d) a b h k = absurd b
above_product (fin false m e) (fin false n d) a b h k =
    let t = tolerance_positive in
    let x = fin false m e in
    let y = fin false n d in
    above_of_le (tolerance ⊗ tolerance) (x ⊗ y) square_positive (mul_mono binary64 tolerance x tolerance y t a t b h k)

lengths_above : (l m : Float) → HasSign l false → HasSign m false → T (not (le l tolerance)) → T (not (le m tolerance)) → T (above (l ⊗ m))
lengths_above l m p q h k =
    let u = le_of_not l tolerance p tolerance_sign h in
    let v = le_of_not m tolerance q tolerance_sign k in
    above_product l m (above_of_le tolerance l tolerance_positive u) (above_of_le tolerance m tolerance_positive v) u v

-- ---- a number not above 0, over one above 0, is at most sin 20°

left : (a b : Bool) → T a → T (a || b)
left true b t = tt
left false b t = absurd t

some : (a b : ℕ) → 0 < b → 0 < a + b
some a b h = omega arith

minus_below : (m : ℕ) (e : ℤ) (n : ℕ) (d : ℤ) → 0 < n → T (le (fin true m e) (fin false n d))
unfolding le
minus_below m e n d h =
    let a = m * up e * down d in
    let b = n * up d * down e in
    left (ltb 0 (a + b)) (level true a false b) (lt→ltb 0 (a + b) (some a b (mul-pos (mul-pos h (up_pos d)) (down_pos e))))

minus_low : (x : Float) → HasSign x true → T (le x sin20)
unfolding of_bits le
minus_low nan p = p
minus_low (inf true) p = tt
minus_low (inf false) p = absurd (true≢false (sym p))
minus_low (fin true m e) p = minus_below m e 6161287160138741 (negsuc 53) (lit< tt)
minus_low (fin false m e) p = absurd (true≢false (sym p))

zero_low : T (le (round binary64 false 0 1) sin20)
unfolding of_bits le round
zero_low = tt

-- 0 / c rounded
nothing_low : (a c : ℕ) → a ≡ 0 → 0 < c → T (le (round binary64 false a c) sin20)
nothing_low a c e C =
    subst (λ (z : Float). T (le z sin20))
    (sym (round_same binary64 false a c 0 1 C (lit< tt) (mul-one a ∙ e ∙ sym (zero-mul c)))) zero_low

not_above_lem : (m : ℕ) (e : ℤ) → T (le (fin false (suc m) e) zero_f) → ⊥
unfolding of_bits
not_above_lem m e h = above_of_le (fin false (suc m) e) zero_f (lt→ltb 0 (suc m) (zero-lt-suc m)) h

quotient_low : (k l : Float) → T (is_finite k) → T (le k zero_f) → T (above l) → T (le (k ⊘ l) sin20)
unfolding is_finite div
quotient_low nan l f h a = absurd f
quotient_low (inf s) l f h a = absurd f
quotient_low (fin s m e) nan f h a = absurd a
quotient_low (fin s m e) (inf true) f h a = absurd a
quotient_low (fin true m e) (inf false) f h a = minus_low (fin true 0 (pos 0)) refl
quotient_low (fin false m e) (inf false) f h a = zero_low
quotient_low (fin s m e) (fin true n d) f h a = absurd a
quotient_low (fin s m e) (fin false zero d) f h a = absurd a
quotient_low (fin true m e) (fin false (suc n) d) f h a =
    rw (eqb-suc-zero n)
    (minus_low (round binary64 true (m * up e * down d) (suc n * up d * down e)) (round_sign binary64 true (m * up e * down d) (suc n * up d * down e)))
quotient_low (fin false zero e) (fin false (suc n) d) f h a =
    rw (eqb-suc-zero n)
    (nothing_low (0 * up e * down d) (suc n * up d * down e) (ap (λ (z : ℕ). z * down d) (zero-mul (up e)) ∙ zero-mul (down d))
    (mul-pos (mul-pos (zero-lt-suc n) (up_pos d)) (down_pos e)))
quotient_low (fin false (suc m) e) (fin false (suc n) d) f h a = absurd (not_above_lem m e h)

-- ---- so the corner fails

fails : (x y z : Bool) → (T (not x) → T (not y) → T z) → not x && not y && not z ≡ false
fails true y z h = refl
fails false true z h = refl
fails false false true h = refl
fails false false false h = absurd (h tt tt)

-- by the components of the two steps
steps_fail : (ux uy vx vy : Float) → T (le (ux ⊗ vy ⊖ uy ⊗ vx) zero_f) → T (is_finite (ux ⊗ vy ⊖ uy ⊗ vx))
    → not (le (norm ux uy) tolerance) && not (le (norm vx vy) tolerance)
    && not (le ((ux ⊗ vy ⊖ uy ⊗ vx) ⊘ (norm ux uy ⊗ norm vx vy)) sin20) ≡ false
steps_fail ux uy vx vy h f =
    let k = ux ⊗ vy ⊖ uy ⊗ vx in
    let lu = norm ux uy in
    let lv = norm vx vy in
    let terms = finite_difference (ux ⊗ vy) (uy ⊗ vx) f in
    let first = finite_product ux vy terms.0 in
    let second = finite_product uy vx terms.1 in
    let u = length_sign ux uy first.0 second.0 in
    let v = length_sign vx vy second.1 first.1 in
    fails (le lu tolerance) (le lv tolerance) (le (k ⊘ (lu ⊗ lv)) sin20) (λ p q. quotient_low k (lu ⊗ lv) f h (lengths_above lu lv u v p q))

pub corner_fails : (a b c : Point) → no_left_turn a b c ≡ true → convex_at a b c ≡ false
unfolding no_left_turn corner_ok
corner_fails a b c e =
    let k = turn a b c in
    let t : T (le k zero_f && is_finite k) = subst T (sym e) tt in
    steps_fail (b.x ⊖ a.x) (b.y ⊖ a.y) (c.x ⊖ b.x) (c.y ⊖ b.y) (and_l (le k zero_f) (is_finite k) t) (and_r (le k zero_f) (is_finite k) t)

either : (x u : Bool) {y v : Bool} → (x ≡ true → u ≡ false) → (y ≡ true → v ≡ false) → x || y ≡ true → u && v ≡ false
either true u f g e = rw (f refl)
either false true f g e = g e
either false false f g e = refl

-- a quad that lacks a left turn fails
pub quad_fails : (p : Corners) → lacks_left_turn p ≡ true → corners_turn p ≡ false
unfolding lacks_left_turn corners_turn
quad_fails p =
    either _ _ (corner_fails p.c p.a p.b) (either _ _ (corner_fails p.a p.b p.d)
    (either _ _ (corner_fails p.b p.d p.c) (corner_fails p.d p.c p.a)))
