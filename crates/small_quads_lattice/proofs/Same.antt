-- What holds of the definitions of specs/Same.antt.
use Rattle.std.specs.Prelude.{◌≡◌, refl, [], ◌∷◌, ◌++◌, Bool, true, false, not, ◌&&◌, cond, ℕ, zero, suc, ◌+◌, ◌-◌, ◌*◌, ◌/◌, ◌%◌, ◌<◌, ◌≤◌, ℤ, ◌*ℤ◌, ◌-ℤ◌, Float}
use Rattle.std.proofs.Math.Path.{sym, ap, ap₂, subst}
use Rattle.std.proofs.Common.{◌∙◌, mul_comm, mul-le-mul, mul-le-mul_right, arith}
use Rattle.std.proofs.Math.Dec.{T}
use Rattle.std.proofs.Math.IntN.{pos}
use Rattle.std.specs.Int.Signed.{lt_z, lt_z_yes}
use Rattle.std.specs.Int.Count.{count_trailing_zeros}
use Rattle.std.specs.Float.Ieee.{le, of_int, round, units, odd, size, span, climb}
use Rattle.std.specs.Float.Ieee.Fits.{and_l, and_r}
use Rattle.laws.specs.Loop.{for_up_same}
use Rattle.laws.proofs.RingBase.{var, num, neg, ◌+ᵉ◌, ◌*ᵉ◌, ◌-ᵉ◌}
use Rattle.laws.proofs.Ring.{ring}
use Rattle.laws.proofs.CertificateBase.{Nonneg, to_le, sub_pos, zero_of, hyp, nat, eqn, ◌⊞◌}
use Rattle.laws.proofs.Certificate.{of-<ℤ, prove}
use Rattle.numbers.specs.Float.{◌⊕◌, ◌⊖◌, ◌⊗◌, to_float, zero_f, tolerance}
use Rattle.exact.specs.Units.{W, Val, Within, units_val}
use Rattle.exact.specs.Units as exact
use Rattle.exact.specs.Corner.{Vector, step_units, cross, squared_length, sine_above_third, corner_ok}
use Rattle.exact.proofs.Sine.{sine_theorem}
use Rattle.geometry.specs.Plane.{convex_ccw, doubled_area, area_term}
use Rattle.small_quads_lattice.specs.Fours.{lattice_point, first_point, second_point, third_point, fourth_point, accepted_four, corner_turns, above_third, points_of, four_turn, fours}
use Rattle.small_quads_lattice.proofs.Tables.{float_of, small_difference, product, sum_is, zero_is, above_tolerance, steps_ok, grid_step, corner_is}
use Rattle.small_quads_lattice.proofs.Scale.{scaled_by, unscale}

-- ---- floats to integers

value : (n : ℕ) → n < 4 → Val (to_float n) false (n * W)
unfolding W of_int round units odd size span climb count_trailing_zeros
value zero h = (refl, refl)
value (suc zero) h = (refl, refl)
value (suc (suc zero)) h = (refl, refl)
value (suc (suc (suc zero))) h = (refl, refl)
value (suc (suc (suc (suc n)))) h = absurd (omega arith)

within : (n : ℕ) → n < 4 → Within 1001 (to_float n)
within n h = record { sign = false; size = n * W; val = value n h; small = mul-le-mul_right W (omega arith) }

unit : (n : ℕ) → n < 4 → exact.units (to_float n) ≡ pos W *ℤ pos n
unit n h = units_val (to_float n) false (n * W) (value n h) ∙ ap pos (mul_comm n W)

-- the step (bx - ax, by - ay)
abbrev step_z : (ax ay bx by : ℕ) → Vector
step_z ax ay bx by = record { x = pos bx -ℤ pos ax; y = pos by -ℤ pos ay }

unfoldable pub vector_of : ℤ → ℤ → Vector
vector_of x y = record { x = x; y = y }

step_scaled : (ax ay bx by : ℕ) → ax < 4 → ay < 4 → bx < 4 → by < 4
    → step_units (to_float ax) (to_float ay) (to_float bx) (to_float by) ≡ scaled_by (pos W) (step_z ax ay bx by)
unfolding step_units vector_of
step_scaled ax ay bx by p q r s = ap₂ vector_of (along ax bx p r) (along ay by q s)
  where
    along : (a b : ℕ) → a < 4 → b < 4 → exact.units (to_float b) -ℤ exact.units (to_float a) ≡ pos W *ℤ (pos b -ℤ pos a)
    along a b h k =
        ap₂ (λ (x y : ℤ). x -ℤ y) (unit b k) (unit a h)
        ∙ ring (pos W ∷ pos b ∷ pos a ∷ []) (var 0 *ᵉ var 1 -ᵉ var 0 *ᵉ var 2) (var 0 *ᵉ (var 1 -ᵉ var 2)) tt

-- ---- integers to floats

pub shifted_difference : (n a b : ℕ) → a ≤ n → pos b -ℤ pos a ≡ pos (b + n - a) -ℤ pos n
shifted_difference n a b h =
    ring (pos b ∷ pos n ∷ pos a ∷ []) (var 0 -ᵉ var 2) (var 0 +ᵉ var 1 -ᵉ var 2 -ᵉ var 1) tt
    ∙ ap (λ (z : ℤ). z -ℤ pos n) (sub_pos a (b + n) (omega arith))

-- the four coordinates of two steps
module _ {ax ay bx by cx cy : ℕ} (Ax : ax < 4) (Ay : ay < 4) (Bx : bx < 4) (By : by < 4) (Cx : cx < 4) (Cy : cy < 4) where
  float_to_int : T (corner_ok (to_float ax) (to_float ay) (to_float bx) (to_float by) (to_float cx) (to_float cy))
      → T (sine_above_third (step_z ax ay bx by) (step_z bx by cx cy))
  float_to_int t =
      let s = sine_theorem (to_float ax) (to_float ay) (to_float bx) (to_float by) (to_float cx) (to_float cy)
      (within ax Ax) (within ay Ay) (within bx Bx) (within by By) (within cx Cx) (within cy Cy) t in
      unscale W (step_z ax ay bx by) (step_z bx by cx cy)
      (subst (λ (v : Vector). T (sine_above_third (scaled_by (pos W) (step_z ax ay bx by)) v)) (step_scaled bx by cx cy Bx By Cx Cy)
      (subst (λ (u : Vector). T (sine_above_third u (step_units (to_float bx) (to_float by) (to_float cx) (to_float cy)))) (step_scaled ax ay bx by Ax Ay Bx By) s))

  int_to_float : T (sine_above_third (step_z ax ay bx by) (step_z bx by cx cy))
      → T (corner_ok (to_float ax) (to_float ay) (to_float bx) (to_float by) (to_float cx) (to_float cy))
  unfolding corner_ok vector_of
  int_to_float t =
      let i = bx + 3 - ax in
      let j = by + 3 - ay in
      let k = cx + 3 - bx in
      let l = cy + 3 - by in
      let u : step_z ax ay bx by ≡ grid_step i j = ap₂ vector_of (shifted_difference 3 ax bx (omega arith)) (shifted_difference 3 ay by (omega arith)) in
      let v : step_z bx by cx cy ≡ grid_step k l = ap₂ vector_of (shifted_difference 3 bx cx (omega arith)) (shifted_difference 3 by cy (omega arith)) in
      let s : T (sine_above_third (grid_step i j) (grid_step k l)) =
      subst (λ (z : Vector). T (sine_above_third (grid_step i j) z)) v (subst (λ (z : Vector). T (sine_above_third z (step_z bx by cx cy))) u t) in
      let r = corner_is i j k l (omega arith) (omega arith) (omega arith) (omega arith) s in
      let along : (a b : ℕ) → a < 4 → b < 4 → float_of (pos (b + 3 - a) -ℤ pos 3) ≡ to_float b ⊖ to_float a =
      λ a b p q. sym (small_difference a b (omega arith) (omega arith) ∙ ap float_of (shifted_difference 3 a b (omega arith))) in
      subst (λ (z : Float). T (steps_ok (to_float bx ⊖ to_float ax) (to_float by ⊖ to_float ay) (to_float cx ⊖ to_float bx) z)) (along by cy By Cy)
      (subst (λ (z : Float). T (steps_ok (to_float bx ⊖ to_float ax) (to_float by ⊖ to_float ay) z (float_of (pos l -ℤ pos 3)))) (along bx cx Bx Cx)
      (subst (λ (z : Float). T (steps_ok (to_float bx ⊖ to_float ax) z (float_of (pos k -ℤ pos 3)) (float_of (pos l -ℤ pos 3)))) (along ay by Ay By)
      (subst (λ (z : Float). T (steps_ok z (float_of (pos j -ℤ pos 3)) (float_of (pos k -ℤ pos 3)) (float_of (pos l -ℤ pos 3)))) (along ax bx Ax Bx) r)))

-- ---- the area

nine : (a b : ℕ) → a < 4 → b < 4 → a * b ≤ 9
nine a b h k = mul-le-mul (low a h) (low b k)
  where
    low : (a : ℕ) → a < 4 → a ≤ 3
    low a h = omega arith

-- the summand of the area, from a to b
term_is : (ax ay bx by : ℕ) → ax < 4 → ay < 4 → bx < 4 → by < 4
    → to_float ax ⊗ to_float by ⊖ to_float bx ⊗ to_float ay ≡ float_of (pos (ax * by + 9 - bx * ay) -ℤ pos 9)
term_is ax ay bx by p q r s =
    let h = nine ax by p s in
    let k = nine bx ay r q in
    ap₂ (λ (x y : Float). x ⊖ y) (product ax by p s) (product bx ay r q)
    ∙ small_difference (bx * ay) (ax * by) (omega arith) (omega arith) ∙ ap float_of (shifted_difference 9 (bx * ay) (ax * by) k)

-- four summands, each from -9 to 9, one after the other
four_sum : (i j k l : ℕ) → i < 19 → j < 19 → k < 19 → l < 19
    → zero_f ⊕ float_of (pos i -ℤ pos 9) ⊕ float_of (pos j -ℤ pos 9) ⊕ float_of (pos k -ℤ pos 9) ⊕ float_of (pos l -ℤ pos 9)
    ≡ float_of (pos (i + j + k + l) -ℤ pos 36)
four_sum i j k l p q r s =
    let I = float_of (pos i -ℤ pos 9) in
    let J = float_of (pos j -ℤ pos 9) in
    let K = float_of (pos k -ℤ pos 9) in
    let L = float_of (pos l -ℤ pos 9) in
    let one : zero_f ⊕ I ≡ float_of (pos (i + 18) -ℤ pos 27) =
    ap (λ (z : Float). z ⊕ I) zero_is ∙ sum_is 27 i (omega arith) p ∙ ap float_of (back 27 i (i + 18) (omega arith)) in
    let two : zero_f ⊕ I ⊕ J ≡ float_of (pos (i + j + 9) -ℤ pos 27) =
    ap (λ (z : Float). z ⊕ J) one ∙ sum_is (i + 18) j (omega arith) q ∙ ap float_of (back (i + 18) j (i + j + 9) (omega arith)) in
    let three : zero_f ⊕ I ⊕ J ⊕ K ≡ float_of (pos (i + j + k) -ℤ pos 27) =
    ap (λ (z : Float). z ⊕ K) two ∙ sum_is (i + j + 9) k (omega arith) r ∙ ap float_of (back (i + j + 9) k (i + j + k) (omega arith)) in
    ap (λ (z : Float). z ⊕ L) three ∙ sum_is (i + j + k) l (omega arith) s
  where
    back : (a b c : ℕ) → a + b ≡ c + 9 → pos (a + b) -ℤ pos 36 ≡ pos c -ℤ pos 27
    back a b c e = ap (λ (n : ℕ). pos n -ℤ pos 36) e ∙ ring (pos c ∷ []) (var 0 +ᵉ num 9 -ᵉ num 36) (var 0 -ᵉ num 27) tt

left_turn_lem : (u v : Vector) → T (sine_above_third u v) → Nonneg (cross u v -ℤ pos 0 -ℤ pos 1)
unfolding sine_above_third
left_turn_lem u v t =
    of-<ℤ {a = pos 0} {b = cross u v} (lt_z_yes (and_l (lt_z (pos 0) (cross u v)) (lt_z (squared_length u *ℤ squared_length v) (pos 9 *ℤ (cross u v *ℤ cross u v))) t))

-- where the quad a, b, d, c turns left at b and at c, its area passes: doubled, it is the sum of the two cross products
module _ {ax ay bx by dx dy cx cy : ℕ} (Ax : ax < 4) (Ay : ay < 4) (Bx : bx < 4) (By : by < 4) (Dx : dx < 4) (Dy : dy < 4) (Cx : cx < 4) (Cy : cy < 4) where
  abbrev summand : (ax ay bx by : ℕ) → Float
  summand ax ay bx by = to_float ax ⊗ to_float by ⊖ to_float bx ⊗ to_float ay

  abbrev part : (ax ay bx by : ℕ) → ℕ
  part ax ay bx by = ax * by + 9 - bx * ay

  abbrev area_f : Float
  area_f = zero_f ⊕ summand ax ay bx by ⊕ summand bx by dx dy ⊕ summand dx dy cx cy ⊕ summand cx cy ax ay

  abbrev parts : ℕ
  parts = part ax ay bx by + part bx by dx dy + part dx dy cx cy + part cx cy ax ay

  part_low : (ax ay bx by : ℕ) → ax < 4 → by < 4 → part ax ay bx by < 19
  part_low ax ay bx by h k = let n = nine ax by h k in omega arith

  part_is : (ax ay bx by : ℕ) → ay < 4 → bx < 4 → pos ax *ℤ pos by -ℤ pos bx *ℤ pos ay -ℤ (pos (part ax ay bx by) -ℤ pos 9) ≡ pos 0
  part_is ax ay bx by h k = zero_of (shifted_difference 9 (bx * ay) (ax * by) (nine bx ay k h))

  area_is : area_f ≡ float_of (pos parts -ℤ pos 36)
  area_is =
      ap₂ (λ (x y : Float). x ⊕ y)
      (ap₂ (λ (x y : Float). x ⊕ y)
      (ap₂ (λ (x y : Float). x ⊕ y)
      (ap (λ (x : Float). zero_f ⊕ x) (term_is ax ay bx by Ax Ay Bx By)) (term_is bx by dx dy Bx By Dx Dy)) (term_is dx dy cx cy Dx Dy Cx Cy))
      (term_is cx cy ax ay Cx Cy Ax Ay)
      ∙ four_sum (part ax ay bx by) (part bx by dx dy) (part dx dy cx cy) (part cx cy ax ay)
      (part_low ax ay bx by Ax By) (part_low bx by dx dy Bx Dy) (part_low dx dy cx cy Dx Cy) (part_low cx cy ax ay Cx Ay)

  area_low : T (sine_above_third (step_z ax ay bx by) (step_z bx by dx dy)) → T (sine_above_third (step_z dx dy cx cy) (step_z cx cy ax ay)) → 37 ≤ parts
  unfolding cross
  area_low t u =
      to_le 37 parts
      (prove
      (pos ax ∷ pos ay ∷ pos bx ∷ pos by ∷ pos dx ∷ pos dy ∷ pos cx ∷ pos cy
      ∷ pos (part ax ay bx by) ∷ pos (part bx by dx dy) ∷ pos (part dx dy cx cy) ∷ pos (part cx cy ax ay) ∷ [])
      (((var 2 -ᵉ var 0) *ᵉ (var 5 -ᵉ var 3) -ᵉ (var 3 -ᵉ var 1) *ᵉ (var 4 -ᵉ var 2) -ᵉ num 0 -ᵉ num 1)
      ∷ ((var 6 -ᵉ var 4) *ᵉ (var 1 -ᵉ var 7) -ᵉ (var 7 -ᵉ var 5) *ᵉ (var 0 -ᵉ var 6) -ᵉ num 0 -ᵉ num 1) ∷ [])
      (left_turn_lem (step_z ax ay bx by) (step_z bx by dx dy) t, (left_turn_lem (step_z dx dy cx cy) (step_z cx cy ax ay) u, tt))
      ((var 0 *ᵉ var 3 -ᵉ var 2 *ᵉ var 1 -ᵉ (var 8 -ᵉ num 9)) ∷ (var 2 *ᵉ var 5 -ᵉ var 4 *ᵉ var 3 -ᵉ (var 9 -ᵉ num 9))
      ∷ (var 4 *ᵉ var 7 -ᵉ var 6 *ᵉ var 5 -ᵉ (var 10 -ᵉ num 9)) ∷ (var 6 *ᵉ var 1 -ᵉ var 0 *ᵉ var 7 -ᵉ (var 11 -ᵉ num 9)) ∷ [])
      (part_is ax ay bx by Ay Bx, (part_is bx by dx dy By Dx, (part_is dx dy cx cy Dy Cx, (part_is cx cy ax ay Cy Ax, tt)))) 0
      (var 8 +ᵉ var 9 +ᵉ var 10 +ᵉ var 11 -ᵉ num 37)
      (nat 1 ⊞ hyp 0 ⊞ hyp 1 ⊞ eqn 0 (neg (num 1)) ⊞ eqn 1 (neg (num 1)) ⊞ eqn 2 (neg (num 1)) ⊞ eqn 3 (neg (num 1))) tt)

  area_passes : T (sine_above_third (step_z ax ay bx by) (step_z bx by dx dy)) → T (sine_above_third (step_z dx dy cx cy) (step_z cx cy ax ay))
      → le area_f tolerance ≡ false
  area_passes t u =
      let h = area_low t u in
      let a = part_low ax ay bx by Ax By in
      let b = part_low bx by dx dy Bx Dy in
      let c = part_low dx dy cx cy Dx Cy in
      let d = part_low cx cy ax ay Cx Ay in
      let n = parts - 37 in
      let e : parts ≡ n + 37 = omega arith in
      ap (λ (z : Float). le z tolerance) (area_is ∙ ap (λ (m : ℕ). float_of (pos m -ℤ pos 36)) e) ∙ above_tolerance n (omega arith)

-- ---- the theorem

same_tests : (a b : Bool) → (T a → T b) → (T b → T a) → a ≡ b
same_tests true true f g = refl
same_tests true false f g = absurd (f tt)
same_tests false true f g = absurd (g tt)
same_tests false false f g = refl

column : (n : ℕ) → n % 4 < 4
column n = omega arith

row : (n : ℕ) → n < 16 → n / 4 < 4
row n h = omega arith

-- a corner, at any three points of the lattice
corner_same : (p q r : ℕ) → p < 16 → q < 16 → r < 16
    → corner_ok (to_float (p % 4)) (to_float (p / 4)) (to_float (q % 4)) (to_float (q / 4)) (to_float (r % 4)) (to_float (r / 4)) ≡ corner_turns p q r
unfolding corner_turns
corner_same p q r hp hq hr =
    same_tests _ _
    (float_to_int (column p) (row p hp) (column q) (row q hq) (column r) (row r hr))
    (int_to_float (column p) (row p hp) (column q) (row q hq) (column r) (row r hr))

area_at : (a b d c : ℕ) → a < 16 → b < 16 → d < 16 → c < 16 → T (corner_turns a b d) → T (corner_turns d c a)
    → le (doubled_area (record { a = lattice_point a; b = lattice_point b; d = lattice_point d; c = lattice_point c })) tolerance ≡ false
unfolding doubled_area area_term corner_turns
area_at a b d c A B D C t u =
    area_passes (column a) (row a A) (column b) (row b B) (column d) (row d D) (column c) (row c C) t u

drop_first : (x y z : Bool) → y ≡ z → (T z → x ≡ false) → not x && y ≡ z
drop_first x y true e f = ap₂ (λ (u v : Bool). not u && v) (f tt) e
drop_first true y false e f = refl
drop_first false y false e f = e

-- the two tests of a four agree
pub test_same : (k : ℕ) → k < 65536 → accepted_four k ≡ above_third k
unfolding accepted_four above_third convex_ccw doubled_area area_term
test_same k h =
    let a = first_point k in
    let b = second_point k in
    let d = third_point k in
    let c = fourth_point k in
    let A : a < 16 = omega arith in
    let B : b < 16 = omega arith in
    let D : d < 16 = omega arith in
    let C : c < 16 = omega arith in
    let four : Bool → Bool → Bool → Bool → Bool = λ x y z w. x && (y && (z && w)) in
    drop_first _ _ (four (corner_turns c a b) (corner_turns a b d) (corner_turns b d c) (corner_turns d c a))
    (ap₂ ◌&&◌ (corner_same c a b C A B) (ap₂ ◌&&◌ (corner_same a b d A B D) (ap₂ ◌&&◌ (corner_same b d c B D C) (corner_same d c a D C A))))
    (λ t. area a b d c A B D C (corner_turns c a b) (corner_turns b d c) t)
  where
    area : (a b d c : ℕ) → a < 16 → b < 16 → d < 16 → c < 16 → (x z : Bool) → T (x && (corner_turns a b d && (z && corner_turns d c a)))
        → le (doubled_area (record { a = lattice_point a; b = lattice_point b; d = lattice_point d; c = lattice_point c })) tolerance ≡ false
    area a b d c A B D C x z t =
        let rest = and_r x (corner_turns a b d && (z && corner_turns d c a)) t in
        let at_b = and_l (corner_turns a b d) (z && corner_turns d c a) rest in
        let at_c = and_r z (corner_turns d c a) (and_r (corner_turns a b d) (z && corner_turns d c a) rest) in
        area_at a b d c A B D C at_b at_c

-- THE THEOREM. The list of the fours that `convex_ccw` accepts at 20 degrees is the list of those that turn left at every corner with a sine
-- above 1/3, worked out in integers.
pub fours_same : fours accepted_four ≡ fours above_third
unfolding fours
fours_same = for_up_same 65536 (four_turn accepted_four) (four_turn above_third) [] (λ i l h. ap (λ (b : Bool). cond b (l ++ points_of i) l) (test_same i h))
