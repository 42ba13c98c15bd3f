-- What holds of the definitions of proofs/SineBase.antt.
use Rattle.std.specs.Prelude.{◌≡◌, refl, [], ◌∷◌, Bool, true, false, not, ℕ, ◌+◌, ◌*◌, ◌^◌, ◌≤◌, ◌<◌, T, ltb, ℤ, pos, neg_ℤ, ◌+ℤ◌, ◌*ℤ◌, ◌-ℤ◌, Float}
use Rattle.std.proofs.Common.{sym, ap, ap₂, ◌∙◌, subst, le_trans, le_of_eq, mul_assoc, mul-le-mul, mul-le-mul_right, mul-le-mul_left, le_of_mul-le-mul_right, not-le_of_lt, arith, lit≤, ltb→lt, lt→ltb}
use Rattle.std.proofs.Math.Nat.{mul-mul-mul_comm}
use Rattle.std.proofs.Math.Dec.{not_T}
use Rattle.std.proofs.Math.IntN.{neg_ℤ-neg_ℤ}
use Rattle.std.specs.Float.{binary64}
use Rattle.std.specs.Float.Ieee.{unlike, le, of_bits}
use Rattle.std.specs.Float.Ieee.Fits.{and_i, add-fits}
use Rattle.laws.proofs.Integer.{negℤ-*ℤ, *ℤ_negℤ}
use Rattle.laws.proofs.RingBase.{var, num, ◌*ᵉ◌, ◌-ᵉ◌}
use Rattle.laws.proofs.CertificateBase.{Nonneg, nonneg, nonneg_is, to_le, hyp, nat, ◌⊞◌, ◌⊠◌}
use Rattle.laws.proofs.Certificate.{prove}
use Rattle.numbers.specs.Float.{◌⊕◌, ◌⊖◌, ◌⊗◌, ◌⊘◌, tolerance}
use Rattle.exact.specs.Units.{W, W-pos, Val, signed, units, unlike_self, Within, within_units}
use Rattle.exact.proofs.Constants.{tolerance_units, tolerance_val}
use Rattle.exact.proofs.Order.{above_of_not_le}
use Rattle.exact.proofs.Operations.{mul_law, product_small, Sum, sub_law, sum_small, sum_within, add_law_pos, div_law}
use Rattle.exact.proofs.Root.{root_law}
use Rattle.exact.proofs.SineBounds.{Rel, RelAnd, rel, rel_and, le_of_sq, Long, unit_below, length_law, side_law, quotient_law, product_law}
use Rattle.exact.proofs.SineBounds.{products_below, signed_near, cross_law, sine_law}
use Rattle.exact.specs.Corner.{sin20, norm, corner_ok, Vector, step_units, cross, squared_length, sine_above_third, is_short}
use Rattle.exact.proofs.SineBase.{long_of, corner_tests}

-- ---- the constants of the test

-- sin 20 degrees in units
Sin20 : ℕ
Sin20 = 6161287160138741 * 2 ^ 1020

above_sin20 : (x : Float) (s : Bool) (r : ℕ) → Val x s r → T (not (le x sin20)) → (s ≡ false) × (Sin20 < r)
unfolding W of_bits Sin20
above_sin20 x s r v t = above_of_not_le x sin20 s r (6161287160138741 * 2 ^ 1020) v (refl, refl) t

sin20_low : 342 * W ≤ 1000 * Sin20
unfolding W Sin20
sin20_low = lit≤ tt

-- ---- steps: x is the exact difference z, rounded

record Step (x : Float) (z : ℤ) : Type 0 where
  within : Within 4004 x
  exact : ℕ
  is : signed within.sign exact ≡ z
  near : Rel within.size exact

-- the rounded size, and the sign
abbrev size : {x : Float} {z : ℤ} → Step x z → ℕ
size p = p.within.size

abbrev sign : {x : Float} {z : ℤ} → Step x z → Bool
sign p = p.within.sign

step_of : {x y : Float} → Within 1001 x → Within 1001 y → Step (y ⊖ x) (units y -ℤ units x)
step_of p q =
    let s = sub_law q p tt tt in
    record {
      within = sum_within 2002 s (both q.size p.size q.small p.small);
      exact = s.exact;
      is = s.is;
      near = rel s.size s.exact s.near;
    }
  where
    both : (a b : ℕ) → a ≤ 1001 * W → b ≤ 1001 * W → a + b ≤ 2002 * W
    both a b h k = omega arith

-- ---- products of steps: x is n squares of a unit, with the sign s, rounded

record Prod (s : Bool) (n : ℕ) (x : Float) : Type 0 where
  size : ℕ
  val : Val x s size
  small : size ≤ 32064033 * W
  near : RelAnd (size * W) n W

prod : {x y : Float} {X Y : ℤ} (p : Step x X) (q : Step y Y) → Prod (unlike (sign p) (sign q)) (size p * size q) (x ⊗ y)
prod p q =
    let r = mul_law p.within q.within tt tt in
    let bound = le_trans (mul-le-mul p.within.small q.within.small) (le_of_eq (mul-mul-mul_comm 4004 W 4004 W)) in
    record {
      size = r.size;
      val = r.val;
      small = product_small 16032016 r.size (size p * size q) r.near bound;
      near = rel_and (r.size * W) (size p * size q) W r.near;
    }

step_square : {x : Float} {X : ℤ} (p : Step x X) → Prod false (size p * size p) (x ⊗ x)
step_square {x} p = subst (λ (s : Bool). Prod s (size p * size p) (x ⊗ x)) (unlike_self (sign p)) (prod p p)

-- ---- lengths

-- l is near the length of the exact steps w₀ and w₁
record Length (l : Float) (w₀ w₁ : ℕ) : Type 0 where
  L : ℕ
  val : Val l false L
  long : Long L
  small : L ≤ 20000 * W
  near : 9985 * (w₀ * w₀ + w₁ * w₁) ≤ 10000 * (L * L)
  far : W * W ≤ 10 ^ 28 * (w₀ * w₀ + w₁ * w₁)

norm_near : {x y : Float} {X Y : ℤ} (p : Step x X) (q : Step y Y) → T (not (le (norm x y) tolerance)) → Length (norm x y) p.exact q.exact
unfolding norm
norm_near {x} {y} p q t =
    let a = step_square p in
    let b = step_square q in
    let s = add_law_pos (x ⊗ x) (y ⊗ y) a.size b.size a.val b.val (moderate a.size a.small) (moderate b.size b.small) in
    let r = root_law (x ⊗ x ⊕ y ⊗ y) (add-fits binary64 (x ⊗ x) (y ⊗ y)) s.size s.val in
    let l = long_of r.L (above_of_not_le (norm x y) tolerance false r.L tolerance_units r.val tolerance_val t).1 in
    let sum = sum_small a.size b.size s.size a.small b.small (rel s.size (a.size + b.size) s.near) in
    record {
      L = r.L;
      val = r.val;
      long = l;
      small = root_small s.size r.L sum r.upper;
      near =
          length_law p.exact q.exact (size p) (size q) a.size b.size s.size r.L p.near q.near a.near b.near s.near
          r.lower l;
      far =
          side_law p.exact q.exact (size p) (size q) a.size b.size s.size r.L p.near q.near a.near b.near s.near
          r.upper l;
    }
  where
    moderate : (n : ℕ) → n ≤ 32064033 * W → n ≤ 2 ^ 200 * W
    moderate n h = le_trans h (mul-le-mul_right W (lit≤ tt))

    sum_small : (p q s : ℕ) → p ≤ 32064033 * W → q ≤ 32064033 * W → Rel s (p + q) → s ≤ 128300000 * W
    sum_small p q s a b r = omega arith

    root_small : (s L : ℕ) → s ≤ 128300000 * W → L * L ≤ 2 * (s * W) → L ≤ 20000 * W
    root_small s L h k =
        let l = le_trans (mul-le-mul_right W h) (le_of_eq (mul_assoc 128300000 W W)) in
        le_of_sq L (20000 * W) (go (s * W) (L * L) (W * W) (20000 * W * (20000 * W)) l k (mul-mul-mul_comm 20000 W 20000 W))
      where
        go : (a b c d : ℕ) → a ≤ 128300000 * c → b ≤ 2 * a → d ≡ 400000000 * c → b ≤ d
        go a b c d h k e = omega arith

-- ---- the product of two lengths, which is divided by

record Denominator (x : Float) (N : ℕ) : Type 0 where
  y : ℕ
  val : Val x false y
  near : RelAnd (y * W) N W
  low : W ≤ 2 * 10 ^ 26 * y

abbrev length_within : {l : Float} {w₀ w₁ : ℕ} → Length l w₀ w₁ → Within 20000 l
length_within p = record { sign = false; size = p.L; val = p.val; small = p.small }

denominator : {l m : Float} {w₀ w₁ k₀ k₁ : ℕ} (p : Length l w₀ w₁) (q : Length m k₀ k₁) → Denominator (l ⊗ m) (p.L * q.L)
denominator p q =
    let r = mul_law (length_within p) (length_within q) tt tt in
    let n = rel_and (r.size * W) (p.L * q.L) W r.near in
    record { y = r.size; val = r.val; near = n; low = low_of r.size p.L q.L p.long q.long n }
  where
    twice : (a b : ℕ) → 10 ^ 10 * W ≤ a → 9999 * a ≤ 10000 * b + 10000 * W → a ≤ 2 * b
    twice a b h k = omega arith

    go : (a b c d : ℕ) → a ≤ 10 ^ 26 * b → b ≤ 2 * c → d ≡ 2 * 10 ^ 26 * c → a ≤ d
    go a b c d h k e = omega arith

    low_of : (y L M : ℕ) → Long L → Long M → RelAnd (y * W) (L * M) W → W ≤ 2 * 10 ^ 26 * y
    low_of y L M h k r =
        let square = le_trans (mul-le-mul h k) (le_of_eq (mul-mul-mul_comm (10 ^ 13) L (10 ^ 13) M)) in
        le_of_mul-le-mul_right
        (go (W * W) (L * M) (y * W) (2 * 10 ^ 26 * y * W) square (twice (L * M) (y * W) (unit_below L M h k) r.1) (mul_assoc (2 * 10 ^ 26) y W)) W-pos

-- ---- exact products of steps

signed_mul : (s t : Bool) (a b : ℕ) → signed s a *ℤ signed t b ≡ signed (unlike s t) (a * b)
signed_mul false false a b = refl
signed_mul false true a b = *ℤ_negℤ (pos a) (pos b)
signed_mul true false a b = negℤ-*ℤ (pos a) (pos b)
signed_mul true true a b = negℤ-*ℤ (pos a) (neg_ℤ (pos b)) ∙ ap neg_ℤ (*ℤ_negℤ (pos a) (pos b)) ∙ neg_ℤ-neg_ℤ (pos (a * b))

exact_product : {x y : Float} {X Y : ℤ} (p : Step x X) (q : Step y Y) → X *ℤ Y ≡ signed (unlike (sign p) (sign q)) (p.exact * q.exact)
exact_product p q = ap₂ (λ (a b : ℤ). a *ℤ b) (sym p.is) (sym q.is) ∙ signed_mul (sign p) (sign q) p.exact q.exact

exact_square : {x : Float} {X : ℤ} (p : Step x X) → X *ℤ X ≡ pos (p.exact * p.exact)
exact_square p = exact_product p p ∙ ap (λ (s : Bool). signed s (p.exact * p.exact)) (unlike_self (sign p))

exact_length : {x y : Float} {v : Vector} (p : Step x v.x) (q : Step y v.y) → squared_length v ≡ pos (p.exact * p.exact + q.exact * q.exact)
unfolding squared_length
exact_length p q = ap₂ (λ (a b : ℤ). a +ℤ b) (exact_square p) (exact_square q)

-- ---- from ℕ to the claims

sine_test : (u v : Vector) (p Q R : ℕ) → cross u v ≡ pos p → squared_length u ≡ pos Q → squared_length v ≡ pos R → (0 < p) × (Q * R < 9 * (p * p))
    → T (sine_above_third u v)
unfolding sine_above_third
sine_test u v p Q R e f g h =
    rw (e, f, g) (and_i (ltb 0 p) (ltb (Q * R) (9 * (p * p))) (lt→ltb 0 p h.0) (lt→ltb (Q * R) (9 * (p * p)) h.1))

side_test : (u : Vector) (Q : ℕ) → squared_length u ≡ pos Q → W * W ≤ 10 ^ 28 * Q → T (not (is_short u))
unfolding is_short
side_test u Q e h =
    let l = le_trans h (mul-le-mul_right Q (lit≤ {n = 10 ^ 300} tt)) in
    rw e (not_T (ltb (10 ^ 300 * Q) (W * W)) (λ t. not-le_of_lt (ltb→lt (10 ^ 300 * Q) (W * W) t) l))

-- ---- the corner, from its four steps

-- the exact cross product P is at least 0.34 of the computed lengths L and M, which are near the exact squared lengths Q and R
record CornerTurn (P : ℤ) (Q R : ℕ) : Type 0 where
  L : ℕ
  M : ℕ
  some : 0 < L * M
  above : Nonneg (pos 1000 *ℤ P -ℤ pos 340 *ℤ pos (L * M))
  near_l : 9985 * Q ≤ 10000 * (L * L)
  near_m : 9985 * R ≤ 10000 * (M * M)

abbrev prod_within : {s : Bool} {n : ℕ} {x : Float} → Prod s n x → Within 32064033 x
prod_within {s} c = record { sign = s; size = c.size; val = c.val; small = c.small }

unlike_false : (s : Bool) → unlike s false ≡ false → s ≡ false
unlike_false false e = refl
unlike_false true e = e

module _ {ux uy vx vy : Float} {X Y X' Y' : ℤ} (a₀ : Step ux X) (a₁ : Step uy Y) (b₀ : Step vx X') (b₁ : Step vy Y') where
  -- the sines' numerator and denominator, as the code has them
  abbrev cross_f : Float
  cross_f = ux ⊗ vy ⊖ uy ⊗ vx

  abbrev lengths_f : Float
  lengths_f = norm ux uy ⊗ norm vx vy

  -- the exact products of the numerator
  abbrev product₁ : ℤ
  product₁ = signed (unlike (sign a₀) (sign b₁)) (a₀.exact * b₁.exact)

  abbrev product₂ : ℤ
  product₂ = signed (unlike (sign a₁) (sign b₀)) (a₁.exact * b₀.exact)

  turn : T (not (le (norm ux uy) tolerance)) → T (not (le (norm vx vy) tolerance)) → T (not (le (cross_f ⊘ lengths_f) sin20))
      → CornerTurn (product₁ -ℤ product₂) (a₀.exact * a₀.exact + a₁.exact * a₁.exact) (b₀.exact * b₀.exact + b₁.exact * b₁.exact)
  turn tu tv ts =
      let p = norm_near a₀ a₁ tu in
      let q = norm_near b₀ b₁ tv in
      let far = unit_below p.L q.L p.long q.long in
      let n = denominator p q in
      let c₁ = prod a₀ b₁ in
      let c₂ = prod a₁ b₀ in
      let d = sub_law (prod_within c₁) (prod_within c₂) tt tt in
      let fits = room d.size n.y (small d c₁.small c₂.small) n.low in
      let r = div_law cross_f lengths_f d.sign false d.size n.y d.val n.val (positive n.y n.low) fits in
      let t = above_sin20 (cross_f ⊘ lengths_f) (unlike d.sign false) r.size r.val ts in
      let z₁ = signed (unlike (sign a₀) (sign b₁)) c₁.size in
      let z₂ = signed (unlike (sign a₁) (sign b₀)) c₂.size in
      let e : pos d.exact ≡ z₁ -ℤ z₂ =
      ap (λ (s : Bool). signed s d.exact) (sym (unlike_false d.sign t.0)) ∙ d.is
      ∙ ap₂ (λ (y z : ℤ). y -ℤ z) (within_units (prod_within c₁)) (within_units (prod_within c₂)) in
      let near₁ = product_law a₀.exact b₁.exact (size a₀) (size b₁) c₁.size a₀.near b₁.near c₁.near in
      let near₂ = product_law a₁.exact b₀.exact (size a₁) (size b₀) c₂.size a₁.near b₀.near c₂.near in
      let near = rel_and (r.size * n.y) (d.size * W) n.y r.near in
      let quotient = quotient_law p.L q.L n.y d.size r.size Sin20 n.near far near t.1 sin20_low in
      let below = products_below a₀.exact a₁.exact b₀.exact b₁.exact p.L q.L p.near q.near in
      record {
        L = p.L;
        M = q.L;
        some = some_of (p.L * q.L) far;
        above =
            cross_law product₁ product₂ z₁ z₂ (a₀.exact * b₁.exact) (a₁.exact * b₀.exact) d.exact d.size (p.L * q.L)
            (signed_near (unlike (sign a₀) (sign b₁)) (a₀.exact * b₁.exact) c₁.size near₁).0
            (signed_near (unlike (sign a₁) (sign b₀)) (a₁.exact * b₀.exact) c₂.size near₂).1
            (rel d.size d.exact d.near).0 quotient below (weaken (p.L * q.L) far) e;
        near_l = p.near;
        near_m = q.near;
      }
    where
      both : (a b : ℕ) → a ≤ 32064033 * W → b ≤ 32064033 * W → a + b ≤ 64128066 * W
      both a b h k = omega arith

      small : {z : ℤ} {a b : ℕ} {x : Float} (d : Sum z (a + b) x) → a ≤ 32064033 * W → b ≤ 32064033 * W → d.size ≤ 128256132 * W
      small {z} {a} {b} d h k = sum_small 64128066 d (both a b h k)

      room : (d y : ℕ) → d ≤ 128256132 * W → W ≤ 2 * 10 ^ 26 * y → d ≤ 2 ^ 400 * y
      room d y h k =
          le_trans h (le_trans (mul-le-mul_left 128256132 k) (le_trans (le_of_eq (sym (mul_assoc 128256132 (2 * 10 ^ 26) y))) (mul-le-mul_right y (lit≤ tt))))

      positive : (y : ℕ) → W ≤ 2 * 10 ^ 26 * y → 0 < y
      positive y h = omega (arith, W-pos)

      weaken : (a : ℕ) → 10 ^ 10 * W ≤ a → 10000 * W ≤ a
      weaken a h = omega arith

      some_of : (a : ℕ) → 10 ^ 10 * W ≤ a → 0 < a
      some_of a h = omega (arith, W-pos)

-- so the sine is above 1/3
turn_sine : (u v : Vector) (P : ℤ) (Q R : ℕ) → CornerTurn P Q R → cross u v ≡ P → squared_length u ≡ pos Q → squared_length v ≡ pos R → T (sine_above_third u v)
turn_sine u v P Q R t e f g =
    let N = t.L * t.M in
    let n = nonneg_is (not_negative N t.above) in
    let least : 340 * N ≤ 1000 * n.0 = to_le (340 * N) (1000 * n.0) (subst (λ (z : ℤ). Nonneg (pos 1000 *ℤ z -ℤ pos 340 *ℤ pos N)) n.1 t.above) in
    sine_test u v n.0 Q R (e ∙ n.1) f g (sine_law n.0 t.L t.M Q R t.some least t.near_l t.near_m)
  where
    not_negative : (N : ℕ) → Nonneg (pos 1000 *ℤ P -ℤ pos 340 *ℤ pos N) → Nonneg P
    not_negative N h =
        prove (P ∷ pos N ∷ []) ((num 1000 *ᵉ var 0 -ᵉ num 340 *ᵉ var 1) ∷ var 1 ∷ []) (h, (nonneg N, tt)) [] tt 999 (var 0) (hyp 0 ⊞ nat 340 ⊠ hyp 1) tt

-- ---- the theorems

-- A side of two places within 1,001 whose computed length is above 1e-12 is not shorter than 1e-150.
pub side_long : (ax ay bx by : Float) → Within 1001 ax → Within 1001 ay → Within 1001 bx → Within 1001 by
    → T (not (le (norm (bx ⊖ ax) (by ⊖ ay)) tolerance)) → T (not (is_short (step_units ax ay bx by)))
unfolding step_units
side_long ax ay bx by Ax Ay Bx By t =
    let p = step_of Ax Bx in
    let q = step_of Ay By in
    side_test (step_units ax ay bx by) (p.exact * p.exact + q.exact * q.exact) (exact_length {v = step_units ax ay bx by} p q) (norm_near p q t).far

-- THE SINE THEOREM. For places a, b and c within 1,001: where the f64 test of the corner passes, the exact sine between the step from a to b
-- and the step from b to c is above 1/3.
pub sine_theorem : (ax ay bx by cx cy : Float) → Within 1001 ax → Within 1001 ay → Within 1001 bx → Within 1001 by → Within 1001 cx
    → Within 1001 cy → T (corner_ok ax ay bx by cx cy) → T (sine_above_third (step_units ax ay bx by) (step_units bx by cx cy))
unfolding corner_ok step_units cross
sine_theorem ax ay bx by cx cy Ax Ay Bx By Cx Cy t =
    let a₀ = step_of Ax Bx in
    let a₁ = step_of Ay By in
    let b₀ = step_of Bx Cx in
    let b₁ = step_of By Cy in
    let test = corner_tests ax ay bx by cx cy t in
    let u = step_units ax ay bx by in
    let v = step_units bx by cx cy in
    turn_sine u v (product₁ a₀ a₁ b₀ b₁ -ℤ product₂ a₀ a₁ b₀ b₁)
    (a₀.exact * a₀.exact + a₁.exact * a₁.exact) (b₀.exact * b₀.exact + b₁.exact * b₁.exact)
    (turn a₀ a₁ b₀ b₁ test.into test.out test.sine)
    (ap₂ (λ (y z : ℤ). y -ℤ z) (exact_product a₀ b₁) (exact_product a₁ b₀)) (exact_length {v = u} a₀ a₁) (exact_length {v = v} b₀ b₁)
