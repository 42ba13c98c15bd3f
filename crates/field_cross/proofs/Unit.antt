-- Bounds of computed values in thousandths, and that a pair divided by its norm is of length 1 but for rounding. Errors are taken crudely,
-- 10 ^ -4 for each 2 ^ -53. Assumes nothing.
use Rattle.std.specs.Prelude.{◌≡◌, refl, Bool, true, false, ℕ, ◌+◌, ◌-◌, ◌*◌, ◌^◌, ◌≤◌, ◌<◌, T, leb, ℤ, ◌+ℤ◌, ◌-ℤ◌, Float}
use Rattle.std.proofs.Common.{sym, ap, ◌∙◌, subst, subst₂, le_trans, le_of_eq, le_of_lt, add_comm, add-mul, mul-add, mul_comm, mul_assoc, mul-pos, mul-le-mul, mul-le-mul_left, mul-le-mul_right, le_of_mul-le-mul_right, arith, leb-true, leb-false, lit≤}
use Rattle.std.proofs.Math.Nat.{mul-mul-mul_comm}
use Rattle.std.specs.Float.{binary64}
use Rattle.std.specs.Float.Ieee.{unlike, lt, le}
use Rattle.std.specs.Float.Ieee.Fits.{add-fits}
use Rattle.numbers.specs.Float.{◌⊕◌, ◌⊖◌, ◌⊗◌, ◌⊘◌, zero_f, one_f, two_f, tolerance}
use Rattle.exact.specs.Units.{W, W-pos, W-big, Val, units, Within, unlike_self}
use Rattle.exact.proofs.Constants.{zero_val, one_val, two_val, tolerance_units, tolerance_val}
use Rattle.exact.proofs.Order.{lt_val, above_pos, above_of_not_le}
use Rattle.exact.proofs.Operations.{product_small, mul_law, Sum, add_law, sub_law, add_law_pos, div_law}
use Rattle.exact.proofs.Root.{root_law}
use Rattle.exact.proofs.SineBounds.{le_of_sq, Rel, RelAnd, rel, rel_and, Long, length_law}
use Rattle.exact.proofs.SineBase.{long_of}
use Rattle.exact.specs.Corner.{norm}
use Rattle.outline.specs.declared.Point.{Point}
use Rattle.field_cross.specs.Seeds.{seed}

-- x is finite, and at most c thousandths either way
pub record Most (c : ℕ) (x : Float) : Type 0 where
  pub sign : Bool
  pub size : ℕ
  pub val : Val x sign size
  pub most : 1000 * size ≤ c * W

pub most_more : {c : ℕ} {x : Float} (d : ℕ) → c ≤ d → Most c x → Most d x
most_more d h p = record { sign = p.sign; size = p.size; val = p.val; most = le_trans p.most (mul-le-mul_right W h) }

-- as a bound in whole numbers
pub less : (a z : ℕ) → 1000 * a ≤ z → a ≤ z
less a z h = omega arith

abbrev pub whole : {c : ℕ} {x : Float} → Most c x → Within c x
whole {c} p = record { sign = p.sign; size = p.size; val = p.val; small = less p.size (c * W) p.most }

-- W is far above 1
far_above : 1000000 ≤ W
far_above = le_trans (lit≤ {m = 1000000} {n = 10 ^ 36} tt) W-big

-- ---- operations

pub most_mul : {c d : ℕ} {x y : Float} (e : ℕ) → T (leb c (2 ^ 200)) → T (leb d (2 ^ 200)) → 10001 * (c * d) + 10000 ≤ 10000000 * e
    → Most c x → Most d y → Most e (x ⊗ y)
most_mul {c} {d} e tc td h p q =
    let r = mul_law (whole p) (whole q) tc td in
    let z = W * W in
    let a : 1000 * 1000 * (p.size * q.size) ≤ c * d * z =
    le_trans (le_of_eq (mul-mul-mul_comm 1000 1000 p.size q.size))
    (le_trans (mul-le-mul p.most q.most) (le_of_eq (mul-mul-mul_comm c W d W))) in
    let b = (rel_and (r.size * W) (p.size * q.size) W r.near).0 in
    let m = mul-le-mul_right z h in
    record {
      sign = _;
      size = r.size;
      val = r.val;
      most =
          le_of_mul-le-mul_right
          (le_trans (le_of_eq (mul_assoc 1000 r.size W))
          (le_trans (bound (r.size * W) (p.size * q.size) (c * d * z) (e * z) z W b a (mul-le-mul_right W far_above)
          (spread (c * d) e z m)) (le_of_eq (sym (mul_assoc e W W)))))
          W-pos;
    }
  where
    spread : (k e z : ℕ) → (10001 * k + 10000) * z ≤ 10000000 * e * z → 10001 * (k * z) + 10000 * z ≤ 10000000 * (e * z)
    spread k e z m =
        let l = add-mul (10001 * k) 10000 z in
        let f = mul_assoc 10001 k z in
        let g = mul_assoc 10000000 e z in omega arith

    bound : (n m k e z w : ℕ) → 10000 * n ≤ 10001 * m + 10000 * w → 1000 * 1000 * m ≤ k → 1000000 * w ≤ z
        → 10001 * k + 10000 * z ≤ 10000000 * e → 1000 * n ≤ e
    bound n m k e z w b a l h = omega arith

-- a sum or a difference of two within c and d thousandths
sum_most : {c d : ℕ} {x y z : Float} (e : ℕ) (k : ℤ) (p : Most c x) (q : Most d y) → 10001 * (c + d) ≤ 10000 * e
    → Sum k (p.size + q.size) z → Most e z
sum_most {c} {d} e k p q h s =
    record {
      sign = s.sign;
      size = s.size;
      val = s.val;
      most =
          bound s.size s.exact p.size q.size (c * W) (d * W) (e * W) (rel s.size s.exact s.near).0 s.small
          p.most q.most
          (spread c d e W (mul-le-mul_right W h));
    }
  where
    spread : (c d e w : ℕ) → 10001 * (c + d) * w ≤ 10000 * e * w → 10001 * (c * w) + 10001 * (d * w) ≤ 10000 * (e * w)
    spread c d e w m =
        let f = mul_assoc 10001 (c + d) w in
        let l = add-mul c d w in
        let g = mul_assoc 10000 e w in omega arith

    bound : (n m a b c d e : ℕ) → 10000 * n ≤ 10001 * m → m ≤ a + b → 1000 * a ≤ c → 1000 * b ≤ d → 10001 * c + 10001 * d ≤ 10000 * e
        → 1000 * n ≤ e
    bound n m a b c d e r l p q h = omega arith

pub most_add : {c d : ℕ} {x y : Float} (e : ℕ) → T (leb c (2 ^ 200)) → T (leb d (2 ^ 200)) → 10001 * (c + d) ≤ 10000 * e → Most c x
    → Most d y → Most e (x ⊕ y)
most_add {x = x} {y = y} e tc td h p q = sum_most e (units x +ℤ units y) p q h (add_law (whole p) (whole q) tc td)

pub most_sub : {c d : ℕ} {x y : Float} (e : ℕ) → T (leb c (2 ^ 200)) → T (leb d (2 ^ 200)) → 10001 * (c + d) ≤ 10000 * e → Most c x
    → Most d y → Most e (x ⊖ y)
most_sub {x = x} {y = y} e tc td h p q = sum_most e (units x -ℤ units y) p q h (sub_law (whole p) (whole q) tc td)

-- ---- the norm, where it is above 1e-12

-- l is near the length of the pair whose sizes are a and b
record NormLength (l : Float) (a b : ℕ) : Type 0 where
  L : ℕ
  val : Val l false L
  long : Long L
  near : 9985 * (a * a + b * b) ≤ 10000 * (L * L)

same_rel : (a : ℕ) → Rel a a
same_rel a = (omega arith, omega arith)

square_near : {x : Float} (p : Within 4000 x) → (n : ℕ) × (Val (x ⊗ x) false n) × (n ≤ 2 ^ 200 * W) × RelAnd (n * W) (p.size * p.size) W
square_near {x} p =
    let r = mul_law p p tt tt in
    let l = le_trans (mul-le-mul p.small p.small) (le_of_eq (mul-mul-mul_comm 4000 W 4000 W)) in (
      r.size,
      subst (λ (s : Bool). Val (x ⊗ x) s r.size) (unlike_self p.sign) r.val,
      le_trans (product_small 16000000 r.size (p.size * p.size) r.near l) (mul-le-mul_right W (lit≤ tt)),
      rel_and (r.size * W) (p.size * p.size) W r.near,
    )

norm_length : {x y : Float} (p : Within 4000 x) (q : Within 4000 y) → ((L : ℕ) → Val (norm x y) false L → tolerance_units < L)
    → NormLength (norm x y) p.size q.size
unfolding norm
norm_length {x} {y} p q above =
    let a = square_near p in
    let b = square_near q in
    let s = add_law_pos (x ⊗ x) (y ⊗ y) a.0 b.0 a.1 b.1 a.2 b.2 in
    let r = root_law (x ⊗ x ⊕ y ⊗ y) (add-fits binary64 (x ⊗ x) (y ⊗ y)) s.size s.val in
    let l = long_of r.L (above r.L r.val) in
    record {
      L = r.L;
      val = r.val;
      long = l;
      near = length_law p.size q.size p.size q.size a.0 b.0 s.size r.L (same_rel p.size) (same_rel q.size)
          a.3 b.3 s.near r.lower l;
    }

-- ---- a pair divided by its norm

-- the squares of u and v add up to 1, but for 3 thousandths
pub record UnitPair (u v : Float) : Type 0 where
  pub signs : Bool × Bool
  pub a : ℕ
  pub b : ℕ
  pub u_val : Val u signs.0 a
  pub v_val : Val v signs.1 b
  pub squares : 1000 * (a * a + b * b) ≤ 1003 * (W * W)

-- a length of 10 ^ -13 or more is above 0
positive : (L : ℕ) → Long L → 0 < L
positive L h = go L W W-pos h
  where
    go : (l w : ℕ) → 0 < w → w ≤ 10 ^ 13 * l → 0 < l
    go l w p h = omega arith

-- neither of a pair is longer than it, but for a thousandth
side_le : (a b L : ℕ) → 9985 * (a * a + b * b) ≤ 10000 * (L * L) → 1000 * a ≤ 1001 * L
side_le a b L h = le_of_sq (1000 * a) (1001 * L)
    (go (1000 * a * (1000 * a)) (1001 * L * (1001 * L)) (a * a) (b * b) (L * L) (mul-mul-mul_comm 1000 a 1000 a)
    (mul-mul-mul_comm 1001 L 1001 L) h)
  where
    go : (x y aa bb ll : ℕ) → x ≡ 1000 * 1000 * aa → y ≡ 1001 * 1001 * ll → 9985 * (aa + bb) ≤ 10000 * ll → x ≤ y
    go x y aa bb ll e f h = omega arith

-- (10001 a + L) squared
expand : (a L : ℕ) → (10001 * a + L) * (10001 * a + L) ≡ 100020001 * (a * a) + 20002 * (a * L) + L * L
expand a L =
    let k = 10001 * a in
    let e = add-mul k L (k + L) in
    let f = mul_comm k (k + L) ∙ add-mul k L k in
    let g = mul_comm L (k + L) ∙ add-mul k L L in
    let aa = mul-mul-mul_comm 10001 a 10001 a in
    let al = mul_assoc 10001 a L in
    let la = mul_comm L k in
    omega arith

upper_square : (a L : ℕ) → 1000 * a ≤ 1001 * L → (10001 * a + L) * (10001 * a + L) ≤ 100020001 * (a * a) + 20024 * (L * L)
upper_square a L h =
    let m = mul-le-mul_right L h in
    let e = mul_assoc 1000 a L in
    let f = mul_assoc 1001 L L in
    le_trans (le_of_eq (expand a L)) (go (a * a) (a * L) (L * L) (le_trans (le_of_eq (sym e)) (le_trans m (le_of_eq f))))
  where
    go : (aa al ll : ℕ) → 1000 * al ≤ 1001 * ll → 100020001 * aa + 20002 * al + ll ≤ 100020001 * aa + 20024 * ll
    go aa al ll h = omega arith

-- one of the quotients, squared: s is a / L, rounded
quotient_square : (s a L : ℕ) → 10000 * (s * L) ≤ 10001 * (a * W) + 10000 * L → 1000 * a ≤ 1001 * L
    → 100000000 * (s * s * (L * L)) ≤ (100020001 * (a * a) + 20024 * (L * L)) * (W * W)
quotient_square s a L h small =
    let u = 10001 * a + L in
    let one = scaled (s * L) (a * W) L (u * W) (L * W) h (mul-le-mul_left L (le_trans (lit≤ {m = 10000} {n = 1000000} tt) far_above))
    (add-mul (10001 * a) L W ∙ ap (λ (z : ℕ). z + L * W) (mul_assoc 10001 a W)) in
    le_trans (le_of_eq (ap (λ (z : ℕ). 100000000 * z) (mul-mul-mul_comm s s L L) ∙ sym (mul-mul-mul_comm 10000 (s * L) 10000 (s * L))))
    (le_trans (mul-le-mul one one) (le_trans (le_of_eq (mul-mul-mul_comm u W u W)) (mul-le-mul_right (W * W) (upper_square a L small))))
  where
    scaled : (x y l u v : ℕ) → 10000 * x ≤ 10001 * y + 10000 * l → l * 10000 ≤ v → u ≡ 10001 * y + v → 10000 * x ≤ u
    scaled x y l u v h k e = omega arith

unit_squares : (s t a b L : ℕ) → 0 < L → 9985 * (a * a + b * b) ≤ 10000 * (L * L)
    → 100000000 * (s * s * (L * L)) ≤ (100020001 * (a * a) + 20024 * (L * L)) * (W * W)
    → 100000000 * (t * t * (L * L)) ≤ (100020001 * (b * b) + 20024 * (L * L)) * (W * W)
    → 1000 * (s * s + t * t) ≤ 1003 * (W * W)
unit_squares s t a b L above near hs ht =
    let ll = L * L in
    let ww = W * W in
    let r = 100020001 * (a * a) + 20024 * ll in
    let r' = 100020001 * (b * b) + 20024 * ll in
    let both = le_trans (le_of_eq (sym (add-mul r r' ww)))
    (le_trans (mul-le-mul_right ww (rest (a * a) (b * b) ll near)) (le_of_eq (mul_assoc 100300000 ll ww))) in
    le_of_mul-le-mul_right
    (le_trans (le_of_eq (mul_assoc 1000 (s * s + t * t) ll ∙ ap (λ (z : ℕ). 1000 * z) (add-mul (s * s) (t * t) ll)))
    (le_trans (last (s * s * ll) (t * t * ll) (r * ww) (r' * ww) (ll * ww) hs ht both)
    (le_of_eq (ap (λ (z : ℕ). 1003 * z) (mul_comm ll ww) ∙ sym (mul_assoc 1003 ww ll)))))
    (mul-pos above above)
  where
    rest : (aa bb ll : ℕ) → 9985 * (aa + bb) ≤ 10000 * ll → 100020001 * aa + 20024 * ll + (100020001 * bb + 20024 * ll) ≤ 100300000 * ll
    rest aa bb ll h = omega arith

    last : (x y p q z : ℕ) → 100000000 * x ≤ p → 100000000 * y ≤ q → p + q ≤ 100300000 * z → 1000 * (x + y) ≤ 1003 * z
    last x y p q z a b h = omega arith

unit_of : {x y : Float} (p : Within 4000 x) (q : Within 4000 y) → NormLength (norm x y) p.size q.size
    → UnitPair (x ⊘ norm x y) (y ⊘ norm x y)
unit_of {x} {y} p q l =
    let L = l.L in
    let above = positive L l.long in
    let a = side_le p.size q.size L l.near in
    let b = side_le q.size p.size L
    (subst (λ (z : ℕ). 9985 * z ≤ 10000 * (L * L)) (add_comm (p.size * p.size) (q.size * q.size)) l.near) in
    let r = div_law x (norm x y) p.sign false p.size L p.val l.val above (moderate p.size L a) in
    let t = div_law y (norm x y) q.sign false q.size L q.val l.val above (moderate q.size L b) in
    record {
      signs = (unlike p.sign false, unlike q.sign false);
      a = r.size;
      b = t.size;
      u_val = r.val;
      v_val = t.val;
      squares =
          unit_squares r.size t.size p.size q.size L above l.near
          (quotient_square r.size p.size L (rel_and (r.size * L) (p.size * W) L r.near).0 a)
          (quotient_square t.size q.size L (rel_and (t.size * L) (q.size * W) L t.near).0 b);
    }
  where
    moderate : (a L : ℕ) → 1000 * a ≤ 1001 * L → a ≤ 2 ^ 400 * L
    moderate a L h = le_trans (twice a L h) (mul-le-mul_right L (lit≤ {m = 2} {n = 2 ^ 400} tt))
      where
        twice : (a L : ℕ) → 1000 * a ≤ 1001 * L → a ≤ 2 * L
        twice a L h = omega arith

-- divided by a norm that passes the test `1e-12 < n`, or fails the test `n <= 1e-12`
pub unit_lt : {x y : Float} → Within 4000 x → Within 4000 y → lt tolerance (norm x y) ≡ true → UnitPair (x ⊘ norm x y) (y ⊘ norm x y)
unit_lt {x} {y} p q t =
    unit_of p q (norm_length p q (λ L v. (above_pos false L tolerance_units
    ((lt_val tolerance (norm x y) false false tolerance_units L tolerance_val v).0 (rw t tt))).1))

pub unit_not_le : {x y : Float} → Within 4000 x → Within 4000 y → le (norm x y) tolerance ≡ false → UnitPair (x ⊘ norm x y) (y ⊘ norm x y)
unit_not_le {x} {y} p q t =
    unit_of p q (norm_length p q (λ L v. (above_of_not_le (norm x y) tolerance false L tolerance_units v tolerance_val (rw t tt)).1))

-- (1, 0)
pub unit_one : UnitPair one_f zero_f
unit_one = record { signs = (false, false); a = W; b = 0; u_val = one_val; v_val = zero_val; squares = go (W * W) }
  where
    go : (z : ℕ) → 1000 * (z + 0) ≤ 1003 * z
    go z = omega arith

-- each of a unit pair is at most 1.002
side_most : (a b : ℕ) → 1000 * (a * a + b * b) ≤ 1003 * (W * W) → 1000 * a ≤ 1002 * W
side_most a b h = le_of_sq (1000 * a) (1002 * W)
    (go (1000 * a * (1000 * a)) (1002 * W * (1002 * W)) (a * a) (b * b) (W * W) (mul-mul-mul_comm 1000 a 1000 a)
    (mul-mul-mul_comm 1002 W 1002 W) h)
  where
    go : (x y aa bb ww : ℕ) → x ≡ 1000 * 1000 * aa → y ≡ 1002 * 1002 * ww → 1000 * (aa + bb) ≤ 1003 * ww → x ≤ y
    go x y aa bb ww e f h = omega arith

pub unit_first : {u v : Float} → UnitPair u v → Most 1002 u
unit_first p = record { sign = p.signs.0; size = p.a; val = p.u_val; most = side_most p.a p.b p.squares }

pub unit_second : {u v : Float} → UnitPair u v → Most 1002 v
unit_second p = record {
  sign = p.signs.1;
  size = p.b;
  val = p.v_val;
  most = side_most p.b p.a (subst (λ (z : ℕ). 1000 * z ≤ 1003 * (W * W)) (add_comm (p.a * p.a) (p.b * p.b)) p.squares);
}

-- ---- the seed of a unit pair

-- twice a product is at most the sum of the squares
squares_from : (a d : ℕ) → 2 * (a * (a + d)) ≤ a * a + (a + d) * (a + d)
squares_from a d =
    let e = mul-add a a d in
    let f = add-mul a d (a + d) ∙ ap (λ (z : ℕ). a * (a + d) + z) (mul-add d a d) in
    let g = mul_comm d a in
    omega arith

squares_above : (a b : ℕ) → 2 * (a * b) ≤ a * a + b * b
squares_above a b = go (leb a b) refl
  where
    rest : (a b : ℕ) → a ≤ b → a + (b - a) ≡ b
    rest a b h = omega arith

    from : (a b : ℕ) → a ≤ b → 2 * (a * b) ≤ a * a + b * b
    from a b h = subst (λ (z : ℕ). 2 * (a * z) ≤ a * a + z * z) (rest a b h) (squares_from a (b - a))

    go : (t : Bool) → leb a b ≡ t → 2 * (a * b) ≤ a * a + b * b
    go true e = from a b (leb-true a b e)
    go false e = subst₂ (λ (x y : ℕ). 2 * x ≤ y) (mul_comm b a) (add_comm (b * b) (a * a)) (from b a (le_of_lt (leb-false a b e)))

-- the difference of the squares
difference : {s t : Float} → UnitPair s t → Most 1005 (s ⊗ s ⊖ t ⊗ t)
unfolding unit_first unit_second
difference {s} {t} p =
    let x = mul_law (whole (unit_first p)) (whole (unit_first p)) tt tt in
    let y = mul_law (whole (unit_second p)) (whole (unit_second p)) tt tt in
    let sum =
    le_of_mul-le-mul_right
    (le_trans (le_of_eq (mul_assoc 1000 (x.size + y.size) W ∙ ap (λ (z : ℕ). 1000 * z) (add-mul x.size y.size W)))
    (le_trans (both (x.size * W) (y.size * W) (p.a * p.a) (p.b * p.b) (W * W) W (rel_and (x.size * W) (p.a * p.a) W x.near).0
    (rel_and (y.size * W) (p.b * p.b) W y.near).0 p.squares (mul-le-mul_right W far_above))
    (le_of_eq (sym (mul_assoc 1004 W W)))))
    W-pos in
    let r = sub_law {K = 2} {L = 2} (record { sign = _; size = x.size; val = x.val; small = first x.size y.size W sum })
    (record { sign = _; size = y.size; val = y.val; small = second x.size y.size W sum }) tt tt in
    record {
      sign = r.sign;
      size = r.size;
      val = r.val;
      most =
          last r.size r.exact (x.size + y.size) W (rel r.size r.exact r.near).0 r.small sum;
    }
  where
    both : (x y aa bb ww w : ℕ) → 10000 * x ≤ 10001 * aa + 10000 * w → 10000 * y ≤ 10001 * bb + 10000 * w → 1000 * (aa + bb) ≤ 1003 * ww
        → 1000000 * w ≤ ww → 1000 * (x + y) ≤ 1004 * ww
    both x y aa bb ww w h k s l = omega arith

    first : (x y w : ℕ) → 1000 * (x + y) ≤ 1004 * w → x ≤ 2 * w
    first x y w h = omega arith

    second : (x y w : ℕ) → 1000 * (x + y) ≤ 1004 * w → y ≤ 2 * w
    second x y w h = omega arith

    last : (n m k w : ℕ) → 10000 * n ≤ 10001 * m → m ≤ k → 1000 * k ≤ 1004 * w → 1000 * n ≤ 1005 * w
    last n m k w h l s = omega arith

-- the product
product : {s t : Float} → UnitPair s t → Most 502 (s ⊗ t)
unfolding unit_first unit_second
product {s} {t} p =
    let r = mul_law (whole (unit_first p)) (whole (unit_second p)) tt tt in
    record {
      sign = _;
      size = r.size;
      val = r.val;
      most =
          le_of_mul-le-mul_right
          (le_trans (le_of_eq (mul_assoc 1000 r.size W))
          (le_trans (bound (r.size * W) (p.a * p.b) (p.a * p.a + p.b * p.b) (W * W) W
          (rel_and (r.size * W) (p.a * p.b) W r.near).0 (squares_above p.a p.b) p.squares
          (mul-le-mul_right W far_above)) (le_of_eq (sym (mul_assoc 502 W W)))))
          W-pos;
    }
  where
    bound : (n m q ww w : ℕ) → 10000 * n ≤ 10001 * m + 10000 * w → 2 * m ≤ q → 1000 * q ≤ 1003 * ww → 1000000 * w ≤ ww → 1000 * n ≤ 502 * ww
    bound n m q ww w h k s l = omega arith

two_most : Most 2000 two_f
two_most = record { sign = false; size = 2 * W; val = two_val; most = le_of_eq (sym (mul_assoc 1000 2 W)) }

-- both of the seed's floats are at most 4
pub seed_most : (t : Point) → UnitPair t.x t.y → Most 4000 (seed t).x × Most 4000 (seed t).y
unfolding seed
seed_most t p =
    let d = difference p in
    let q = most_mul {x = two_f} {y = t.x ⊗ t.y} 1005 tt tt (lit≤ tt) two_most (product p) in (
      most_more 4000 (lit≤ tt) (most_sub 2023 tt tt (lit≤ tt) (most_mul 1011 tt tt (lit≤ tt) d d) (most_mul 1011 tt tt (lit≤ tt) q q)),
      most_more 4000 (lit≤ tt) (most_mul 2023 tt tt (lit≤ tt) two_most (most_mul 1011 tt tt (lit≤ tt) d q)),
    )
