-- The rounded +, -, * and / keep the order. `Rounds z c x` says that x is what `round` makes of the exact fraction z / c, and `rounds_keep` that
-- of two such fractions the larger rounds to a double that is not below. Every operation makes such an x, and a double is one itself, so what
-- is exactly at most a double is at most it when it is rounded. Nothing is asked of sizes: an overflow keeps the order too. Zeros of both
-- signs are equal here, as in `<=`. Assumes nothing.
use Rattle.std.specs.Prelude.{◌≡◌, refl, ◌⊎◌, ◌↔◌, [], ◌∷◌, Bool, true, false, not, cond, ℕ, zero, suc, ◌+◌, ◌-◌, ◌*◌, ◌/◌, ◌^◌, ◌≤◌, ◌<◌, ℤ, pos, neg_ℤ, ◌+ℤ◌, ◌-ℤ◌, ◌*ℤ◌, ◌≤ℤ◌, T, ltb}
use Rattle.std.proofs.Common.{sym, ap, ap₂, ◌∙◌, subst, subst₂, inl, inr, true≢false, zero-le, le_trans, le_of_eq, zero-mul, one-mul, mul_comm, mul_assoc, mul-pos, mul-le-mul, mul-div_cancel, add-mul, add-le-add, lt_irrefl, zero-lt-suc, arith, leb→le, le→leb, pow_pos}
use Rattle.std.proofs.Math.Nat.{mul-mul-mul_comm}
use Rattle.std.specs.Int.Signed.{≤ℤ_refl}
use lib.Ieee.{Float, nan, inf, fin, binary64, down, unlike, fits, le, lt, eq, neg, sub, odd, size, round, top, hid, of_bits, to_bits, is_nan}
use Rattle.std.specs.Float.Ieee.Bits.{of_bits-to_bits, of_bits-fits}
use Rattle.std.specs.Float.Ieee.Exact.{odd_sign, round_exact}
use Rattle.std.specs.Float.Ieee.Fits.{down_pos, round_is, round-fits}
use Rattle.std.specs.Float.Ieee.Order.{drop, kept, round_mono}
use Rattle.std.specs.Float.Ieee.Scale.{round_same}
use Rattle.laws.proofs.RingBase.{var, num, ◌+ᵉ◌, ◌*ᵉ◌, ◌-ᵉ◌}
use Rattle.laws.proofs.Ring.{ring}
use Rattle.laws.proofs.RingBase as R
use Rattle.laws.proofs.CertificateBase.{Nonneg, nonneg, of-≤ℤ, to-≤ℤ, hyp, ◌⊞◌, ◌⊠◌}
use Rattle.laws.proofs.Certificate.{prove}
use Rattle.numbers.specs.Float.{◌⊕◌, ◌⊖◌, ◌⊗◌, ◌⊘◌, is_finite, zero_f, one_f}
use Rattle.numbers.specs.Nearest.{Representable, digits_of}
use Rattle.exact.specs.Units.{W, W-pos, Val, signed, signed_not, units, size_of, val_of, neg_val, unlike_self, Within, within_units}
use Rattle.exact.proofs.Constants.{zero_val, one_val}
use Rattle.exact.proofs.Order.{le_val, le_units, not_lt_val}
use Rattle.exact.proofs.Operations.{mul_is, add_is, div_is, exact_sum, Moderate, mul_law, product_within, add_law, sub_law, sum_within}

-- ---- integers with a sign and a size

signed_product : (s t : Bool) (a b : ℕ) → signed (unlike s t) (a * b) ≡ signed s a *ℤ signed t b
signed_product false false a b = refl
signed_product false true a b = ring (pos a ∷ pos b ∷ []) (R.neg (var 0 *ᵉ var 1)) (var 0 *ᵉ R.neg (var 1)) tt
signed_product true false a b = ring (pos a ∷ pos b ∷ []) (R.neg (var 0 *ᵉ var 1)) (R.neg (var 0) *ᵉ var 1) tt
signed_product true true a b = ring (pos a ∷ pos b ∷ []) (var 0 *ᵉ var 1) (R.neg (var 0) *ᵉ R.neg (var 1)) tt

signed_scale : (s : Bool) (a k : ℕ) → signed s (a * k) ≡ signed s a *ℤ pos k
signed_scale false a k = refl
signed_scale true a k = signed_product true false a k

turn : (a b : ℤ) → a ≤ℤ b → neg_ℤ b ≤ℤ neg_ℤ a
turn a b h = to-≤ℤ (prove (a ∷ b ∷ []) ((var 1 -ᵉ var 0) ∷ []) (of-≤ℤ h, tt) [] tt 0 (R.neg (var 0) -ᵉ R.neg (var 1)) (hyp 0) tt)

pub ≤ℤ_trans : {a b c : ℤ} → a ≤ℤ b → b ≤ℤ c → a ≤ℤ c
≤ℤ_trans {a} {b} {c} h k =
    to-≤ℤ (prove (a ∷ b ∷ c ∷ []) ((var 1 -ᵉ var 0) ∷ (var 2 -ᵉ var 1) ∷ []) (of-≤ℤ h, (of-≤ℤ k, tt)) [] tt 0 (var 2 -ᵉ var 0) (hyp 0 ⊞ hyp 1) tt)

minus_least : (a b : ℕ) → neg_ℤ (pos a) ≤ℤ pos b
minus_least zero b = record { le = le→leb 0 b zero-le }
minus_least (suc a) b = record { le = tt }

both_zero : (a b : ℕ) → pos a ≤ℤ neg_ℤ (pos b) → (a ≡ 0) × (b ≡ 0)
both_zero a zero h = (none a (leb→le a 0 h.le), refl)
  where
    none : (a : ℕ) → a ≤ 0 → a ≡ 0
    none a h = omega arith
both_zero a (suc b) h = absurd h.le

-- ---- what `round` answers is an infinity or a number of units, with the sign given

pub round_either : (s : Bool) (a c : ℕ) → (round binary64 s a c ≡ inf s) ⊎ ((n : ℕ) × Val (round binary64 s a c) s n)
unfolding W lib.Ieee.units
round_either s a c =
    let q = kept 53 (a * 2 ^ 1074) c in
    let k = drop 53 (a * 2 ^ 1074) c in
    subst (λ (x : Float). (x ≡ inf s) ⊎ ((n : ℕ) × Val x s n)) (sym (round_is binary64 s a c)) (go (ltb (q * 2 ^ k) (2 ^ 2098)) q k)
  where
    go : (b : Bool) (q k : ℕ)
        → (cond b (odd 54 s q k 1074) (inf s) ≡ inf s) ⊎ ((n : ℕ) × Val (cond b (odd 54 s q k 1074) (inf s)) s n)
    go true q k = inr (q * 2 ^ k, odd_sign 54 s q k 1074)
    go false q k = inl refl

round_neg : (a c : ℕ) → round binary64 true a c ≡ neg (round binary64 false a c)
unfolding lib.Ieee.units odd neg
round_neg a c =
    let q = kept 53 (a * 2 ^ 1074) c in
    let k = drop 53 (a * 2 ^ 1074) c in
    round_is binary64 true a c ∙ go (ltb (q * 2 ^ k) (2 ^ 2098)) q k ∙ ap neg (sym (round_is binary64 false a c))
  where
    go : (b : Bool) (q k : ℕ) → cond b (odd 54 true q k 1074) (inf true) ≡ neg (cond b (odd 54 false q k 1074) (inf false))
    go true zero k = refl
    go true (suc q) k = refl
    go false q k = refl

-- a zero
pub round_zero : (s : Bool) (c : ℕ) → 0 < c → Val (round binary64 s 0 c) s 0
unfolding W
round_zero s c C =
    subst (λ (x : Float). Val x s 0) (round_same binary64 s 0 W 0 c W-pos C (zero-mul c ∙ sym (zero-mul W)))
    (round_exact binary64 s 0 W 0 0 W-pos (pow_pos 53) (pow_pos 2098) (zero-mul (2 ^ 1074) ∙ sym (zero-mul W)))

-- ---- `round` keeps the order

neg_le_val : (x y : Float) (s t : Bool) (a b : ℕ) → Val x s a → Val y t b → T (le x y) → T (le (neg y) (neg x))
neg_le_val x y s t a b p q h =
    (le_val (neg y) (neg x) (not t) (not s) b a (neg_val y t b q) (neg_val x s a p)).1
    (subst₂ (λ (u v : ℤ). u ≤ℤ v) (sym (signed_not t b)) (sym (signed_not s a)) (turn (signed s a) (signed t b) ((le_val x y s t a b p q).0 h)))

neg_le : (x y : Float) → T (fits binary64 x) → T (fits binary64 y) → T (le x y) → T (le (neg y) (neg x))
unfolding le lt eq neg is_finite
neg_le nan y f g h = absurd h
neg_le (inf s) nan f g h = absurd h
neg_le (inf true) (inf true) f g h = tt
neg_le (inf true) (inf false) f g h = tt
neg_le (inf false) (inf true) f g h = absurd h
neg_le (inf false) (inf false) f g h = tt
neg_le (inf true) (fin t n d) f g h = tt
neg_le (inf false) (fin t n d) f g h = absurd h
neg_le (fin s m e) nan f g h = absurd h
neg_le (fin s m e) (inf true) f g h = absurd h
neg_le (fin s m e) (inf false) f g h = tt
neg_le (fin s m e) (fin t n d) f g h =
    neg_le_val (fin s m e) (fin t n d) s t (size_of (fin s m e)) (size_of (fin t n d)) (val_of (fin s m e) tt f) (val_of (fin t n d) tt g) h

signs_keep : (a c b d : ℕ) → T (le (round binary64 true a c) (round binary64 false b d))
unfolding le lt eq
signs_keep a c b d = go (round binary64 true a c) (round binary64 false b d) (round_either true a c) (round_either false b d)
  where
    least : (y : Float) (s : Bool) (n : ℕ) → Val y s n → T (le (inf true) y)
    least nan s n v = absurd v
    least (inf t) s n v = absurd v
    least (fin t m e) s n v = tt

    most : (x : Float) (s : Bool) (n : ℕ) → Val x s n → T (le x (inf false))
    most nan s n v = absurd v
    most (inf t) s n v = absurd v
    most (fin t m e) s n v = tt

    go : (x y : Float) → (x ≡ inf true) ⊎ ((n : ℕ) × Val x true n) → (y ≡ inf false) ⊎ ((n : ℕ) × Val y false n) → T (le x y)
    go x y (inl e) (inl f) = subst₂ (λ (x y : Float). T (le x y)) (sym e) (sym f) tt
    go x y (inl e) (inr (n, v)) = subst (λ (x : Float). T (le x y)) (sym e) (least y false n v)
    go x y (inr (n, v)) (inl f) = subst (λ (y : Float). T (le x y)) (sym f) (most x true n v)
    go x y (inr (n, v)) (inr (m, w)) = (le_val x y true false n m v w).1 (minus_least n m)

pub round_keeps : (s t : Bool) (a c b d : ℕ) → 0 < c → 0 < d → signed s (a * d) ≤ℤ signed t (b * c)
    → T (le (round binary64 s a c) (round binary64 t b d))
round_keeps false false a c b d C D h = round_mono binary64 a c b d C D (leb→le (a * d) (b * c) h.le)
round_keeps true true a c b d C D h =
    subst₂ (λ (x y : Float). T (le x y)) (sym (round_neg a c)) (sym (round_neg b d))
    (neg_le (round binary64 false b d) (round binary64 false a c) (round-fits binary64 false b d) (round-fits binary64 false a c)
    (round_mono binary64 b d a c D C (leb→le (b * c) (a * d) back.le)))
  where
    back : pos (b * c) ≤ℤ pos (a * d)
    back =
        to-≤ℤ
        (prove (pos (a * d) ∷ pos (b * c) ∷ []) ((R.neg (var 1) -ᵉ R.neg (var 0)) ∷ []) (of-≤ℤ h, tt) [] tt 0 (var 0 -ᵉ var 1) (hyp 0) tt)
round_keeps true false a c b d C D h = signs_keep a c b d
round_keeps false true a c b d C D h =
    let z = both_zero (a * d) (b * c) h in
    subst₂ (λ (a b : ℕ). T (le (round binary64 false a c) (round binary64 true b d))) (sym (none a d D z.0)) (sym (none b c C z.1))
    ((le_val (round binary64 false 0 c) (round binary64 true 0 d) false true 0 0 (round_zero false c C) (round_zero true d D)).1 (≤ℤ_refl (pos 0)))
  where
    none : (n k : ℕ) → 0 < k → n * k ≡ 0 → n ≡ 0
    none zero k K e = refl
    none (suc n) k K e = absurd (lt_irrefl 0 (subst (λ (z : ℕ). 0 < z) e (mul-pos (zero-lt-suc n) K)))

neg_val_back : (x : Float) (n : ℕ) → Val (neg x) true n → Val x false n
unfolding neg
neg_val_back nan n v = v
neg_val_back (inf s) n v = v
neg_val_back (fin true m e) n v = absurd (true≢false (sym v.0))
neg_val_back (fin false m e) n v = (refl, v.1)

-- of sizes, whatever the signs
pub sizes_keep : (s t : Bool) (a c b d n m : ℕ) → 0 < c → 0 < d → Val (round binary64 s a c) s n → Val (round binary64 t b d) t m → a * d ≤ b * c → n ≤ m
sizes_keep s t a c b d n m C D v w h =
    leb→le n m
    ((le_val (round binary64 false a c) (round binary64 false b d) false false n m (plus s a c n v) (plus t b d m w)).0 (round_mono binary64 a c b d C D h)).le
  where
    plus : (s : Bool) (a c n : ℕ) → Val (round binary64 s a c) s n → Val (round binary64 false a c) false n
    plus false a c n v = v
    plus true a c n v = neg_val_back (round binary64 false a c) n (subst (λ (x : Float). Val x true n) (round_neg a c) v)

-- ---- exact fractions, rounded

-- x is what `round` makes of z / c
pub record Rounds (z : ℤ) (c : ℕ) (x : Float) : Type 0 where
  pub sign : Bool
  pub size : ℕ
  pub is : signed sign size ≡ z
  pub same : x ≡ round binary64 sign size c

-- z / c ≤ z' / c'
pub rounds_keep : {z z' : ℤ} {c c' : ℕ} {x x' : Float} → Rounds z c x → Rounds z' c' x' → 0 < c → 0 < c' → (z *ℤ pos c') ≤ℤ (z' *ℤ pos c) → T (le x x')
rounds_keep {z} {z'} {c} {c'} r r' C C' h =
    subst₂ (λ (x y : Float). T (le x y)) (sym r.same) (sym r'.same)
    (round_keeps r.sign r'.sign r.size c r'.size c' C C' (subst₂ (λ (a b : ℤ). a ≤ℤ b) (sym (scaled r c')) (sym (scaled r' c)) h))
  where
    scaled : {z : ℤ} {c : ℕ} {x : Float} (r : Rounds z c x) (k : ℕ) → signed r.sign (r.size * k) ≡ z *ℤ pos k
    scaled r k = signed_scale r.sign r.size k ∙ ap (λ (a : ℤ). a *ℤ pos k) r.is

pub scale-≤ℤ : {a b : ℤ} (k : ℕ) → a ≤ℤ b → (a *ℤ pos k) ≤ℤ (b *ℤ pos k)
scale-≤ℤ {a} {b} k h =
    to-≤ℤ
    (prove (a ∷ b ∷ pos k ∷ []) ((var 1 -ᵉ var 0) ∷ var 2 ∷ []) (of-≤ℤ h, (nonneg k, tt)) [] tt 0 (var 1 *ᵉ var 2 -ᵉ var 0 *ᵉ var 2) (hyp 0 ⊠ hyp 1) tt)

-- over one denominator
pub rounds_keep_over : {z z' : ℤ} {c : ℕ} {x x' : Float} → 0 < c → Rounds z c x → Rounds z' c x' → z ≤ℤ z' → T (le x x')
rounds_keep_over {c = c} C r r' h = rounds_keep r r' C C (scale-≤ℤ c h)

-- ---- the operations make such

pub sum_rounds : {K L : ℕ} {x y : Float} → Within K x → Within L y → Rounds (units x +ℤ units y) W (x ⊕ y)
sum_rounds {x = x} {y = y} p q =
    let e = exact_sum p.sign p.size q.sign q.size in
    record {
      sign = e.sign;
      size = e.size;
      is = e.is ∙ ap₂ (λ (a b : ℤ). a +ℤ b) (sym (within_units p)) (sym (within_units q));
      same = add_is x y p.sign q.sign p.size q.size p.val q.val ∙ e.same;
    }

pub difference_rounds : {K L : ℕ} {x y : Float} → Within K x → Within L y → Rounds (units x -ℤ units y) W (x ⊖ y)
unfolding sub
difference_rounds {x = x} {y = y} p q =
    let e = exact_sum p.sign p.size (not q.sign) q.size in
    record {
      sign = e.sign;
      size = e.size;
      is = e.is ∙ ap₂ (λ (a b : ℤ). a +ℤ b) (sym (within_units p)) (signed_not q.sign q.size ∙ ap neg_ℤ (sym (within_units q)));
      same = add_is x (neg y) p.sign (not q.sign) p.size q.size p.val (neg_val y q.sign q.size q.val) ∙ e.same;
    }

pub product_rounds : {K L : ℕ} {x y : Float} → Within K x → Within L y → Rounds (units x *ℤ units y) (W * W) (x ⊗ y)
product_rounds {x = x} {y = y} p q = record {
  sign = unlike p.sign q.sign;
  size = p.size * q.size;
  is = signed_product p.sign q.sign p.size q.size ∙ ap₂ (λ (a b : ℤ). a *ℤ b) (sym (within_units p)) (sym (within_units q));
  same = mul_is x y p.sign q.sign p.size q.size p.val q.val;
}

pub quotient_rounds : {K L : ℕ} {x y : Float} (p : Within K x) (q : Within L y) → 0 < q.size
    → Rounds (signed (unlike p.sign q.sign) p.size) q.size (x ⊘ y)
quotient_rounds {x = x} {y = y} p q h = record {
  sign = unlike p.sign q.sign;
  size = p.size;
  is = refl;
  same = div_is x y p.sign q.sign p.size q.size p.val q.val h;
}

-- ---- bounds of their results, crudely

pub add_within : {K L : ℕ} {x y : Float} → Moderate K → Moderate L → Within K x → Within L y → Within (2 * (K + L)) (x ⊕ y)
add_within {K} {L} k l p q = sum_within (K + L) (add_law p q k l) (le_trans (add-le-add p.small q.small) (le_of_eq (sym (add-mul K L W))))

pub sub_within : {K L : ℕ} {x y : Float} → Moderate K → Moderate L → Within K x → Within L y → Within (2 * (K + L)) (x ⊖ y)
sub_within {K} {L} k l p q = sum_within (K + L) (sub_law p q k l) (le_trans (add-le-add p.small q.small) (le_of_eq (sym (add-mul K L W))))

pub mul_within : {K L : ℕ} {x y : Float} → Moderate K → Moderate L → Within K x → Within L y → Within (2 * (K * L) + 1) (x ⊗ y)
mul_within {K} {L} k l p q =
    product_within (K * L) (mul_law p q k l) (le_trans (mul-le-mul p.small q.small) (le_of_eq (mul-mul-mul_comm K W L W)))

-- ---- a double is itself, rounded

-- the bit pattern, by the sign and the size in units
abbrev pattern : Bool → ℕ → ℕ
pattern s n = let k = size n - 53 in cond s (top binary64) 0 + k * hid binary64 + n / 2 ^ k

pattern_val : (x : Float) (s : Bool) (a : ℕ) → Val x s a → to_bits binary64 x ≡ pattern s a
unfolding to_bits W
pattern_val nan s a v = absurd v
pattern_val (inf t) s a v = absurd v
pattern_val (fin t m e) s a v = ap₂ pattern v.0 (ap (λ (z : ℕ). z / down e) v.1 ∙ mul-div_cancel a (down_pos e))

-- two doubles with one value have one bit pattern, so they are one
pub double_unique : (x y : Float) (s : Bool) (a : ℕ) → T (fits binary64 x) → T (fits binary64 y) → Val x s a → Val y s a → x ≡ y
double_unique x y s a f g v w =
    sym (of_bits-to_bits binary64 x f) ∙ ap (of_bits binary64) (pattern_val x s a v ∙ sym (pattern_val y s a w)) ∙ of_bits-to_bits binary64 y g

digits_val : (x : Float) (s : Bool) (a : ℕ) → T (fits binary64 x) → Val x s a → Representable a
unfolding W fits
digits_val nan s a f v = absurd v
digits_val (inf t) s a f v = absurd v
digits_val (fin t zero e) s a f v = digits_of (fin false zero e) a f (refl, v.1)
digits_val (fin t (suc m) e) s a f v = digits_of (fin false (suc m) e) a f (refl, v.1)

round_digits : (s : Bool) (a : ℕ) → Representable a → Val (round binary64 s a W) s a
unfolding W
round_digits s a d =
    round_exact binary64 s a W d.m d.j W-pos d.small (subst (λ (z : ℕ). z < 2 ^ 2098) d.is d.top) (ap (λ (z : ℕ). z * 2 ^ 1074) d.is)

pub round_own : (x : Float) (s : Bool) (a : ℕ) → T (fits binary64 x) → Val x s a → x ≡ round binary64 s a W
round_own x s a f v = double_unique x (round binary64 s a W) s a f (round-fits binary64 s a W) v (round_digits s a (digits_val x s a f v))

pub double_rounds : {K : ℕ} {x : Float} → T (fits binary64 x) → Within K x → Rounds (units x) W x
double_rounds {x = x} f p =
    record { sign = p.sign; size = p.size; is = sym (within_units p); same = round_own x p.sign p.size f p.val }

-- ---- 0 and 1

pub zero_fits : T (fits binary64 zero_f)
zero_fits = of_bits-fits binary64 0x0000_0000_0000_0000

pub one_fits : T (fits binary64 one_f)
one_fits = of_bits-fits binary64 0x3ff0_0000_0000_0000

abbrev pub zero_within : Within 0 zero_f
zero_within = record { sign = false; size = 0; val = zero_val; small = zero-le }

abbrev pub one_within : Within 1 one_f
one_within = record { sign = false; size = W; val = one_val; small = le_of_eq (sym (one-mul W)) }

pub zero_units : units zero_f ≡ pos 0
zero_units = within_units zero_within

pub one_units : units one_f ≡ pos W
one_units = within_units one_within

-- 0 times w is a zero, and 1 times w is w
pub zero_times : {K : ℕ} {w : Float} (p : Within K w) → Val (zero_f ⊗ w) (unlike false p.sign) 0
zero_times {w = w} p =
    let s = unlike false p.sign in
    subst (λ (x : Float). Val x s 0)
    (sym (mul_is zero_f w false p.sign 0 p.size zero_val p.val ∙ ap (λ (n : ℕ). round binary64 s n (W * W)) (zero-mul p.size)))
    (round_zero s (W * W) (mul-pos W-pos W-pos))

pub one_times : {K : ℕ} {w : Float} → T (fits binary64 w) → Within K w → one_f ⊗ w ≡ w
one_times {w = w} f p =
    mul_is one_f w false p.sign W p.size one_val p.val
    ∙ round_same binary64 (unlike false p.sign) (W * p.size) (W * W) p.size W (mul-pos W-pos W-pos) W-pos (scaled W p.size)
    ∙ ap (λ (s : Bool). round binary64 s p.size W) (plus p.sign)
    ∙ sym (round_own w p.sign p.size f p.val)
  where
    plus : (s : Bool) → unlike false s ≡ s
    plus true = refl
    plus false = refl

    scaled : (w n : ℕ) → w * n * w ≡ n * (w * w)
    scaled w n = ap (λ (z : ℕ). z * w) (mul_comm w n) ∙ mul_assoc n w w

-- ---- `<=` of doubles with bounds is the order of their units

pub le_within : {K L : ℕ} {x y : Float} → Within K x → Within L y → T (le x y) ↔ (units x ≤ℤ units y)
le_within {x = x} {y = y} p q =
    let i = le_val x y p.sign q.sign p.size q.size p.val q.val in
    rw (within_units p, within_units q) i

pub le_through : {K L M : ℕ} {x y z : Float} → Within K x → Within L y → Within M z → T (le x y) → T (le y z) → T (le x z)
le_through p q r h k = (le_within p r).1 (≤ℤ_trans ((le_within p q).0 h) ((le_within q r).0 k))

pub le_self : {K : ℕ} {x : Float} → Within K x → T (le x x)
le_self {x = x} p = (le_within p p).1 (≤ℤ_refl (units x))

pub nonneg_units : {K : ℕ} {x : Float} → Within K x → T (le zero_f x) → Nonneg (units x)
nonneg_units {x = x} p h =
    let k : pos 0 ≤ℤ units x = subst (λ (a : ℤ). a ≤ℤ units x) zero_units ((le_within zero_within p).0 h) in
    prove (units x ∷ []) ((var 0 -ᵉ num 0) ∷ []) (of-≤ℤ k, tt) [] tt 0 (var 0) (hyp 0) tt

pub nonpos_units : {K : ℕ} {x : Float} → Within K x → T (le x zero_f) → Nonneg (neg_ℤ (units x))
nonpos_units {x = x} p h =
    let k : units x ≤ℤ pos 0 = subst (λ (a : ℤ). units x ≤ℤ a) zero_units ((le_within p zero_within).0 h) in
    prove (units x ∷ []) ((num 0 -ᵉ var 0) ∷ []) (of-≤ℤ k, tt) [] tt 0 (R.neg (var 0)) (hyp 0) tt

-- ---- and of all doubles, infinities too

not_le_nan : (x : Float) → T (le x nan) → ⊥
unfolding le lt eq
not_le_nan nan h = h
not_le_nan (inf s) h = h
not_le_nan (fin s m e) h = h

pub le_chain : (x y z : Float) → T (fits binary64 x) → T (fits binary64 y) → T (fits binary64 z) → T (le x y) → T (le y z) → T (le x z)
unfolding le lt eq is_finite
le_chain nan y z f g i h k = absurd h
le_chain (inf true) y nan f g i h k = absurd (not_le_nan y k)
le_chain (inf true) y (inf true) f g i h k = tt
le_chain (inf true) y (inf false) f g i h k = tt
le_chain (inf true) y (fin u l c) f g i h k = tt
le_chain (inf false) nan z f g i h k = absurd h
le_chain (inf false) (inf true) z f g i h k = absurd h
le_chain (inf false) (inf false) z f g i h k = k
le_chain (inf false) (fin t n d) z f g i h k = absurd h
le_chain (fin s m e) nan z f g i h k = absurd h
le_chain (fin s m e) (inf true) z f g i h k = absurd h
le_chain (fin s m e) (inf false) nan f g i h k = absurd k
le_chain (fin s m e) (inf false) (inf true) f g i h k = absurd k
le_chain (fin s m e) (inf false) (inf false) f g i h k = tt
le_chain (fin s m e) (inf false) (fin u l c) f g i h k = absurd k
le_chain (fin s m e) (fin t n d) nan f g i h k = absurd k
le_chain (fin s m e) (fin t n d) (inf true) f g i h k = absurd k
le_chain (fin s m e) (fin t n d) (inf false) f g i h k = tt
le_chain (fin s m e) (fin t n d) (fin u l c) f g i h k =
    let x = fin s m e in
    let y = fin t n d in
    let z = fin u l c in
    (le_units x z tt f tt i).1 (≤ℤ_trans ((le_units x y tt f tt g).0 h) ((le_units y z tt g tt i).0 k))

-- what is no NaN and not below
pub le_of_not_lt : (x y : Float) → T (fits binary64 x) → T (fits binary64 y) → T (not (is_nan x)) → T (not (is_nan y)) → T (not (lt x y)) → T (le y x)
unfolding le lt eq is_nan is_finite
le_of_not_lt nan y f g n m h = absurd n
le_of_not_lt (inf s) nan f g n m h = absurd m
le_of_not_lt (inf true) (inf true) f g n m h = tt
le_of_not_lt (inf true) (inf false) f g n m h = absurd h
le_of_not_lt (inf true) (fin t k d) f g n m h = absurd h
le_of_not_lt (inf false) (inf true) f g n m h = tt
le_of_not_lt (inf false) (inf false) f g n m h = tt
le_of_not_lt (inf false) (fin t k d) f g n m h = tt
le_of_not_lt (fin s j e) nan f g n m h = absurd m
le_of_not_lt (fin s j e) (inf true) f g n m h = tt
le_of_not_lt (fin s j e) (inf false) f g n m h = absurd h
le_of_not_lt (fin s j e) (fin t k d) f g n m h =
    let x = fin s j e in
    let y = fin t k d in
    (le_units y x tt g tt f).1 ((not_lt_val x y s t (size_of x) (size_of y) (val_of x tt f) (val_of y tt g)).0 h)

-- ---- the laws

module _ {K L M N : ℕ} {x y x' y' : Float} (p : Within K x) (q : Within L y) (p' : Within M x') (q' : Within N y') where
  -- x ≤ x' and y ≤ y'
  pub adds_keep : T (le x x') → T (le y y') → T (le (x ⊕ y) (x' ⊕ y'))
  adds_keep h k =
      rounds_keep_over W-pos (sum_rounds p q) (sum_rounds p' q')
      (to-≤ℤ
      (prove (units x ∷ units y ∷ units x' ∷ units y' ∷ []) ((var 2 -ᵉ var 0) ∷ (var 3 -ᵉ var 1) ∷ [])
      (of-≤ℤ ((le_within p p').0 h), (of-≤ℤ ((le_within q q').0 k), tt)) [] tt 0 (var 2 +ᵉ var 3 -ᵉ (var 0 +ᵉ var 1)) (hyp 0 ⊞ hyp 1) tt))

  -- x ≤ x' and y' ≤ y
  pub subs_keep : T (le x x') → T (le y' y) → T (le (x ⊖ y) (x' ⊖ y'))
  subs_keep h k =
      rounds_keep_over W-pos (difference_rounds p q) (difference_rounds p' q')
      (to-≤ℤ
      (prove (units x ∷ units y ∷ units x' ∷ units y' ∷ []) ((var 2 -ᵉ var 0) ∷ (var 1 -ᵉ var 3) ∷ [])
      (of-≤ℤ ((le_within p p').0 h), (of-≤ℤ ((le_within q' q).0 k), tt)) [] tt 0 (var 2 -ᵉ var 3 -ᵉ (var 0 -ᵉ var 1)) (hyp 0 ⊞ hyp 1) tt))

module _ {K L M : ℕ} {x y z : Float} (p : Within K x) (q : Within L y) (r : Within M z) (h : T (le x y)) where
  pub add_keeps : T (le (x ⊕ z) (y ⊕ z))
  add_keeps = adds_keep p r q r h (le_self r)

  pub add_keeps_right : T (le (z ⊕ x) (z ⊕ y))
  add_keeps_right = adds_keep r p r q (le_self r) h

  pub sub_keeps : T (le (x ⊖ z) (y ⊖ z))
  sub_keeps = subs_keep p r q r h (le_self r)

  pub sub_turns : T (le (z ⊖ y) (z ⊖ x))
  sub_turns = subs_keep r q r p (le_self r) h

  -- a factor that is not negative
  pub mul_keeps : T (le zero_f z) → T (le (x ⊗ z) (y ⊗ z))
  mul_keeps k =
      rounds_keep_over (mul-pos W-pos W-pos) (product_rounds p r) (product_rounds q r)
      (to-≤ℤ
      (prove (units x ∷ units y ∷ units z ∷ []) ((var 1 -ᵉ var 0) ∷ var 2 ∷ []) (of-≤ℤ ((le_within p q).0 h), (nonneg_units r k, tt)) [] tt 0
      (var 1 *ᵉ var 2 -ᵉ var 0 *ᵉ var 2) (hyp 0 ⊠ hyp 1) tt))

  -- one that is not positive turns it
  pub mul_turns : T (le z zero_f) → T (le (y ⊗ z) (x ⊗ z))
  mul_turns k =
      rounds_keep_over (mul-pos W-pos W-pos) (product_rounds q r) (product_rounds p r)
      (to-≤ℤ
      (prove (units x ∷ units y ∷ units z ∷ []) ((var 1 -ᵉ var 0) ∷ R.neg (var 2) ∷ []) (of-≤ℤ ((le_within p q).0 h), (nonpos_units r k, tt)) [] tt 0
      (var 0 *ᵉ var 2 -ᵉ var 1 *ᵉ var 2) (hyp 0 ⊠ hyp 1) tt))

-- ---- squares: the larger size has the larger square

square_rounds : {K : ℕ} {x : Float} (p : Within K x) → Rounds (pos (p.size * p.size)) (W * W) (x ⊗ x)
square_rounds {x = x} p =
    let n = p.size in
    record {
      sign = false;
      size = n * n;
      is = refl;
      same = mul_is x x p.sign p.sign n n p.val p.val ∙ ap (λ (s : Bool). round binary64 s (n * n) (W * W)) (unlike_self p.sign);
    }

pub square_keeps : {K L : ℕ} {x y : Float} (p : Within K x) (q : Within L y) → p.size ≤ q.size → T (le (x ⊗ x) (y ⊗ y))
square_keeps p q h =
    rounds_keep_over (mul-pos W-pos W-pos) (square_rounds p) (square_rounds q)
    (record { le = le→leb (p.size * p.size) (q.size * q.size) (mul-le-mul h h) })

pub square_within : {K : ℕ} {x : Float} → Moderate K → Within K x → Within (2 * (K * K) + 1) (x ⊗ x)
square_within m p = mul_within m m p p

-- x² + y², where neither size shrinks
pub squares_keep : {K L M N : ℕ} {x y x' y' : Float} (p : Within K x) (q : Within L y) (p' : Within M x') (q' : Within N y')
    → Moderate K → Moderate L → Moderate M → Moderate N → p.size ≤ p'.size → q.size ≤ q'.size → T (le (x ⊗ x ⊕ y ⊗ y) (x' ⊗ x' ⊕ y' ⊗ y'))
squares_keep p q p' q' k l m n h i =
    adds_keep (square_within k p) (square_within l q) (square_within m p') (square_within n q') (square_keeps p p' h) (square_keeps q q' i)
