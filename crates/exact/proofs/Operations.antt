-- How far +, -, * and / of doubles are from the exact results, in units. Where the operands are at most 2 ^ 200 either way nothing overflows,
-- the sign is the exact result's, and its size is close: a sum or a difference within one part in 2 ^ 53, a product or a quotient within
-- that and half a unit (Rounding, `Close`). Assumes nothing.
use Rattle.std.specs.Prelude.{◌≡◌, refl, Bool, true, false, not, ◌&&◌, cond, ℕ, zero, suc, ◌+◌, ◌-◌, ◌*◌, ◌^◌, ◌≤◌, ◌<◌, ℤ, pos, neg_ℤ, ◌+ℤ◌, ◌-ℤ◌, T, leb, ltb, eqb, Float}
use Rattle.std.proofs.Common.{sym, ap, ap₂, ◌∙◌, subst, subst₂, le_refl, le_trans, le_of_eq, zero-lt-suc, zero-mul, one-mul, mul_comm, mul_left_comm, mul_assoc, mul_right_comm, add-mul, mul-pos, mul-le-mul, mul-le-mul_right, le-mul_of_pos_right, mul-lt-mul_of_pos_right, le_of_mul-le-mul_right, lt_of_lt_of_le, lt_of_le_of_lt, arith, ltb→lt, leb→le, nltb→le, eqb→eq, pow-add}
use Rattle.std.specs.Bool.{beq}
use Rattle.std.proofs.Math.Nat.{mul-mul-mul_comm, mul-sub, eq_of_mul-eq-mul_right}
use Rattle.std.proofs.Math.IntN.{neg_ℤ-+ℤ, neg_ℤ-neg_ℤ, +ℤ_comm}
use Rattle.std.specs.Float.{nan, inf, fin, binary64}
use Rattle.std.specs.Float.Ieee.{up, down, unlike, round, sum, add, sub, mul, div, neg}
use Rattle.std.specs.Float.Ieee.Exact.{units_val}
use Rattle.std.specs.Float.Ieee.Fits.{round_is, down_pos, up_pos}
use Rattle.std.specs.Float.Ieee.Scale.{round_same}
use Rattle.std.specs.Float.Ieee.Order.{drop, kept}
use Rattle.laws.proofs.CertificateBase.{sub_pos}
use Rattle.numbers.specs.Float.{◌⊕◌, ◌⊖◌, ◌⊗◌, ◌⊘◌}
use Rattle.exact.proofs.Rounding.{Close, rounded, round_close, round_close_whole, close_cancel}
use Rattle.exact.specs.Units.{W, W-pos, Val, signed, signed_not, units, neg_val, Within, within_units}
use Rattle.exact.proofs.Order.{ltb_same, add_same, widen_left, widen_right}

-- ---- what `round` makes, in units

pub round_val : (s : Bool) (a c : ℕ) → rounded (a * W) c < 2 ^ 1024 * W → Val (round binary64 s a c) s (rounded (a * W) c)
unfolding W
round_val s a c h =
    subst (λ (z : Float). Val z s (rounded (a * W) c)) (sym (round_is binary64 s a c))
    (units_val binary64 s (kept 53 (a * W) c) (drop 53 (a * W) c) (subst (λ (z : ℕ). rounded (a * W) c < z) (sym (pow-add 2 1024 1074)) h))

-- ---- the operations as `round` of a fraction of units

pub mul_is : (x y : Float) (s t : Bool) (a b : ℕ) → Val x s a → Val y t b → x ⊗ y ≡ round binary64 (unlike s t) (a * b) (W * W)
unfolding mul
mul_is nan y s t a b p q = absurd p
mul_is (inf u) y s t a b p q = absurd p
mul_is (fin u m e) nan s t a b p q = absurd q
mul_is (fin u m e) (inf v) s t a b p q = absurd q
mul_is (fin u m e) (fin v n d) s t a b p q =
    ap₂ (λ (y z : Bool). round binary64 (unlike y z) (m * up e * (n * up d)) (down e * down d)) p.0 q.0
    ∙ round_same binary64 (unlike s t) (m * up e * (n * up d)) (down e * down d) (a * b) (W * W) (mul-pos (down_pos e) (down_pos d)) (mul-pos W-pos W-pos)
    (mul-mul-mul_comm (m * up e) (n * up d) W W ∙ ap₂ (λ (y z : ℕ). y * z) p.1 q.1 ∙ mul-mul-mul_comm a (down e) b (down d))

sub_same : (A B a b w c : ℕ) → A * w ≡ a * c → B * w ≡ b * c → (A - B) * w ≡ (a - b) * c
sub_same A B a b w c p q =
    mul_comm (A - B) w ∙ mul-sub w A B ∙ ap₂ (λ (y z : ℕ). y - z) (mul_comm w A ∙ p ∙ mul_comm a c) (mul_comm w B ∙ q ∙ mul_comm b c)
    ∙ sym (mul-sub c a b) ∙ mul_comm c (a - b)

sum_same : (s : Bool) (A : ℕ) (t : Bool) (B a b w c : ℕ) → A * w ≡ a * c → B * w ≡ b * c → 0 < w → 0 < c → sum binary64 s A t B c ≡ sum binary64 s a t b w
unfolding sum
sum_same s A t B a b w c p q Wp Cp =
    ap₂ (λ (x y : Float). cond (beq s t) x y) (r s (A + B) (a + b) (add_same A B a b w c p q Wp Cp))
    (ap₂ (λ (x y : Float). cond (ltb A B) x y) (r t (B - A) (b - a) (sub_same B A b a w c q p))
    (r (s && ltb B A) (A - B) (a - b) (sub_same A B a b w c p q) ∙ ap (λ (z : Bool). round binary64 (s && z) (a - b) w) (ltb_same B A b a w c q p Wp Cp))
    ∙ ap (λ (z : Bool). cond z (round binary64 t (b - a) w) (round binary64 (s && ltb b a) (a - b) w)) (ltb_same A B a b w c p q Wp Cp))
  where
    r : (s : Bool) (X x : ℕ) → X * w ≡ x * c → round binary64 s X c ≡ round binary64 s x w
    r s X x e = round_same binary64 s X c x w Cp Wp e

pub add_is : (x y : Float) (s t : Bool) (a b : ℕ) → Val x s a → Val y t b → x ⊕ y ≡ sum binary64 s a t b W
unfolding add
add_is nan y s t a b p q = absurd p
add_is (inf u) y s t a b p q = absurd p
add_is (fin u m e) nan s t a b p q = absurd q
add_is (fin u m e) (inf v) s t a b p q = absurd q
add_is (fin u m e) (fin v n d) s t a b p q =
    ap₂ (λ (y z : Bool). sum binary64 y (m * up e * down d) z (n * up d * down e) (down e * down d)) p.0 q.0
    ∙ sum_same s (m * up e * down d) t (n * up d * down e) a b W (down e * down d)
    (widen_left (m * up e) a (down e) (down d) W p.1) (widen_right (n * up d) b (down e) (down d) W q.1)
    W-pos (mul-pos (down_pos e) (down_pos d))

div_same : (X Y a b De Dd w : ℕ) → 0 < w → X * w ≡ a * De → Y * w ≡ b * Dd → X * Dd * b ≡ a * (Y * De)
div_same X Y a b De Dd w Wp p q =
    eq_of_mul-eq-mul_right w Wp (X * Dd * b) (a * (Y * De))
    (mul_right_comm (X * Dd) b w ∙ ap (λ (z : ℕ). z * b) (mul_right_comm X Dd w ∙ ap (λ (z : ℕ). z * Dd) p)
    ∙ rest a De Dd b ∙ ap (λ (z : ℕ). a * (z * De)) (sym q)
    ∙ ap (λ (z : ℕ). a * z) (mul_right_comm Y w De) ∙ sym (mul_assoc a (Y * De) w))
  where
    rest : (a De Dd b : ℕ) → a * De * Dd * b ≡ a * (b * Dd * De)
    rest a De Dd b = simp (mul_assoc, mul_comm, mul_left_comm)

pub div_is : (x y : Float) (s t : Bool) (a b : ℕ) → Val x s a → Val y t b → 0 < b → x ⊘ y ≡ round binary64 (unlike s t) a b
unfolding div
div_is nan y s t a b p q B = absurd p
div_is (inf u) y s t a b p q B = absurd p
div_is (fin u m e) nan s t a b p q B = absurd q
div_is (fin u m e) (inf v) s t a b p q B = absurd q
div_is (fin u m e) (fin v n d) s t a b p q B =
    else (eqb n 0) _ _ (not_zero n N)
    ∙ ap₂ (λ (y z : Bool). round binary64 (unlike y z) (m * up e * down d) (n * up d * down e)) p.0 q.0
    ∙ round_same binary64 (unlike s t) (m * up e * down d) (n * up d * down e) a b (mul-pos (mul-pos N (up_pos d)) (down_pos e)) B
    (div_same (m * up e) (n * up d) a b (down e) (down d) W W-pos p.1 q.1)
  where
    nonzero : (n : ℕ) → n * up d * W ≡ b * down d → 0 < n
    nonzero zero e = lt_of_lt_of_le (mul-pos B (down_pos d)) (le_of_eq (sym e ∙ ap (λ (z : ℕ). z * W) (zero-mul (up d)) ∙ zero-mul W))
    nonzero (suc n) e = zero-lt-suc n

    N : 0 < n
    N = nonzero n q.1

    not_zero : (n : ℕ) → 0 < n → T (eqb n 0) → ⊥
    not_zero n h t = no (eqb→eq n 0 t)
      where
        no : n ≡ 0 → ⊥
        no e = omega arith

    else : (c : Bool) (x y : Float) → (T c → ⊥) → cond c x y ≡ y
    else true x y f = absurd (f tt)
    else false x y f = refl

-- ---- sizes of results. `omega` takes no numeral above 38 digits, so large bounds are variables here

twice_more : (x n w : ℕ) → Close x n (n + 2 ^ 52 * w) → x ≤ 2 * n + w
twice_more x n w h = omega arith

bound : (K x n w y : ℕ) → Close x n (n + 2 ^ 52 * w) → n ≤ K * y → w ≤ y → x ≤ (2 * K + 1) * y
bound K x n w y h l k = go (K * y) ((2 * K + 1) * y) (add-mul (2 * K) 1 y ∙ ap₂ (λ (a b : ℕ). a + b) (mul_assoc 2 K y) (one-mul y)) l (twice_more x n w h)
  where
    go : (z v : ℕ) → v ≡ 2 * z + y → n ≤ z → x ≤ 2 * n + w → x ≤ v
    go z v e l g = omega arith

pub product_small : (K g n : ℕ) → Close (g * W) n (n + 2 ^ 52 * W) → n ≤ K * (W * W) → g ≤ (2 * K + 1) * W
product_small K g n h l =
    le_of_mul-le-mul_right (le_trans (bound K (g * W) n W (W * W) h l (le-mul_of_pos_right W W-pos)) (le_of_eq (sym (mul_assoc (2 * K + 1) W W)))) W-pos

double : (g w : ℕ) → Close g w w → g ≤ 2 * w
double g w h = omega arith

no_overflow : (K g : ℕ) → T (ltb K (2 ^ 1024)) → g ≤ K * W → g < 2 ^ 1024 * W
no_overflow K g t h = lt_of_le_of_lt h (mul-lt-mul_of_pos_right (ltb→lt K (2 ^ 1024) t) W-pos)

-- K is a bound that an operand of the laws may have
abbrev pub Moderate : ℕ → Type 0
Moderate K = T (leb K (2 ^ 200))

moderate : {K : ℕ} {x : Float} → Moderate K → (p : Within K x) → p.size ≤ 2 ^ 200 * W
moderate {K} t p = le_trans p.small (mul-le-mul_right W (leb→le K (2 ^ 200) t))

-- ---- the product

-- x is n squares of a unit, with the sign s, rounded
pub record Product (s : Bool) (n : ℕ) (x : Float) : Type 0 where
  pub size : ℕ
  pub val : Val x s size
  pub near : Close (size * W) n (n + 2 ^ 52 * W)

mul_close : (n : ℕ) → Close (rounded (n * W) (W * W) * W) n (n + 2 ^ 52 * W)
mul_close n =
    close_cancel (rounded (n * W) (W * W) * W) n (n + 2 ^ 52 * W) W W-pos
    (subst₂ (λ (x m : ℕ). Close x (n * W) m) (sym (mul_assoc (rounded (n * W) (W * W)) W W))
    (ap (λ (z : ℕ). n * W + z) (sym (mul_assoc (2 ^ 52) W W)) ∙ sym (add-mul n (2 ^ 52 * W) W))
    (round_close (n * W) (W * W) (mul-pos W-pos W-pos)))

pub mul_law : {K L : ℕ} {x y : Float} (p : Within K x) (q : Within L y) → Moderate K → Moderate L
    → Product (unlike p.sign q.sign) (p.size * q.size) (x ⊗ y)
mul_law {K} {L} {x} {y} p q hK hL =
    let n = p.size * q.size in
    let l : n ≤ 2 ^ 400 * (W * W) = le_trans (mul-le-mul (moderate hK p) (moderate hL q)) (le_of_eq (mul-mul-mul_comm (2 ^ 200) W (2 ^ 200) W)) in
    let g = rounded (n * W) (W * W) in
    let top = no_overflow (2 * 2 ^ 400 + 1) g tt (product_small (2 ^ 400) g n (mul_close n) l) in
    let s = unlike p.sign q.sign in
    record {
      size = g;
      val = subst (λ (z : Float). Val z s g) (sym (mul_is x y p.sign q.sign p.size q.size p.val q.val)) (round_val s n (W * W) top);
      near = mul_close n;
    }

abbrev pub product_within : {s : Bool} {n : ℕ} {x : Float} (K : ℕ) → Product s n x → n ≤ K * (W * W) → Within (2 * K + 1) x
product_within {s} {n} K p h = record { sign = s; size = p.size; val = p.val; small = product_small K p.size n p.near h }

-- ---- the sum and the difference

-- x is the exact number z of units, which is at most m either way, rounded
pub record Sum (z : ℤ) (m : ℕ) (x : Float) : Type 0 where
  pub sign : Bool
  -- the exact size, and the rounded one
  pub exact : ℕ
  pub size : ℕ
  pub is : signed sign exact ≡ z
  pub val : Val x sign size
  pub near : Close size exact exact
  pub small : exact ≤ m
  pub rounds : size ≡ rounded (exact * W) W
  pub same : x ≡ round binary64 sign exact W

-- x is what `round` makes of the exact number z of units, which is at most m either way
pub record Exact (z : ℤ) (m : ℕ) (x : Float) : Type 0 where
  pub sign : Bool
  pub size : ℕ
  pub same : x ≡ round binary64 sign size W
  pub is : signed sign size ≡ z
  pub small : size ≤ m

less : (a b : ℕ) → a ≤ b → pos (b - a) ≡ neg_ℤ (pos a) +ℤ pos b
less a b h = sym (sub_pos a b h) ∙ +ℤ_comm (pos b) (neg_ℤ (pos a))

less_neg : (a b : ℕ) → a ≤ b → neg_ℤ (pos (b - a)) ≡ pos a +ℤ neg_ℤ (pos b)
less_neg a b h = ap neg_ℤ (less a b h) ∙ neg_ℤ-+ℤ (neg_ℤ (pos a)) (pos b) ∙ ap (λ (z : ℤ). z +ℤ neg_ℤ (pos b)) (neg_ℤ-neg_ℤ (pos a))

pub exact_sum : (s : Bool) (a : ℕ) (t : Bool) (b : ℕ) → Exact (signed s a +ℤ signed t b) (a + b) (sum binary64 s a t b W)
unfolding sum
exact_sum false a false b = record { sign = false; size = a + b; same = refl; is = refl; small = le_refl (a + b) }
exact_sum true a true b = record { sign = true; size = a + b; same = refl; is = neg_ℤ-+ℤ (pos a) (pos b); small = le_refl (a + b) }
exact_sum false a true b = go (ltb a b) (ltb→lt a b) (nltb→le a b)
  where
    go : (c : Bool) → (T c → a < b) → (T (not c) → b ≤ a)
        → Exact (pos a +ℤ neg_ℤ (pos b)) (a + b) (cond c (round binary64 true (b - a) W) (round binary64 false (a - b) W))
    go true h k = let l = h tt in record { sign = true; size = b - a; same = refl; is = less_neg a b (omega arith); small = omega arith }
    go false h k = record { sign = false; size = a - b; same = refl; is = sym (sub_pos b a (k tt)); small = omega arith }
exact_sum true a false b = go (ltb a b) (ltb→lt a b) (nltb→le a b) (ltb b a) (nltb→le b a)
  where
    is_zero : (a b : ℕ) → a ≤ b → b ≤ a → a - b ≡ 0
    is_zero a b h k = omega arith

    go : (c : Bool) → (T c → a < b) → (T (not c) → b ≤ a) → (e : Bool) → (T (not e) → a ≤ b)
        → Exact (neg_ℤ (pos a) +ℤ pos b) (a + b) (cond c (round binary64 false (b - a) W) (round binary64 e (a - b) W))
    go true h k e l = let m = h tt in record { sign = false; size = b - a; same = refl; is = less a b (omega arith); small = omega arith }
    go false h k true l = record { sign = true; size = a - b; same = refl; is = less_neg b a (k tt) ∙ +ℤ_comm (pos b) (neg_ℤ (pos a)); small = omega arith }
    go false h k false l = record {
      sign = false;
      size = a - b;
      same = refl;
      is = ap pos (is_zero a b (l tt) (k tt) ∙ sym (is_zero b a (k tt) (l tt))) ∙ less a b (l tt);
      small = omega arith;
    }

sum_close : (w : ℕ) → Close (rounded (w * W) W) w w
sum_close w = close_cancel (rounded (w * W) W) w w W W-pos (round_close_whole w W W-pos)

-- w units rounded, where w is at most the sum of two moderate sizes
sum_val : (s : Bool) (w a b : ℕ) → w ≤ a + b → a ≤ 2 ^ 200 * W → b ≤ 2 ^ 200 * W → Val (round binary64 s w W) s (rounded (w * W) W)
sum_val s w a b h p q =
    let g = rounded (w * W) W in
    let l = four (2 ^ 200 * W) g (double g w (sum_close w)) h p q in
    round_val s w W (no_overflow (4 * 2 ^ 200) g tt (le_trans l (le_of_eq (sym (mul_assoc 4 (2 ^ 200) W)))))
  where
    four : (k g : ℕ) → g ≤ 2 * w → w ≤ a + b → a ≤ k → b ≤ k → g ≤ 4 * k
    four k g h l p q = omega arith

add_units : (x y : Float) (s t : Bool) (a b : ℕ) → Val x s a → Val y t b → a ≤ 2 ^ 200 * W → b ≤ 2 ^ 200 * W → Sum (signed s a +ℤ signed t b) (a + b) (x ⊕ y)
add_units x y s t a b p q ha hb =
    let e = exact_sum s a t b in
    let g = rounded (e.size * W) W in
    let same = add_is x y s t a b p q ∙ e.same in
    record {
      sign = e.sign;
      exact = e.size;
      size = g;
      is = e.is;
      val = subst (λ (z : Float). Val z e.sign g) (sym same) (sum_val e.sign e.size a b e.small ha hb);
      near = sum_close e.size;
      small = e.small;
      rounds = refl;
      same = same;
    }

pub add_law : {K L : ℕ} {x y : Float} (p : Within K x) (q : Within L y) → Moderate K → Moderate L → Sum (units x +ℤ units y) (p.size + q.size) (x ⊕ y)
add_law {K} {L} {x} {y} p q hK hL =
    rw (within_units p, within_units q) (add_units x y p.sign q.sign p.size q.size p.val q.val (moderate hK p) (moderate hL q))

pub sub_law : {K L : ℕ} {x y : Float} (p : Within K x) (q : Within L y) → Moderate K → Moderate L → Sum (units x -ℤ units y) (p.size + q.size) (x ⊖ y)
unfolding sub
sub_law {K} {L} {x} {y} p q hK hL =
    rw (within_units p, within_units q, ← signed_not q.sign q.size)
    (add_units x (neg y) p.sign (not q.sign) p.size q.size p.val (neg_val y q.sign q.size q.val) (moderate hK p) (moderate hL q))

pub sum_small : {z : ℤ} {m : ℕ} {x : Float} (K : ℕ) (p : Sum z m x) → m ≤ K * W → p.size ≤ 2 * K * W
sum_small {z} {m} K p h = le_trans (twice p.size p.exact (K * W) (double p.size p.exact p.near) p.small h) (le_of_eq (sym (mul_assoc 2 K W)))
  where
    twice : (g w k : ℕ) → g ≤ 2 * w → w ≤ m → m ≤ k → g ≤ 2 * k
    twice g w k a b c = omega arith

abbrev pub sum_within : {z : ℤ} {m : ℕ} {x : Float} (K : ℕ) → Sum z m x → m ≤ K * W → Within (2 * K) x
sum_within K p h = record { sign = p.sign; size = p.size; val = p.val; small = sum_small K p h }

-- of two that are not negative: no minus sign
pub record PosSum (n : ℕ) (x : Float) : Type 0 where
  pub size : ℕ
  pub val : Val x false size
  pub near : Close size n n

pub add_law_pos : (x y : Float) (a b : ℕ) → Val x false a → Val y false b → a ≤ 2 ^ 200 * W → b ≤ 2 ^ 200 * W → PosSum (a + b) (x ⊕ y)
unfolding sum
add_law_pos x y a b p q ha hb = record {
  size = rounded ((a + b) * W) W;
  val = subst (λ (z : Float). Val z false (rounded ((a + b) * W) W)) (sym (add_is x y false false a b p q)) (sum_val false (a + b) a b (le_refl (a + b)) ha hb);
  near = sum_close (a + b);
}

-- ---- the quotient

-- x is a / b, with the sign s, rounded
pub record Quotient (s : Bool) (a b : ℕ) (x : Float) : Type 0 where
  pub size : ℕ
  pub val : Val x s size
  pub near : Close (size * b) (a * W) (a * W + 2 ^ 52 * b)
  pub rounds : size ≡ rounded (a * W) b

-- the operands may be of any size: it is the quotient that has to be moderate
pub div_law : (x y : Float) (s t : Bool) (a b : ℕ) → Val x s a → Val y t b → 0 < b → a ≤ 2 ^ 400 * b → Quotient (unlike s t) a b (x ⊘ y)
div_law x y s t a b p q B h =
    let g = rounded (a * W) b in
    let c = round_close (a * W) b B in
    let l : a * W ≤ 2 ^ 400 * (b * W) = le_trans (mul-le-mul_right W h) (le_of_eq (mul_assoc (2 ^ 400) b W)) in
    let K = 2 * 2 ^ 400 + 1 in
    let k : g * b ≤ K * W * b =
    le_trans (bound (2 ^ 400) (g * b) (a * W) b (b * W) c l (le-mul_of_pos_right b W-pos))
    (le_of_eq (ap (λ (z : ℕ). K * z) (mul_comm b W) ∙ sym (mul_assoc K W b))) in
    let top = no_overflow K g tt (le_of_mul-le-mul_right k B) in
    record {
      size = g;
      val = subst (λ (z : Float). Val z (unlike s t) g) (sym (div_is x y s t a b p q B)) (round_val (unlike s t) a b top);
      near = c;
      rounds = refl;
    }
