-- Laws of `<` on any two floats, NaNs and infinities too, and of what is farther out on a side. Assumes nothing.
use Rattle.std.specs.Prelude.{Bool, true, false, not, cond, ◌≡◌, refl, ℕ, zero, suc, ◌+◌, ◌*◌, ◌%◌, ◌≤◌, ◌<◌, T, ltb, eqb, ℤ, Float}
use Rattle.std.proofs.Common.{true≢false, sym, ap, subst, subst₂, le_of_lt, lt_of_lt_of_le, lt_of_le_of_lt, zero-lt-suc, mul-pos, mul-le-mul_right, mul_right_comm, mul-lt-mul_of_pos_right, lt_of_mul-lt-mul_right, arith, ltb-true, ltb-false, le-ltb, ltb→lt, lt→ltb}
use Rattle.std.specs.Float.{nan, inf, fin}
use Rattle.std.specs.Float.Ieee.{up, down, is_nan, lt, below}
use Rattle.std.specs.Float.Ieee.Fits.{down_pos, and_i, and_r}
use Rattle.outline_blocks.specs.Blocks.{is_farther}

-- ---- `<` goes through

module _ (a b c x y z : ℕ) (X : 0 < x) (Y : 0 < y) (Z : 0 < z) where
  -- a / x < b / y ≤ c / z
  below_least : a * y < b * x → b * z ≤ c * y → a * z < c * x
  below_least h k =
      lt_of_mul-lt-mul_right y
      (lt_of_lt_of_le (subst₂ (λ (l r : ℕ). l < r) (mul_right_comm a y z) (mul_right_comm b x z) (mul-lt-mul_of_pos_right h Z))
      (subst (λ (r : ℕ). b * z * x ≤ r) (mul_right_comm c y x) (mul-le-mul_right x k)))

  -- a / x ≤ b / y < c / z
  most_below : a * y ≤ b * x → b * z < c * y → a * z < c * x
  most_below h k =
      lt_of_mul-lt-mul_right y
      (lt_of_le_of_lt (subst₂ (λ (l r : ℕ). l ≤ r) (mul_right_comm a y z) (mul_right_comm b x z) (mul-le-mul_right z h))
      (subst (λ (r : ℕ). b * z * x < r) (mul_right_comm c y x) (mul-lt-mul_of_pos_right k X)))

  -- what is above something is above 0
  above : (m : ℕ) → m < c * y → 0 < c * x
  above m h = mul-pos (some c h) X
    where
      some : (c : ℕ) → m < c * y → 0 < c
      some zero h = absurd (omega arith)
      some (suc c) h = omega arith

below_through : (s t u : Bool) (a b c x y z : ℕ) → 0 < x → 0 < y → 0 < z
    → T (below s (a * y) t (b * x)) → T (below t (b * z) u (c * y)) → T (below s (a * z) u (c * x))
below_through false false false a b c x y z X Y Z h k =
    lt→ltb (a * z) (c * x) (below_least a b c x y z X Y Z (ltb→lt (a * y) (b * x) h) (le_of_lt (ltb→lt (b * z) (c * y) k)))
below_through true true true a b c x y z X Y Z h k =
    lt→ltb (c * x) (a * z) (below_least c b a z y x Z Y X (ltb→lt (c * y) (b * z) k) (le_of_lt (ltb→lt (b * x) (a * y) h)))
below_through true false false a b c x y z X Y Z h k =
    lt→ltb 0 (a * z + c * x) (more (a * z) (c * x) (above a b c x y z X Y Z (b * z) (ltb→lt (b * z) (c * y) k)))
  where
    more : (m n : ℕ) → 0 < n → 0 < m + n
    more m n h = omega arith
below_through true true false a b c x y z X Y Z h k =
    lt→ltb 0 (a * z + c * x) (more (a * z) (c * x) (above c b a z y x Z Y X (b * x) (ltb→lt (b * x) (a * y) h)))
  where
    more : (m n : ℕ) → 0 < m → 0 < m + n
    more m n h = omega arith
below_through false true u a b c x y z X Y Z h k = absurd h
below_through false false true a b c x y z X Y Z h k = absurd k
below_through true false true a b c x y z X Y Z h k = absurd k

-- a product that is 0, or isn't
factor_zero : (a x : ℕ) → 0 < x → a * x ≡ 0 → a ≡ 0
factor_zero zero x X e = refl
factor_zero (suc a) x X e = absurd (omega (arith, mul-pos (zero-lt-suc a) X))

factor_some : (a x y : ℕ) → 0 < y → 0 < a * x → 0 < a * y
factor_some zero x y Y h = absurd (omega arith)
factor_some (suc a) x y Y h = mul-pos (zero-lt-suc a) Y

below_cut : (s t u : Bool) (a b c x y z : ℕ) → 0 < x → 0 < y → 0 < z
    → T (below s (a * y) t (b * x)) → below u (c * y) t (b * z) ≡ false → T (below s (a * z) u (c * x))
below_cut false false false a b c x y z X Y Z h k =
    lt→ltb (a * z) (c * x) (below_least a b c x y z X Y Z (ltb→lt (a * y) (b * x) h) (ltb-false (c * y) (b * z) k))
below_cut false false true a b c x y z X Y Z h k =
    absurd (none (factor_zero b z Z (nothing (c * y) (b * z) (ltb-false 0 (c * y + b * z) k))) (ltb→lt (a * y) (b * x) h))
  where
    nothing : (m n : ℕ) → m + n ≤ 0 → n ≡ 0
    nothing m n h = omega arith

    none : b ≡ 0 → a * y < b * x → ⊥
    none e h = less (subst (λ (n : ℕ). a * y < n * x) e h)
      where
        less : a * y < 0 * x → ⊥
        less h = omega arith
below_cut false true u a b c x y z X Y Z h k = absurd h
below_cut true false false a b c x y z X Y Z h k =
    lt→ltb 0 (a * z + c * x) (either (ltb 0 (a * y)) (ltb-true 0 (a * y)) (ltb-false 0 (a * y)) (ltb→lt 0 (a * y + b * x) h))
  where
    either : (d : Bool) → (d ≡ true → 0 < a * y) → (d ≡ false → a * y ≤ 0) → 0 < a * y + b * x → 0 < a * z + c * x
    either true p q l = let some = factor_some a y z Z (p refl) in omega arith
    either false p q l =
        let none = q refl in
        let more = factor_some b x z Z (omega arith) in
        let high = ltb-false (c * y) (b * z) k in
        let some = factor_some c y x X (omega arith) in
        omega arith
below_cut true false true a b c x y z X Y Z h k =
    lt→ltb (c * x) (a * z) (go (ltb-false 0 (c * y + b * z) k) (ltb→lt 0 (a * y + b * x) h))
  where
    go : c * y + b * z ≤ 0 → 0 < a * y + b * x → c * x < a * z
    go m l =
        let cz = ap (λ (n : ℕ). n * x) (factor_zero c y Y (omega arith)) in
        let bz = ap (λ (n : ℕ). n * x) (factor_zero b z Z (omega arith)) in
        let some = factor_some a y z Z (omega arith) in
        omega arith
below_cut true true false a b c x y z X Y Z h k =
    lt→ltb 0 (a * z + c * x) (go (ltb→lt (b * x) (a * y) h))
  where
    go : b * x < a * y → 0 < a * z + c * x
    go l = let some = factor_some a y z Z (omega arith) in omega arith
below_cut true true true a b c x y z X Y Z h k =
    lt→ltb (c * x) (a * z) (most_below c b a z y x Z Y X (ltb-false (b * z) (c * y) k) (ltb→lt (b * x) (a * y) h))

-- nothing is above infinity
no_more : (t : Bool) (z : Float) → T (not t) → T (lt (inf t) z) → ⊥
unfolding lt
no_more true z n k = n
no_more false nan n k = k
no_more false (inf u) n k = k
no_more false (fin u l g) n k = k

pub lt_through : (x y z : Float) → T (lt x y) → T (lt y z) → T (lt x z)
unfolding lt
lt_through nan y z h k = h
lt_through (inf s) nan z h k = absurd h
lt_through (inf s) (inf t) z h k = absurd (no_more t z (and_r s (not t) h) k)
lt_through (inf s) (fin t n d) nan h k = absurd k
lt_through (inf s) (fin t n d) (inf u) h k = and_i s (not u) h k
lt_through (inf s) (fin t n d) (fin u l g) h k = h
lt_through (fin s m e) nan z h k = absurd h
lt_through (fin s m e) (inf t) z h k = absurd (no_more t z h k)
lt_through (fin s m e) (fin t n d) nan h k = absurd k
lt_through (fin s m e) (fin t n d) (inf u) h k = k
lt_through (fin s m e) (fin t n d) (fin u l g) h k =
    below_through s t u (m * up e) (n * up d) (l * up g) (down e) (down d) (down g) (down_pos e) (down_pos d) (down_pos g) h k

-- x is below y, and z, which is a number, isn't: so x is below z
inf_cut : (s : Bool) (z y : Float) → is_nan z ≡ false → T (lt (inf s) y) → lt z y ≡ false → T (lt (inf s) z)
unfolding lt is_nan
inf_cut false z y n h k = absurd (no_more false y tt h)
inf_cut true nan y n h k = absurd (true≢false n)
inf_cut true (inf true) y n h k = subst T k h
inf_cut true (inf false) y n h k = tt
inf_cut true (fin u l g) y n h k = tt

fin_cut : (s : Bool) (m : ℕ) (e : ℤ) (z y : Float) → is_nan z ≡ false → T (lt (fin s m e) y) → lt z y ≡ false → T (lt (fin s m e) z)
unfolding lt is_nan
fin_cut s m e nan y n h k = absurd (true≢false n)
fin_cut s m e (inf true) nan n h k = h
fin_cut s m e (inf true) (inf t) n h k = subst T k h
fin_cut s m e (inf true) (fin t j d) n h k = absurd (true≢false k)
fin_cut s m e (inf false) y n h k = tt
fin_cut s m e (fin u l g) nan n h k = absurd h
fin_cut s m e (fin u l g) (inf t) n h k = absurd (subst T k h)
fin_cut s m e (fin u l g) (fin t j d) n h k =
    below_cut s t u (m * up e) (j * up d) (l * up g) (down e) (down d) (down g) (down_pos e) (down_pos d) (down_pos g) h k

pub lt_cut : (x y z : Float) → is_nan z ≡ false → T (lt x y) → lt z y ≡ false → T (lt x z)
unfolding lt
lt_cut nan y z n h k = h
lt_cut (inf s) y z n h k = inf_cut s z y n h k
lt_cut (fin s m e) y z n h k = fin_cut s m e z y n h k

pub lt_self : (x : Float) → lt x x ≡ false
unfolding lt
lt_self nan = refl
lt_self (inf true) = refl
lt_self (inf false) = refl
lt_self (fin true m e) = le-ltb (m * up e * down e) (m * up e * down e) (omega arith)
lt_self (fin false m e) = le-ltb (m * up e * down e) (m * up e * down e) (omega arith)

-- x is below y, and z isn't: so z isn't below x
lt_not : (x y z : Float) → lt x y ≡ true → lt z y ≡ false → lt z x ≡ false
lt_not x y z h k = decide (lt z x) refl
  where
    decide : (b : Bool) → lt z x ≡ b → b ≡ false
    decide true e = absurd (subst T k (lt_through z x y (subst T (sym e) tt) (subst T (sym h) tt)))
    decide false e = refl

-- x is above y, and z isn't: so z isn't above x
not_lt : (x y z : Float) → lt y x ≡ true → lt y z ≡ false → lt x z ≡ false
not_lt x y z h k = decide (lt x z) refl
  where
    decide : (b : Bool) → lt x z ≡ b → b ≡ false
    decide true e = absurd (subst T k (lt_through y x z (subst T (sym h) tt) (subst T (sym e) tt)))
    decide false e = refl

-- ---- farther out on a side

-- nothing is farther out than itself
pub farther_self : (d : ℕ) (x : Float) → is_farther d x x ≡ false
unfolding is_farther
farther_self d x = either (eqb (d % 2) 1) (lt_self x)
  where
    either : {b : Bool} (c : Bool) → b ≡ false → cond c b b ≡ false
    either true e = e
    either false e = e

-- x is farther out than y, and z isn't: so z isn't farther out than x
pub farther_through : (d : ℕ) (x y z : Float) → is_farther d x y ≡ true → is_farther d z y ≡ false → is_farther d z x ≡ false
unfolding is_farther
farther_through d x y z = either (eqb (d % 2) 1)
  where
    either : (c : Bool) → cond c (lt y x) (lt x y) ≡ true → cond c (lt y z) (lt z y) ≡ false → cond c (lt x z) (lt z x) ≡ false
    either true = not_lt x y z
    either false = lt_not x y z
