-- |x| is at most m where x lies from -m to m: what `abs_at_most` cites. Assumes nothing.
use Rattle.std.proofs.Common.{◌≡◌, Bool, true, false, not, ◌&&◌, T, refl, ap, subst, add_comm}
use lib.Dec.{not_T, ltb}
use lib.Ieee.{Float, nan, inf, fin, up, down, neg, lt, le, is_nan}
use lib.Ieee.Fits.{and_i, and_l, and_r}
use Rattle.std.specs.Float.{◌≤ᶠ◌, NotNan}
use Rattle.std.specs.Float.Order.{le_left, le_right, le_of_not-lt, le_refl, le_trans, lt_irrefl, lt_of_le_of_lt}
use Rattle.numbers.specs.Float.{abs_f}
use Prim.Native.Nat.{ℕ, ◌*◌}
use lib.IntN.{ℤ}

-- ---- the order turned round by the signs

lt_turned : (x y : Float) → lt x y ≡ lt (neg y) (neg x)
unfolding lt neg
lt_turned nan nan = refl
lt_turned nan (inf t) = refl
lt_turned nan (fin t n d) = refl
lt_turned (inf s) nan = refl
lt_turned (inf true) (inf true) = refl
lt_turned (inf true) (inf false) = refl
lt_turned (inf false) (inf true) = refl
lt_turned (inf false) (inf false) = refl
lt_turned (inf true) (fin t n d) = refl
lt_turned (inf false) (fin t n d) = refl
lt_turned (fin s m e) nan = refl
lt_turned (fin s m e) (inf t) = refl
lt_turned (fin true m e) (fin true n d) = refl
lt_turned (fin true m e) (fin false n d) = ap (ltb 0) (add_comm (m * up e * down d) (n * up d * down e))
lt_turned (fin false m e) (fin true n d) = refl
lt_turned (fin false m e) (fin false n d) = refl

neg_not_nan : (x : Float) → NotNan x → NotNan (neg x)
unfolding neg is_nan
neg_not_nan nan p = p
neg_not_nan (inf s) p = p
neg_not_nan (fin s m e) p = p

neg_neg : (x : Float) → neg (neg x) ≡ x
unfolding neg
neg_neg nan = refl
neg_neg (inf true) = refl
neg_neg (inf false) = refl
neg_neg (fin true m e) = refl
neg_neg (fin false m e) = refl

le_turned : (x y : Float) → x ≤ᶠ y → neg y ≤ᶠ neg x
le_turned x y h =
    le_of_not-lt (neg x) (neg y) (neg_not_nan x (le_left x y h)) (neg_not_nan y (le_right x y h))
    (subst (λ (b : Bool). T (not b)) (lt_turned y x) (not_T (lt y x) (λ l. lt_irrefl x (lt_of_le_of_lt x y x h l))))

-- ---- x and its size

minus_below : (m : ℕ) (e : ℤ) → fin true m e ≤ᶠ fin false m e
minus_below m e = le_of_not-lt (fin false m e) (fin true m e) (unfold is_nan in tt) (unfold is_nan in tt) (unfold lt in tt)

under : (x : Float) → NotNan (abs_f x) → x ≤ᶠ abs_f x
unfolding abs_f is_nan
under nan p = absurd p
under (inf false) p = le_refl (inf false) tt
under (inf true) p = unfold le lt in tt
under (fin false m e) p = le_refl (fin false m e) tt
under (fin true m e) p = minus_below m e

over : (x : Float) → NotNan (abs_f x) → neg (abs_f x) ≤ᶠ x
unfolding abs_f neg is_nan
over nan p = absurd p
over (inf false) p = unfold le lt in tt
over (inf true) p = le_refl (inf true) tt
over (fin false m e) p = minus_below m e
over (fin true m e) p = le_refl (fin true m e) tt

one_way : (x m : Float) → abs_f x ≤ᶠ m → T (le (neg m) x && le x m)
one_way x m h =
    let p = le_left (abs_f x) m h in
    and_i (le (neg m) x) (le x m) (le_trans (neg m) (neg (abs_f x)) x (le_turned (abs_f x) m h) (over x p)) (le_trans x (abs_f x) m (under x p) h)

other_way : (x m : Float) → neg m ≤ᶠ x → x ≤ᶠ m → abs_f x ≤ᶠ m
unfolding abs_f neg is_nan
other_way nan m g l = absurd (le_left nan m l)
other_way (inf false) m g l = l
other_way (inf true) m g l = subst (λ (y : Float). inf false ≤ᶠ y) (neg_neg m) (le_turned (neg m) (inf true) g)
other_way (fin false n e) m g l = l
other_way (fin true n e) m g l = subst (λ (y : Float). fin false n e ≤ᶠ y) (neg_neg m) (le_turned (neg m) (fin true n e) g)

pub by_both : (x m : Float) → le (neg m) x && le x m ≡ le (abs_f x) m
by_both x m =
    same (le (neg m) x && le x m) (le (abs_f x) m)
    (λ h. other_way x m (and_l (le (neg m) x) (le x m) h) (and_r (le (neg m) x) (le x m) h)) (one_way x m)
  where
    same : (a b : Bool) → (T a → T b) → (T b → T a) → a ≡ b
    same true true f g = refl
    same true false f g = absurd (f tt)
    same false true f g = absurd (g tt)
    same false false f g = refl
