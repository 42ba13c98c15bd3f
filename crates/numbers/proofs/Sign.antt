-- `abs_f` by the sign's bit: what `abs_f64` cites. Assumes nothing.
use Rattle.std.proofs.Common.{◌≡◌, ℕ, zero, suc, ◌+◌, ◌*◌, ◌^◌, ◌<◌, ◌≤◌, true, false, T, refl, not-le_of_lt, arith, lit<, lit≤}
use lib.Ieee.{Float, nan, inf, fin, binary64, neg, ne, fits, to_bits}
use lib.Ieee.Bits.{to_bits-lt}
use Rattle.numbers.specs.Float.{abs_f}
use Rattle.numbers.proofs.Patterns.{is_nan_lem}

pub abs_nan : (x : Float) → ne x x ≡ true → x ≡ abs_f x
abs_nan x h = rw (is_nan_lem x h) (unfold abs_f in refl)

pub abs_plus : (x : Float) → to_bits binary64 x < 2 ^ 63 → x ≡ abs_f x
unfolding to_bits abs_f
abs_plus nan h = refl
abs_plus (inf true) h = absurd (not-le_of_lt h (lit≤ tt))
abs_plus (inf false) h = refl
abs_plus (fin true m e) h = absurd (over _ _ _ h)
  where
    over : (a b t : ℕ) → t + a + b < t → ⊥
    over a b t h = omega arith
abs_plus (fin false m e) h = refl

pub abs_minus : (x : Float) → T (fits binary64 x) → 2 ^ 63 ≤ to_bits binary64 x → neg x ≡ abs_f x
unfolding to_bits fits abs_f neg
abs_minus nan f h = refl
abs_minus (inf true) f h = refl
abs_minus (inf false) f h = absurd (not-le_of_lt (lit< tt) h)
abs_minus (fin true m e) f h = refl
abs_minus (fin false m e) f h = absurd (not-le_of_lt (below _ _ _ (to_bits-lt binary64 (fin true m e) (other m f))) h)
  where
    other : (m : ℕ) → T (fits binary64 (fin false m e)) → T (fits binary64 (fin true m e))
    other zero h = h
    other (suc m) h = h

    below : (a b t : ℕ) → t + a + b < 2 * t → 0 + a + b < t
    below a b t h = omega arith
