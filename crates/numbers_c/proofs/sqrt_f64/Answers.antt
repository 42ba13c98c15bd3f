-- `numbers_c::sqrt_f64` meets its contract: a NaN is its own root, and below zero there is none. Assumes nothing.
use Rattle.std.proofs.Common.{◌≡◌, ℕ, zero, suc, ◌+◌, ◌*◌, ◌<◌, true, false, T, sym, ◌∙◌, subst, refl, true≢false, ltb→lt, arith}
use lib.Ieee.{Float, nan, inf, fin, binary64, of_bits, div, is_nan, lt, up, down}
use Rattle.numbers.specs.Root.{root}
use Rattle.numbers_c.proofs.sqrt_f64.Goals as goal

of_nan : (x : Float) → T (is_nan x) → x ≡ root x
unfolding is_nan root
of_nan nan h = refl
of_nan (inf s) h = absurd h
of_nan (fin s m e) h = absurd h

below_zero : (x : Float) → lt x (of_bits binary64 0) ≡ true → div binary64 (of_bits binary64 0) (of_bits binary64 0) ≡ root x
unfolding lt of_bits div root
below_zero nan h = refl
below_zero (inf true) h = refl
below_zero (inf false) h = absurd (true≢false (sym h))
below_zero (fin true zero e) h = absurd (omega (arith, ltb→lt 0 (0 * up e * 1 + 0 * down e) (subst T (sym h) tt)))
below_zero (fin false zero e) h = absurd (omega (arith, ltb→lt (0 * up e * 1) (0 * down e) (subst T (sym h) tt)))
below_zero (fin true (suc m) e) h = refl
below_zero (fin false (suc m) e) h = absurd (omega (arith, ltb→lt (suc m * up e * 1) (0 * down e) (subst T (sym h) tt)))

pub returns-then-is_nan : goal.returns-then-is_nan
returns-then-is_nan c = of_nan c.args.x (subst T (sym (sym c.is_nan.ensures.value ∙ c.if-is_nan.true)) tt)

pub returns-then-x : goal.returns-then-x
returns-then-x c = below_zero c.args.x c.if-x.true
