-- Signs of doubles, and which operands a finite answer has, on every input: an overflow keeps the sign. Assumes nothing.
use Rattle.std.specs.Prelude.{◌≡◌, refl, Bool, true, false, not, ◌||◌, cond, ℕ, zero, suc, ◌+◌, ◌*◌, ◌/◌, ◌^◌, T, ltb, eqb, Float}
use Rattle.std.proofs.Common.{sym, subst, true≢false, nltb→le}
use Rattle.std.specs.Float.{nan, inf, fin, Format, binary64}
use Rattle.std.specs.Float.Ieee.{prec, emax, low, up, down, odd, units, round, sum, add, sub, mul, neg, le, unlike}
use Rattle.std.specs.Float.Ieee.Exact.{HasValue, odd_sign}
use Rattle.std.specs.Float.Ieee.Fits.{round_is, down_pos}
use Rattle.std.specs.Float.Ieee.Order.{le_of_values}
use Rattle.numbers.specs.Root.{root, root_units}
use Rattle.numbers.specs.Float.{◌⊕◌, ◌⊖◌, ◌⊗◌, sqrt, is_finite}

-- ---- signs

-- x is a number with the sign s, an infinity or not; the sign is true for a minus
abbrev pub HasSign : Float → Bool → Type 0
HasSign nan s = ⊥
HasSign (inf t) s = t ≡ s
HasSign (fin t m e) s = t ≡ s

value_sign : (x : Float) (s : Bool) (a c : ℕ) → HasValue x s a c → HasSign x s
value_sign nan s a c v = v
value_sign (inf t) s a c v = absurd v
value_sign (fin t m e) s a c v = v.0

units_sign : (f : Format) (s : Bool) (q k : ℕ) → HasSign (units f s q k) s
unfolding units
units_sign f s q k = go (ltb (q * 2 ^ k) (2 ^ (low f + suc (emax f))))
  where
    go : (b : Bool) → HasSign (cond b (odd (suc (prec f)) s q k (low f)) (inf s)) s
    go true = value_sign (odd (suc (prec f)) s q k (low f)) s (q * 2 ^ k) (2 ^ low f) (odd_sign (suc (prec f)) s q k (low f))
    go false = refl

pub round_sign : (f : Format) (s : Bool) (a c : ℕ) → HasSign (round f s a c) s
round_sign f s a c = subst (λ (z : Float). HasSign z s) (sym (round_is f s a c)) (units_sign f s _ _)

-- a square, a sum and a root
pub square_sign : (x : Float) → T (is_finite x) → HasSign (x ⊗ x) false
unfolding is_finite mul
square_sign nan h = h
square_sign (inf s) h = absurd h
square_sign (fin true m e) h = round_sign binary64 false (m * up e * (m * up e)) (down e * down e)
square_sign (fin false m e) h = round_sign binary64 false (m * up e * (m * up e)) (down e * down e)

pub sum_sign : (x y : Float) → HasSign x false → HasSign y false → HasSign (x ⊕ y) false
unfolding add sum
sum_sign nan y p q = p
sum_sign (inf true) y p q = absurd (true≢false p)
sum_sign (inf false) nan p q = q
sum_sign (inf false) (inf true) p q = absurd (true≢false q)
sum_sign (inf false) (inf false) p q = refl
sum_sign (inf false) (fin t n d) p q = refl
sum_sign (fin true m e) y p q = absurd (true≢false p)
sum_sign (fin false m e) nan p q = q
sum_sign (fin false m e) (inf t) p q = q
sum_sign (fin false m e) (fin true n d) p q = absurd (true≢false q)
sum_sign (fin false m e) (fin false n d) p q = round_sign binary64 false (m * up e * down d + n * up d * down e) (down e * down d)

root_units_sign : (n : ℕ) → HasSign (root_units n) false
unfolding root_units
root_units_sign n = units_sign binary64 false _ _

pub root_sign : (x : Float) → HasSign x false → HasSign (sqrt x) false
unfolding root
root_sign nan p = p
root_sign (inf true) p = absurd (true≢false p)
root_sign (inf false) p = refl
root_sign (fin s zero e) p = p
root_sign (fin true (suc m) e) p = absurd (true≢false p)
root_sign (fin false (suc m) e) p = root_units_sign (suc m * up e * 2 ^ 2148 / down e)

-- of two that have no minus sign, what is not at most y is at least y
not_left : (a b : Bool) → T (not (a || b)) → T (not a)
not_left true b t = t
not_left false b t = tt

pub le_of_not : (x y : Float) → HasSign x false → HasSign y false → T (not (le x y)) → T (le y x)
unfolding le
le_of_not nan y p q h = absurd p
le_of_not (inf true) y p q h = absurd (true≢false p)
le_of_not (inf false) nan p q h = absurd q
le_of_not (inf false) (inf true) p q h = absurd (true≢false q)
le_of_not (inf false) (inf false) p q h = tt
le_of_not (inf false) (fin t n d) p q h = tt
le_of_not (fin true m e) y p q h = absurd (true≢false p)
le_of_not (fin false m e) nan p q h = absurd q
le_of_not (fin false m e) (inf true) p q h = absurd (true≢false q)
le_of_not (fin false m e) (inf false) p q h = absurd h
le_of_not (fin false m e) (fin true n d) p q h = absurd (true≢false q)
le_of_not (fin false m e) (fin false n d) p q h =
    le_of_values (fin false n d) (fin false m e) (n * up d) (down d) (m * up e) (down e) (down_pos d) (down_pos e) (refl, refl) (refl, refl)
    (nltb→le (m * up e * down d) (n * up d * down e) (not_left (ltb (m * up e * down d) (n * up d * down e)) _ h))

-- ---- a finite sum, difference or product has finite operands

abbrev Both : Float → Float → Type 0
Both x y = T (is_finite x) × T (is_finite y)

finite_sum : (x y : Float) → T (is_finite (x ⊕ y)) → Both x y
unfolding is_finite add
finite_sum nan y h = absurd h
finite_sum (inf s) nan h = absurd h
finite_sum (inf true) (inf true) h = absurd h
finite_sum (inf true) (inf false) h = absurd h
finite_sum (inf false) (inf true) h = absurd h
finite_sum (inf false) (inf false) h = absurd h
finite_sum (inf s) (fin t n d) h = absurd h
finite_sum (fin s m e) nan h = absurd h
finite_sum (fin s m e) (inf t) h = absurd h
finite_sum (fin s m e) (fin t n d) h = (tt, tt)

finite_neg : (x : Float) → T (is_finite (neg x)) → T (is_finite x)
unfolding is_finite neg
finite_neg nan h = h
finite_neg (inf s) h = h
finite_neg (fin s m e) h = tt

pub finite_difference : (x y : Float) → T (is_finite (x ⊖ y)) → Both x y
unfolding sub
finite_difference x y h = let b = finite_sum x (neg y) h in (b.0, finite_neg y b.1)

never : (b t : Bool) → T (is_finite (cond b nan (inf t))) → ⊥
unfolding is_finite
never true t h = h
never false t h = h

pub finite_product : (x y : Float) → T (is_finite (x ⊗ y)) → Both x y
unfolding is_finite mul
finite_product nan y h = absurd h
finite_product (inf s) nan h = absurd h
finite_product (inf s) (inf t) h = absurd h
finite_product (inf s) (fin t n d) h = absurd (never (eqb n 0) (unlike s t) h)
finite_product (fin s m e) nan h = absurd h
finite_product (fin s m e) (inf t) h = absurd (never (eqb m 0) (unlike s t) h)
finite_product (fin s m e) (fin t n d) h = (tt, tt)
