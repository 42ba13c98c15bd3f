-- What holds of the definitions of specs/Tables.antt.
use Rattle.std.specs.Prelude.{◌≡◌, refl, Bool, true, false, not, ◌&&◌, ℕ, ◌+◌, ◌*◌, ◌<◌, T, eqb, ℤ, pos, negsuc, ◌-ℤ◌, Float}
use Rattle.std.proofs.Common.{ap, true≢false, eqb→eq}
use Rattle.std.specs.Bool.{beq}
use Rattle.std.specs.Int.Count.{count_trailing_zeros}
use Rattle.std.specs.Float.{nan, inf, fin, binary64}
use Rattle.std.specs.Float.Ieee.{of_int, of_bits, lt, eq, le, add, sub, mul, div, neg, round, sum, units, odd, size, span, climb}
use Rattle.std.specs.Float.Ieee.Fits.{and_l, and_r}
use Rattle.laws.specs.Loop.{for_up, any_up, any_none}
use Rattle.numbers.specs.Root.{root, root_units, isqrt_in}
use Rattle.numbers.specs.Float.{◌⊕◌, ◌⊖◌, ◌⊗◌, ◌⊘◌, to_float, zero_f, tolerance}
use Rattle.exact.specs.Corner.{Vector, sin20, norm, cross, squared_length, sine_above_third}

-- ---- floats compared as data

unfoldable same_z : ℤ → ℤ → Bool
same_z (pos a) (pos b) = eqb a b
same_z (pos a) (negsuc b) = false
same_z (negsuc a) (pos b) = false
same_z (negsuc a) (negsuc b) = eqb a b

unfoldable same_f : Float → Float → Bool
same_f nan y = false
same_f (inf s) y = false
same_f (fin s m e) nan = false
same_f (fin s m e) (inf t) = false
same_f (fin s m e) (fin t n d) = beq s t && (eqb m n && same_z e d)

beq_eq : (s t : Bool) → T (beq s t) → s ≡ t
beq_eq true true h = refl
beq_eq true false h = absurd h
beq_eq false true h = absurd h
beq_eq false false h = refl

same_z_eq : (x y : ℤ) → T (same_z x y) → x ≡ y
unfolding same_z
same_z_eq (pos a) (pos b) h = ap pos (eqb→eq a b h)
same_z_eq (pos a) (negsuc b) h = absurd h
same_z_eq (negsuc a) (pos b) h = absurd h
same_z_eq (negsuc a) (negsuc b) h = ap negsuc (eqb→eq a b h)

same_f_eq : (x y : Float) → T (same_f x y) → x ≡ y
unfolding same_f
same_f_eq nan y h = absurd h
same_f_eq (inf s) y h = absurd h
same_f_eq (fin s m e) nan h = absurd h
same_f_eq (fin s m e) (inf t) h = absurd h
same_f_eq (fin s m e) (fin t n d) h =
    let rest = and_r (beq s t) (eqb m n && same_z e d) h in
    let p = beq_eq s t (and_l (beq s t) (eqb m n && same_z e d) h) in
    let q = eqb→eq m n (and_l (eqb m n) (same_z e d) rest) in
    let r = same_z_eq e d (and_r (eqb m n) (same_z e d) rest) in
    cc

kept : (b : Bool) → not b ≡ false → T b
kept true e = tt
kept false e = true≢false e

pub same_bool : (a b : Bool) → not (beq a b) ≡ false → a ≡ b
same_bool a b e = beq_eq a b (kept (beq a b) e)

same_of : (x y : Float) → not (same_f x y) ≡ false → x ≡ y
same_of x y e = same_f_eq x y (kept (same_f x y) e)

-- ---- differences, products and sums

-- a whole number as a float
abbrev pub float_of : ℤ → Float
float_of z = of_int binary64 z

differences : any_up 10 (λ b. any_up 10 (λ a. not (same_f (to_float b ⊖ to_float a) (float_of (pos b -ℤ pos a))))) ≡ false
unfolding any_up for_up same_f same_z of_int add sub neg round sum units odd size span climb count_trailing_zeros
differences = refl

pub small_difference : (a b : ℕ) → a < 10 → b < 10 → to_float b ⊖ to_float a ≡ float_of (pos b -ℤ pos a)
small_difference a b h k = same_of _ _ (any_none _ 10 (any_none _ 10 differences b k) a h)

products : any_up 4 (λ a. any_up 4 (λ b. not (same_f (to_float a ⊗ to_float b) (to_float (a * b))))) ≡ false
unfolding any_up for_up same_f same_z of_int mul round units odd size span climb count_trailing_zeros
products = refl

pub product : (a b : ℕ) → a < 4 → b < 4 → to_float a ⊗ to_float b ≡ to_float (a * b)
product a b h k = same_of _ _ (any_none _ 4 (any_none _ 4 products a h) b k)

-- a number from -27 to 27 and one from -9 to 9
sums : any_up 55 (λ i. any_up 19 (λ j. not (same_f (float_of (pos i -ℤ pos 27) ⊕ float_of (pos j -ℤ pos 9)) (float_of (pos (i + j) -ℤ pos 36))))) ≡ false
unfolding any_up for_up same_f same_z of_int add round sum units odd size span climb count_trailing_zeros
sums = refl

pub sum_is : (i j : ℕ) → i < 55 → j < 19 → float_of (pos i -ℤ pos 27) ⊕ float_of (pos j -ℤ pos 9) ≡ float_of (pos (i + j) -ℤ pos 36)
sum_is i j h k = same_of _ _ (any_none _ 19 (any_none _ 55 sums i h) j k)

pub zero_is : zero_f ≡ float_of (pos 27 -ℤ pos 27)
unfolding of_int of_bits round units odd size span climb count_trailing_zeros
zero_is = refl

-- a whole number from 1 to 36 is above the tolerance
smalls : any_up 36 (λ n. le (float_of (pos (n + 37) -ℤ pos 36)) tolerance) ≡ false
unfolding any_up for_up of_int of_bits lt eq le round units odd size span climb count_trailing_zeros
smalls = refl

pub above_tolerance : (n : ℕ) → n < 36 → le (float_of (pos (n + 37) -ℤ pos 36)) tolerance ≡ false
above_tolerance n h = any_none _ 36 smalls n h

-- ---- corners

-- the test of a corner, from its two steps
abbrev pub steps_ok : (ux uy vx vy : Float) → Bool
steps_ok ux uy vx vy =
    not (le (norm ux uy) tolerance) && not (le (norm vx vy) tolerance)
    && not (le ((ux ⊗ vy ⊖ uy ⊗ vx) ⊘ (norm ux uy ⊗ norm vx vy)) sin20)

-- the step (i - 3, j - 3)
abbrev pub grid_step : ℕ → ℕ → Vector
grid_step i j = record { x = pos i -ℤ pos 3; y = pos j -ℤ pos 3 }

-- a corner that passes in integers and fails in floats; the floats are worked out only where it passes
unfoldable missed : Bool → ℕ → ℕ → ℕ → ℕ → Bool
missed false i j k l = false
missed true i j k l = not (steps_ok (float_of (pos i -ℤ pos 3)) (float_of (pos j -ℤ pos 3)) (float_of (pos k -ℤ pos 3)) (float_of (pos l -ℤ pos 3)))

abbrev missed_at : ℕ → ℕ → ℕ → ℕ → Bool
missed_at i j k l = missed (sine_above_third (grid_step i j) (grid_step k l)) i j k l

corners : any_up 7 (λ i. any_up 7 (λ j. any_up 7 (λ k. any_up 7 (λ l. missed_at i j k l)))) ≡ false
unfolding any_up for_up missed norm cross squared_length sine_above_third root root_units isqrt_in of_int of_bits lt le eq add sub mul div neg round sum units odd size span climb count_trailing_zeros
corners = refl

pub corner_is : (i j k l : ℕ) → i < 7 → j < 7 → k < 7 → l < 7 → T (sine_above_third (grid_step i j) (grid_step k l))
    → T (steps_ok (float_of (pos i -ℤ pos 3)) (float_of (pos j -ℤ pos 3)) (float_of (pos k -ℤ pos 3)) (float_of (pos l -ℤ pos 3)))
unfolding missed
corner_is i j k l hi hj hk hl t =
    go (sine_above_third (grid_step i j) (grid_step k l)) t (any_none _ 7 (any_none _ 7 (any_none _ 7 (any_none _ 7 corners i hi) j hj) k hk) l hl)
  where
    go : (b : Bool) → T b → missed b i j k l ≡ false
        → T (steps_ok (float_of (pos i -ℤ pos 3)) (float_of (pos j -ℤ pos 3)) (float_of (pos k -ℤ pos 3)) (float_of (pos l -ℤ pos 3)))
    go false t e = absurd t
    go true t e = kept (steps_ok (float_of (pos i -ℤ pos 3)) (float_of (pos j -ℤ pos 3)) (float_of (pos k -ℤ pos 3)) (float_of (pos l -ℤ pos 3))) e
