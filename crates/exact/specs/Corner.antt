-- One corner of a quad, from a to b to c: the reference's f64 test of it, and in whole numbers what SCOPE claims of it.
-- Definitions only; Sine.antt proves that the one gives the other.
use Rattle.std.specs.Prelude.{Bool, not, ◌&&◌, ◌*◌, ◌^◌, ℤ, pos, ◌+ℤ◌, ◌*ℤ◌, ◌-ℤ◌, Float}
use Rattle.std.specs.Int.Signed.{lt_z}
use Rattle.std.specs.Float.Ieee.{le}
use Rattle.numbers.specs.Float.{◌⊕◌, ◌⊖◌, ◌⊗◌, ◌⊘◌, sqrt, bits, tolerance}
use Rattle.exact.specs.Units.{W, units}

-- ---- the f64 test

-- sin 20 degrees: the double nearest 0.3420201433256687
abbrev pub sin20 : Float
sin20 = bits 0x3fd5_e3a8_748a_0bf5

-- `(x * x + y * y).sqrt()`
unfoldable pub norm : Float → Float → Float
norm x y = sqrt (x ⊗ x ⊕ y ⊗ y)

-- One turn of the loop over corners in `convex_ccw`, at 20 degrees: the step in u and the step out v are longer than 1e-12, and the sine
-- between them is above sin 20 degrees.
unfoldable pub corner_ok : (ax ay bx by cx cy : Float) → Bool
corner_ok ax ay bx by cx cy =
    let ux = bx ⊖ ax in
    let uy = by ⊖ ay in
    let vx = cx ⊖ bx in
    let vy = cy ⊖ by in
    let lu = norm ux uy in
    let lv = norm vx vy in
    let sine = (ux ⊗ vy ⊖ uy ⊗ vx) ⊘ (lu ⊗ lv) in
    not (le lu tolerance) && not (le lv tolerance) && not (le sine sin20)

-- ---- exactly, in units

pub record Vector : Type 0 where
  pub x : ℤ
  pub y : ℤ

-- the exact step from a to b
unfoldable pub step_units : (ax ay bx by : Float) → Vector
step_units ax ay bx by = record { x = units bx -ℤ units ax; y = units by -ℤ units ay }

unfoldable pub cross : Vector → Vector → ℤ
cross u v = u.x *ℤ v.y -ℤ u.y *ℤ v.x

unfoldable pub squared_length : Vector → ℤ
squared_length u = u.x *ℤ u.x +ℤ u.y *ℤ u.y

-- the sine between the step in u and the step out v is above 1/3: their cross product p is above 0, and 9·p·p above the product of
-- their squared lengths
unfoldable pub sine_above_third : Vector → Vector → Bool
sine_above_third u v =
    let p = cross u v in
    lt_z (pos 0) p && lt_z (squared_length u *ℤ squared_length v) (pos 9 *ℤ (p *ℤ p))

-- a side is shorter than 1e-150: its squared length is below 1e-300, multiplied through by 10^300 and the square of the units in 1
unfoldable pub is_short : Vector → Bool
is_short u = lt_z (pos (10 ^ 300) *ℤ squared_length u) (pos (W * W))
