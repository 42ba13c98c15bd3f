-- The corner as the code works it out, in numbers not below 0: a step of -3 to 3 each way is written as a number of 0 to 6.
use Rattle.std.specs.Prelude.{Bool, ◌&&◌, cond, ℕ, ◌+◌, ◌-◌, ◌*◌}
use Rattle.std.proofs.Math.Dec.{ltb}

-- ---- definitions

-- |x - 3|
unfoldable pub step_size : ℕ → ℕ
step_size x = cond (ltb x 3) (3 - x) (x - 3)

unfoldable pub step_squared : ℕ → ℕ → ℕ
step_squared x y = step_size x * step_size x + step_size y * step_size y

-- the two sides of the cross product: it is `cross_plus` less `cross_minus`
abbrev pub cross_plus : (ux uy vx vy : ℕ) → ℕ
cross_plus ux uy vx vy = ux * vy + 3 * uy + 3 * vx

abbrev pub cross_minus : (ux uy vx vy : ℕ) → ℕ
cross_minus ux uy vx vy = uy * vx + 3 * ux + 3 * vy

unfoldable pub left_turn : (ux uy vx vy : ℕ) → Bool
left_turn ux uy vx vy =
    let p = cross_plus ux uy vx vy - cross_minus ux uy vx vy in
    ltb (cross_minus ux uy vx vy) (cross_plus ux uy vx vy) && ltb (step_squared ux uy * step_squared vx vy) (9 * (p * p))
