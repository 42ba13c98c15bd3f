-- Bowl steps: a coordinate in whole steps of 1/64 degree. Definitions only.
use Rattle.std.specs.Prelude.{◌&&◌, ◌||◌, cond, ℕ, ◌+◌, ◌*◌, ◌/◌, ◌%◌, ltb, eqb, ℤ, Float}
use Rattle.exact.specs.Units.{W, signed, sign_of, size_of}

-- t / w to the nearest whole number, halves to the even one
unfoldable pub nearest_whole : ℕ → ℕ → ℕ
nearest_whole t w =
    let q = t / w in
    let r = t % w in
    cond (ltb w (2 * r) || (eqb (2 * r) w && eqb (q % 2) 1)) (q + 1) q

-- x to the nearest step of 1/64. The size is rounded, and takes the sign: so halves go to the even step on either side of 0
unfoldable pub nearest_step : Float → ℤ
nearest_step x = signed (sign_of x) (nearest_whole (64 * size_of x) W)
