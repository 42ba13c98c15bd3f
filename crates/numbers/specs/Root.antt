-- The square root of an f64 as IEEE 754 has it: the exact root rounded once, to the nearest double. Definitions only; specs/Nearest.antt
-- proves that it is the nearest, and proofs/Table.antt computes some.
use Rattle.std.specs.Prelude.{◌≡◌, ℕ, zero, suc, ◌+◌, ◌-◌, ◌*◌, ◌/◌, ◌^◌, ◌<◌, ◌≤◌, true, false, cond, from_bits, nat_le, Float}
use Prim.Native.Nat.{compare}
use Rattle.std.specs.Float.{nan, inf, fin, binary64}
use Rattle.std.specs.Float.Ieee.{up, down, size, nearest, units}

-- one more binary digit of a root: r is the whole part of √(n / 4)
abbrev pub digit : ℕ → ℕ → ℕ
digit n r = cond (nat_le ((2 * r + 1) * (2 * r + 1)) n) (2 * r + 1) (2 * r)

-- the whole part of √n, for an n below 4 ^ k
unfoldable pub isqrt_in : ℕ → ℕ → ℕ
isqrt_in zero n = 0
isqrt_in (suc k) n = digit n (isqrt_in k (n / 4))

-- how many binary digits √n has before the point: half of n's, rounded up
abbrev pub root_size : ℕ → ℕ
root_size n = (size n + 1) / 2

-- the whole part of √n
abbrev pub isqrt : ℕ → ℕ
isqrt n = isqrt_in (root_size n) n

-- √n units, rounded; a unit is the smallest double above 0, 2 ^ -1074. The 53 leading digits of the root are kept and k are dropped.
-- q is the whole part of √n / 2 ^ k, which is compared with q + 1/2 by the squares of their doubles.
unfoldable pub root_units : ℕ → Float
root_units n =
    let k = root_size n - 53 in
    let q = isqrt (n / 4 ^ k) in
    units binary64 false (nearest q (compare (4 * n) ((2 * q + 1) * (2 * q + 1) * 4 ^ k))) k

-- `x.sqrt()`: a zero keeps its sign, and below zero there is none. m * 2 ^ e is m * 2 ^ e * 2 ^ 2148 squares of a unit.
unfoldable pub root : Float → Float
root nan = nan
root (inf true) = nan
root (inf false) = inf false
root (fin s zero e) = fin s zero e
root (fin true (suc m) e) = nan
root (fin false (suc m) e) = root_units (suc m * up e * 2 ^ 2148 / down e)

-- q is the whole number nearest to √n: q - 1/2 < √n < q + 1/2, with all sides squared
pub record NearRoot (n q : ℕ) : Type 0 where
  pub below : q * q < n + q
  pub above : n ≤ q * q + q

-- k are the bits of √n units, rounded, which is a normal number
pub record RootBits (n k : ℕ) : Type 0 where
  pub is : from_bits binary64 k ≡ root_units n
  pub least : 2 ^ 52 ≤ k
  pub finite : k < 0x7ff0_0000_0000_0000
