-- The square of a number below 2 ^ 53 in two halves, and what its distance from s * 2 ^ 52 says of the root of that. Assumes nothing.
use Rattle.std.proofs.Common.{◌≡◌, ℕ, zero, suc, ◌+◌, ◌-◌, ◌*◌, ◌/◌, ◌%◌, ◌^◌, ◌<◌, ◌≤◌, ◌⊎◌, ap, subst, inl, inr, mul-le-mul, arith}
use Rattle.numbers.specs.Root.{NearRoot}

-- the digits of q, in base 2 ^ 27
up_le : (q : ℕ) → q < 2 ^ 53 → q / 2 ^ 27 ≤ 2 ^ 26 - 1
up_le q h = omega arith

down_le : (q : ℕ) → q % 2 ^ 27 ≤ 2 ^ 27 - 1
down_le q = omega arith

-- the three products
pub high_square : (q : ℕ) → q < 2 ^ 53 → q / 2 ^ 27 * (q / 2 ^ 27) ≤ (2 ^ 26 - 1) * (2 ^ 26 - 1)
high_square q h = mul-le-mul (up_le q h) (up_le q h)

pub cross_product : (q : ℕ) → q < 2 ^ 53 → q / 2 ^ 27 * (q % 2 ^ 27) ≤ (2 ^ 26 - 1) * (2 ^ 27 - 1)
cross_product q h = mul-le-mul (up_le q h) (down_le q)

pub low_square : (q : ℕ) → q % 2 ^ 27 * (q % 2 ^ 27) ≤ (2 ^ 27 - 1) * (2 ^ 27 - 1)
low_square q = mul-le-mul (down_le q) (down_le q)

-- the upper and the lower half
abbrev pub hi : ℕ → ℕ
hi q = q / 2 ^ 27 * (q / 2 ^ 27) * 4 + q / 2 ^ 27 * (q % 2 ^ 27) / 2 ^ 24

abbrev pub lo : ℕ → ℕ
lo q = q / 2 ^ 27 * (q % 2 ^ 27) % 2 ^ 24 * 2 ^ 28 + q % 2 ^ 27 * (q % 2 ^ 27)

pub square : (q : ℕ) → q * q ≡ hi q * 2 ^ 52 + lo q
square q = go (q / 2 ^ 27) (q % 2 ^ 27) (omega arith)
  where
    go : (a b : ℕ) → q ≡ a * 2 ^ 27 + b → q * q ≡ (a * a * 4 + a * b / 2 ^ 24) * 2 ^ 52 + (a * b % 2 ^ 24 * 2 ^ 28 + b * b)
    go a b e = omega (arith, ap (λ (x : ℕ). x * x) e)

pub lo_lt : (q : ℕ) → lo q < 2 ^ 55
lo_lt q = omega (arith, low_square q)

-- e is s * 2 ^ 52 - q * q, moved up by 3 * 2 ^ 56
abbrev pub moved : ℕ → ℕ → ℕ
moved s q = (s + 16 - hi q) * 2 ^ 52 + 2 ^ 57 - lo q

pub moved_is : (s q : ℕ) → hi q ≤ s + 16 → moved s q + q * q ≡ s * 2 ^ 52 + 3 * 2 ^ 56
moved_is s q h = go (hi q) (lo q) h (square q) (lo_lt q)
  where
    go : (h l : ℕ) → h ≤ s + 16 → q * q ≡ h * 2 ^ 52 + l → l < 2 ^ 55 → (s + 16 - h) * 2 ^ 52 + 2 ^ 57 - l + q * q ≡ s * 2 ^ 52 + 3 * 2 ^ 56
    go h l a e b = omega arith

this : (n q e : ℕ) → e + q * q ≡ n + 3 * 2 ^ 56 → e ≤ 3 * 2 ^ 56 + q → 3 * 2 ^ 56 < e + q → NearRoot n q
this n q e h a b = record { below = omega arith; above = omega arith }

pub next : (n q e : ℕ) → e + q * q ≡ n + 3 * 2 ^ 56 → 3 * 2 ^ 56 + q < e → e ≤ 3 * 2 ^ 56 + 3 * q + 2 → NearRoot n (q + 1)
next n q e h a b = record { below = omega arith; above = omega arith }

prev : (n q e : ℕ) → e + q * q ≡ n + 3 * 2 ^ 56 → e + q ≤ 3 * 2 ^ 56 → 3 * 2 ^ 56 + 2 < e + 3 * q → NearRoot n (q - 1)
prev n zero e h a b = absurd (no e a b)
  where
    no : (e : ℕ) → e + 0 ≤ 3 * 2 ^ 56 → 3 * 2 ^ 56 + 2 < e + 3 * 0 → ⊥
    no e a b = omega arith
prev n (suc q) e h a b = simp suc_sub (record { below = omega arith; above = omega arith })
  where
    suc_sub : suc q - 1 ≡ q
    suc_sub = omega arith

-- the three, by what the two tests put into `up` and `down`
pub record Chosen (n q up down : ℕ) : Type 0 where
  pub few : up ≤ 1
  pub less : down ≤ q + up
  pub near : NearRoot n (q + up - down)

plain : (q : ℕ) → q ≡ q + 0 - 0
plain q = omega arith

plus_one : (q : ℕ) → q + 1 ≡ q + 1 - 0
plus_one q = omega arith

minus_one_lem : (q : ℕ) → q - 1 ≡ q + 0 - 1
minus_one_lem q = omega arith

module _ (n q e : ℕ) (h : e + q * q ≡ n + 3 * 2 ^ 56) (top : e ≤ 3 * 2 ^ 56 + 3 * q + 2) (low : 3 * 2 ^ 56 + 2 < e + 3 * q) where
  pub choose : (up down : ℕ) → ((3 * 2 ^ 56 + q < e) × (up ≡ 1)) ⊎ ((e ≤ 3 * 2 ^ 56 + q) × (up ≡ 0))
      → ((e + q ≤ 3 * 2 ^ 56) × (down ≡ 1)) ⊎ ((3 * 2 ^ 56 < e + q) × (down ≡ 0))
      → Chosen n q up down
  choose up down (inl a) (inl b) = absurd (no a.0 b.0)
    where
      no : 3 * 2 ^ 56 + q < e → e + q ≤ 3 * 2 ^ 56 → ⊥
      no x y = omega arith
  choose up down (inl a) (inr b) =
      rw (a.1, b.1)
      (record { few = omega arith; less = omega arith; near = subst (NearRoot n) (plus_one q) (next n q e h a.0 top) })
  choose up down (inr a) (inl b) =
      rw (a.1, b.1)
      (record { few = omega arith; less = omega arith; near = subst (NearRoot n) (minus_one_lem q) (prev n q e h b.0 low) })
  choose up down (inr a) (inr b) =
      rw (a.1, b.1)
      (record { few = omega arith; less = omega arith; near = subst (NearRoot n) (plain q) (this n q e h a.0 b.0) })
