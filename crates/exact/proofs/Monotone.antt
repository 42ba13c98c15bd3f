-- Rounding keeps the order: a sum or a quotient that is exactly at most a whole number K below 2 ^ 53 is at most K as it is rounded. So the mean
-- of two doubles within K is within K, which no bound on the error gives. Assumes nothing.
use Rattle.std.specs.Prelude.{◌≡◌, refl, false, ℕ, ◌+◌, ◌*◌, ◌^◌, ◌≤◌, ◌<◌, Float}
use Rattle.std.proofs.Common.{ap, ◌∙◌, le_trans, le_of_eq, le_of_lt, lt_of_le_of_lt, lt_of_lt_of_le, mul_comm, mul_assoc, mul_right_comm, add-mul, mul-pos, mul-le-mul_right, mul-lt-mul_of_pos_right, le_of_mul-le-mul_right, le-mul_of_pos_right, arith, leb→le, lit<, lit≤}
use Rattle.std.specs.Float.{binary64}
use Rattle.std.specs.Float.Ieee.{round, unlike}
use Rattle.std.specs.Float.Ieee.Exact.{round_exact}
use Rattle.std.specs.Float.Ieee.Order.{round_mono}
use Rattle.numbers.specs.Float.{◌⊕◌, ◌⊘◌, two_f}
use Rattle.exact.proofs.Rounding.{Close, rounded, round_close}
use Rattle.exact.specs.Units.{W, W-pos, Val, Within}
use Rattle.exact.proofs.Constants.{two_val}
use Rattle.exact.proofs.Order.{le_val}
use Rattle.exact.proofs.Operations.{round_val, add_law, div_law}

-- K, rounded, is K
whole_round : (K : ℕ) → K < 2 ^ 53 → Val (round binary64 false (K * W) W) false (K * W)
unfolding W
whole_round K h =
    let room = mul-lt-mul_of_pos_right {n = 2 ^ 1024} (lt_of_lt_of_le h (lit≤ tt)) W-pos in
    round_exact binary64 false (K * W) W K 1074 W-pos h room refl

-- a / c is at most K, so it is so rounded
pub rounded_most : (a c K : ℕ) → 0 < c → K < 2 ^ 53 → a ≤ K * c → rounded (a * W) c ≤ K * W
rounded_most a c K C h l =
    leb→le (rounded (a * W) c) (K * W)
    ((le_val (round binary64 false a c) (round binary64 false (K * W) W) false false (rounded (a * W) c) (K * W)
    (round_val false a c room) (whole_round K h)).0 (round_mono binary64 a c (K * W) W C W-pos scaled)).le
  where
    scaled : a * W ≤ K * W * c
    scaled = le_trans (mul-le-mul_right W l) (le_of_eq (mul_right_comm K c W))

    twice : (x n u : ℕ) → Close x n (n + 2 ^ 52 * u) → x ≤ 2 * n + u
    twice x n u h = omega arith

    sum : (n u : ℕ) → (2 * n + W) * u ≡ 2 * (n * u) + W * u
    sum n u = add-mul (2 * n) W u ∙ ap (λ (z : ℕ). z + W * u) (mul_assoc 2 n u)

    -- nothing overflows
    crude : rounded (a * W) c ≤ 2 * (K * W) + W
    crude =
        let unit = le_trans (le-mul_of_pos_right c W-pos) (le_of_eq (mul_comm c W)) in
        le_of_mul-le-mul_right
        (le_trans (twice (rounded (a * W) c * c) (a * W) c (round_close (a * W) c C))
        (go (a * W) (K * W * c) (W * c) ((2 * (K * W) + W) * c) scaled unit (sum (K * W) c))) C
      where
        go : (x y z v : ℕ) → x ≤ y → c ≤ z → v ≡ 2 * y + z → 2 * x + c ≤ v
        go x y z v p q e = omega arith

    room : rounded (a * W) c < 2 ^ 1024 * W
    room =
        lt_of_le_of_lt (le_trans crude (go (K * W) (mul-le-mul_right W (le_of_lt h))))
        (mul-lt-mul_of_pos_right (lit< tt) W-pos)
      where
        go : (x : ℕ) → x ≤ 2 ^ 53 * W → 2 * x + W ≤ 2 ^ 55 * W
        go x h = omega arith

-- ---- the mean

pub mean_within : {x y : Float} → Within 1001 x → Within 1001 y → Within 1001 ((x ⊕ y) ⊘ two_f)
mean_within {x} {y} p q =
    let s = add_law p q tt tt in
    let sum = rounded_most s.exact W 2002 W-pos (lit< tt) (both p.size q.size s.exact p.small q.small s.small) in
    let half = halved s.size (le_trans (le_of_eq s.rounds) sum) in
    let positive : 0 < 2 * W = mul-pos (lit< tt) W-pos in
    let room = le_trans half (mul-le-mul_right (2 * W) (lit≤ {m = 1001} tt)) in
    let t = div_law (x ⊕ y) two_f s.sign false s.size (2 * W) s.val two_val positive room in
    record {
      sign = unlike s.sign false;
      size = t.size;
      val = t.val;
      small = le_trans (le_of_eq t.rounds) (rounded_most s.size (2 * W) 1001 positive (lit< tt) half);
    }
  where
    both : (a b n : ℕ) → a ≤ 1001 * W → b ≤ 1001 * W → n ≤ a + b → n ≤ 2002 * W
    both a b n h k l = omega arith

    halved : (n : ℕ) → n ≤ 2002 * W → n ≤ 1001 * (2 * W)
    halved n h = omega arith
