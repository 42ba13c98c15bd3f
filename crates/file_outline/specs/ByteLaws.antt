-- Laws of bytes, numbers and blocks: what the loops of the code rest on. Assumes nothing.
use Rattle.std.specs.Prelude.{◌≡◌, refl, true, not, List, ℕ, zero, suc, ◌+◌, ◌-◌, ◌*◌, ◌%◌, ◌^◌, ◌≤◌, ◌<◌, T, get_or, drop, Float}
use Rattle.std.proofs.Math.Path.{sym, ap}
use Rattle.std.proofs.Common.{◌∙◌, subst, true≢false, mul-le-mul, lt_of_lt_of_le, lt-ltb, le-ltb, pow_mono, pow-add, drop_of_length-le}
use native.Mathlib.Omega.{arith}
use Rattle.std.proofs.Math.ListN.{length, take, length-drop}
use Rattle.std.proofs.Math.Seq.{take_all, take-nil, drop-length}
use Rattle.std.specs.Float.{nan, inf, fin, binary64}
use Rattle.std.specs.Float.Ieee.{is_nan, nan_bits, of_bits, div}
use Rattle.std.specs.Float.Ieee.Bits.{nan_bits_above, nan_bits_is}
use Rattle.laws.specs.Loop.{Loop, loop_end, sum_up, sum_turn}
use Rattle.laws.proofs.Sums.{sum_zero, sum_suc}
use Rattle.numbers.specs.Float.{bits, zero_f, ◌⊘◌}
use Rattle.file_outline.specs.File.{number_at, block_at, weighted_byte, check_of}

-- what owning a slice of bytes tells
abbrev pub AreBytes : List ℕ → Type 0
AreBytes b = (i : ℕ) → get_or b i 0 < 256

-- ---- numbers

-- what `number_at` answers
pub record NumberOf (n : ℕ) (b : List ℕ) (i x : ℕ) : Type 0 where
  pub same : x ≡ number_at n b i
  pub small : x < 2 ^ (8 * n)

-- its loop: x is what the bytes from j to i + n make
pub record Number (n : ℕ) (b : List ℕ) (i j x : ℕ) : Type 0 where
  pub from : i ≤ j
  pub to : j ≤ i + n
  pub so_far : NumberOf (i + n - j) b j x

number_none : (b : List ℕ) (j n : ℕ) → n ≡ 0 → NumberOf n b j 0
unfolding number_at
number_none b j n e = rw e (record { same = refl; small = omega arith })

pub number_start : (n : ℕ) (b : List ℕ) (i : ℕ) → Number n b i (i + n) 0
number_start n b i = record { from = omega arith; to = omega arith; so_far = number_none b (i + n) _ (omega arith) }

-- one byte more, in front
pub number_more : (n : ℕ) (b : List ℕ) (i x : ℕ) → NumberOf n b (suc i) x → get_or b i 0 < 256 → NumberOf (suc n) b i (x * 256 + get_or b i 0)
unfolding number_at
number_more n b i x l h = record {
  same = turn x (get_or b i 0) ∙ ap (λ (y : ℕ). get_or b i 0 + 256 * y) l.same;
  small = rw (ap (λ (k : ℕ). 2 ^ k) eight ∙ pow-add 2 8 (8 * n)) (room (2 ^ (8 * n)) x (get_or b i 0) l.small h);
}
  where
    turn : (x y : ℕ) → x * 256 + y ≡ y + 256 * x
    turn x y = omega arith

    eight : 8 * suc n ≡ 8 + 8 * n
    eight = omega arith

    room : (p x y : ℕ) → x < p → y < 256 → x * 256 + y < 256 * p
    room p x y h k = omega arith

pub number_next : {n : ℕ} {b : List ℕ} {i j x : ℕ} → Number n b i j x → i < j → get_or b (j - 1) 0 < 256
    → Number n b i (j - 1) (x * 256 + get_or b (j - 1) 0)
number_next {n} {b} {i} {j} {x} l h byte = record { from = omega arith; to = omega (arith, l.to); so_far = so_far }
  where
    more : i + n - (j - 1) ≡ suc (i + n - j)
    more = omega (arith, l.to)

    next : suc (j - 1) ≡ j
    next = omega arith

    so_far : NumberOf (i + n - (j - 1)) b (j - 1) (x * 256 + get_or b (j - 1) 0)
    so_far = rw more (number_more (i + n - j) b (j - 1) x (rw next l.so_far) byte)

-- of at most 8 bytes, one of which is to come
pub number_fits : {n : ℕ} {b : List ℕ} {i j x : ℕ} → Number n b i j x → n ≤ 8 → i < j → x < 2 ^ 56
number_fits {n} {b} {i} {j} l few some = lt_of_lt_of_le l.so_far.small (pow_mono {i = 8 * (i + n - j)} {j = 56} (omega (arith, l.to)))

pub number_end : {n : ℕ} {b : List ℕ} {i j x : ℕ} → Number n b i j x → j ≤ i → NumberOf n b i x
number_end {n} {b} {i} {j} {x} l h =
    let at : j ≡ i = omega (arith, l.from) in
    let all : i + n - j ≡ n = omega (arith, l.from) in
    subst (λ (k : ℕ). NumberOf n b k x) at (subst (λ (k : ℕ). NumberOf k b j x) all l.so_far)

-- ---- floats

only_nan : (y : Float) → is_nan y ≡ true → y ≡ nan
unfolding is_nan
only_nan nan e = refl
only_nan (inf s) e = absurd (true≢false (sym e))
only_nan (fin s m e) g = absurd (true≢false (sym g))

-- a pattern above infinity's is a NaN's
pub above_nan : (x : ℕ) → 0x7ff0_0000_0000_0000 < x % 2 ^ 63 → zero_f ⊘ zero_f ≡ bits x
unfolding div of_bits
above_nan x h = sym (only_nan (bits x) (sym (nan_bits_is binary64 x) ∙ nan_bits_above binary64 x ∙ lt-ltb _ _ h))

pub no_nan_above : (x : ℕ) → x % 2 ^ 63 ≤ 0x7ff0_0000_0000_0000 → T (not (nan_bits binary64 x))
no_nan_above x h = rw (nan_bits_above binary64 x, le-ltb 0x7ff0_0000_0000_0000 (x % 2 ^ 63) h) tt

-- ---- blocks

-- a block that isn't there, one that is cut short, and a whole one
module _ (file : List ℕ) (k : ℕ) where
  pub block_absent : length file < 512 * k → take (length file - length file) (drop (length file) file) ≡ block_at file k
  unfolding block_at
  block_absent h =
      ap (take (length file - length file)) (drop-length file)
      ∙ take-nil (length file - length file)
      ∙ sym (ap (take 512) (drop_of_length-le file {i = 512 * k} (omega arith)))

  pub block_short : length file - 512 * k < 512 → take (length file - 512 * k) (drop (512 * k) file) ≡ block_at file k
  unfolding block_at
  block_short h =
      take_all (length file - 512 * k) (drop (512 * k) file) (rw length-drop (omega arith))
      ∙ sym (take_all 512 (drop (512 * k) file) (rw length-drop (omega arith)))

  pub block_whole : take (512 * k + 512 - 512 * k) (drop (512 * k) file) ≡ block_at file k
  unfolding block_at
  block_whole = let e : 512 * k + 512 - 512 * k ≡ 512 = omega arith in ap (λ (n : ℕ). take n (drop (512 * k) file)) e

-- ---- the check

-- the loop that adds it up
abbrev pub Adding : List ℕ → ℕ → ℕ → Type 0
Adding b i sum = Loop (sum_turn (weighted_byte b)) 0 510 i sum

pub weight : (b : List ℕ) (i : ℕ) → AreBytes b → i < 510 → weighted_byte b i ≤ 510 * 255
weight b i h lt = mul-le-mul {n₁ = i + 1} {m₁ = get_or b i 0} {n₂ = 510} {m₂ = 255} (omega arith) (omega (arith, h i))

pub weighted_sum_small : (b : List ℕ) (n : ℕ) → AreBytes b → n ≤ 510 → sum_up n (weighted_byte b) ≤ 130050 * n
weighted_sum_small b zero h le = rw sum_zero (omega arith)
weighted_sum_small b (suc n) h le = rw sum_suc (omega (arith, weighted_sum_small b n h (omega arith), weight b n h (omega arith)))

pub sum_fits : (b : List ℕ) {i sum : ℕ} → Adding b i sum → AreBytes b → sum ≤ 130050 * 510
unfolding sum_up
sum_fits b {i} l h = rw l.same (omega (arith, weighted_sum_small b i h l.within, l.within))

pub check_end : (b : List ℕ) {i sum : ℕ} → Adding b i sum → 510 ≤ i → sum % 65521 ≡ check_of b
unfolding check_of sum_up
check_end b l h = ap (λ (n : ℕ). n % 65521) (loop_end _ _ l h)
