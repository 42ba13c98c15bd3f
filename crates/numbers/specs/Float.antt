-- Floats: the operations of f64 under circled signs, the constants that all layers share, and functions of f64. Definitions only.
-- Each sign is lib.Ieee's operation, rounded once, so a definition shows the Rust's operations in the Rust's order.
use Rattle.std.specs.Prelude.{ℕ, Bool, true, false, cond, pos, from_bits, is_nan, Float}
use Rattle.std.specs.Float.{nan, inf, fin, binary64}
use Rattle.std.specs.Float.Ieee.{add, sub, mul, div, lt, of_int}
use Rattle.numbers.specs.Root.{root}

infixl 66 ◌⊕◌
infixl 66 ◌⊖◌
infixl 71 ◌⊗◌
infixl 71 ◌⊘◌
-- `x + y`
abbrev pub ◌⊕◌ : Float → Float → Float
x ⊕ y = add binary64 x y

-- `x - y`
abbrev pub ◌⊖◌ : Float → Float → Float
x ⊖ y = sub binary64 x y

-- `x * y`
abbrev pub ◌⊗◌ : Float → Float → Float
x ⊗ y = mul binary64 x y

-- `x / y`
abbrev pub ◌⊘◌ : Float → Float → Float
x ⊘ y = div binary64 x y

-- `x.sqrt()`
abbrev pub sqrt : Float → Float
sqrt x = root x

-- `f64::from_bits(b)`, which is also how the code's literals stand
abbrev pub bits : ℕ → Float
bits b = from_bits binary64 b

-- `n as f64`
abbrev pub to_float : ℕ → Float
to_float n = of_int binary64 (pos n)

-- 0.0
abbrev pub zero_f : Float
zero_f = bits 0x0000_0000_0000_0000

-- 1.0
abbrev pub one_f : Float
one_f = bits 0x3ff0_0000_0000_0000

-- 2.0
abbrev pub two_f : Float
two_f = bits 0x4000_0000_0000_0000

-- 4.0
abbrev pub four_f : Float
four_f = bits 0x4010_0000_0000_0000

-- 0.5
abbrev pub half_f : Float
half_f = bits 0x3fe0_0000_0000_0000

-- 1e-12, the Rust's tolerance of lengths, areas and orientations
abbrev pub tolerance : Float
tolerance = bits 0x3d71_9799_812d_ea11

-- `f64::INFINITY`
abbrev pub infinity_f : Float
infinity_f = inf false

-- `f64::NEG_INFINITY`
abbrev pub neg_infinity_f : Float
neg_infinity_f = inf true

-- `x.is_finite()`
unfoldable pub is_finite : Float → Bool
is_finite nan = false
is_finite (inf s) = false
is_finite (fin s m e) = true

-- `x.abs()`
unfoldable pub abs_f : Float → Float
abs_f nan = nan
abs_f (inf s) = inf false
abs_f (fin s m e) = fin false m e

-- `x.min(y)`: where one is a NaN, the other. Of two equal zeros Rust may return either; this is x.
unfoldable pub min_f : Float → Float → Float
min_f x y = cond (is_nan x) y (cond (lt y x) y x)

-- `x.max(y)`: where one is a NaN, the other. Of two equal zeros Rust may return either; this is x.
unfoldable pub max_f : Float → Float → Float
max_f x y = cond (is_nan x) y (cond (lt x y) y x)

-- `x.clamp(lo, hi)`: a NaN stays. Rust panics where lo > hi, or lo or hi is a NaN; this is hi where lo > hi and x is a number, and a
-- bound that is a NaN bounds nothing.
unfoldable pub clamp_f : Float → Float → Float → Float
clamp_f x lo hi = let y = cond (lt x lo) lo x in cond (lt hi y) hi y
