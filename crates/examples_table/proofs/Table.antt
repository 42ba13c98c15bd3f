-- SCOPE's table of edges as one list, each computed from the definitions with the code's literals.
use Rattle.std.specs.Prelude.{◌≡◌, refl, Bool, true, false, not, List, [], ◌∷◌, ℕ, ℤ, pos, negsuc, nat_abs, ◌-ℤ◌, eqb, Float}
use Rattle.std.specs.Float.Ieee.{neg, eq}
use Rattle.numbers.specs.Float.{bits, sqrt, zero_f, one_f, two_f, four_f, half_f}
use Rattle.outline.specs.Outline.{Outline, outline, point}
use Rattle.outline.specs.Queries.{contains}
use Rattle.outline.proofs.Table.{unit_square}
use Rattle.geometry.specs.declared.Key.{Key}
use Rattle.geometry.specs.Keys.{key_of, spans_kept}
use Rattle.field_direction.specs.Record.{field_lists}
use Rattle.field_cross.specs.Grid.{size_refusal}
use Rattle.field_cross.specs.Field.{field_refusal}
use Rattle.front.specs.declared.Corner.TheVariants.{Fresh}
use Rattle.front.specs.State.{State, counted}
use Rattle.front.specs.Sampling.{parts_of}
use Rattle.paving.specs.Checks.{too_close, corners_apart}
use Rattle.paving.specs.Attempt.{is_reused}
use Rattle.books.specs.Book.{filled}
use Rattle.examples_table.proofs.Opened.{opened}

-- 0.35
abbrev x035 : Float
x035 = bits 0x3fd6_6666_6666_6666

-- 0.45
abbrev x045 : Float
x045 = bits 0x3fdc_cccc_cccc_cccd

-- 1.05
abbrev x105 : Float
x105 = bits 0x3ff0_cccc_cccc_cccd

-- 1.06
abbrev x106 : Float
x106 = bits 0x3ff0_f5c2_8f5c_28f6

-- 0.01
abbrev x001 : Float
x001 = bits 0x3f84_7ae1_47ae_147b

-- the float below 0.01
abbrev below001 : Float
below001 = bits 0x3f84_7ae1_47ae_147a

-- (0,0) (1,0) (2,0)
abbrev flat : Outline
flat = outline (zero_f ∷ zero_f ∷ one_f ∷ zero_f ∷ two_f ∷ zero_f ∷ []) [] []

-- one node, at (x, 0)
abbrev one_node : Float → State
one_node x =
    record { xs = x ∷ []; ys = zero_f ∷ []; next = 0 ∷ []; prev = 0 ∷ []; snapshot = 0 ∷ []; quads = []; edges = []; counts = counted 1 0 0 0 }

abbrev key_at : ℕ → ℕ → Key
key_at i j = record { i = pos i; j = pos j }

abbrev is_integer : ℤ → ℤ → Bool
is_integer k l = eqb (nat_abs (k -ℤ l)) 0

unfoldable pub lines : List Bool
lines =
    eq (sqrt zero_f) zero_f
    ∷ eq (sqrt four_f) two_f
    ∷ eqb (parts_of one_f x105) 1
    ∷ eqb (parts_of one_f x106) 2
    ∷ contains unit_square (point zero_f zero_f)
    ∷ not (contains unit_square (point one_f one_f))
    ∷ is_reused one_f (one_node x035) 5 0 (point zero_f zero_f)
    ∷ not (corners_apart one_f (Fresh zero_f zero_f) (Fresh x045 zero_f))
    ∷ not (too_close one_f (one_node x045) (point zero_f zero_f))
    ∷ is_integer (key_of one_f (point (neg half_f) zero_f)).i (negsuc 0)
    ∷ spans_kept (key_at 0 0) (key_at 4000 96)
    ∷ not (spans_kept (key_at 0 0) (key_at 4000 97))
    ∷ eqb (field_refusal flat one_f 400 (field_lists [] [])) 7
    ∷ eqb (size_refusal zero_f) 5
    ∷ eqb (size_refusal x001) 0
    ∷ eqb (size_refusal below001) 6
    ∷ []

pub table : lines ≡ filled 16 true
unfolding lines opened
table = refl
