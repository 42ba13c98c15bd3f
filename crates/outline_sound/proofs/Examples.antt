-- Small outlines judged by the definition: the check computes each. Coordinates run x then y, a point after another. Assumes nothing.
use Rattle.std.specs.Prelude.{◌≡◌, refl, true, false, List, [], ◌∷◌, ℕ, Float}
use Rattle.std.specs.Int.Count.{count_trailing_zeros}
use Rattle.std.specs.Float.Ieee.{of_bits, of_int, round, odd, size, climb}
use Rattle.laws.specs.Loop.{for_up, any_up, sum_up}
use Rattle.numbers.specs.Float.{bits, to_float, zero_f, one_f}
use Rattle.exact.specs.Units.{W, size_of}
use Rattle.exact.specs.Corner.{cross}
use Rattle.outline.specs.Outline.{Outline, outline, hole_start, hole_at, loop_at, point_at}
use Rattle.outline_orientation.specs.Orient.{orient}
use Rattle.outline_sound.specs.Sound.{scalar_product, overlap, parted, meets, folds_back, folds_at, clash, crosses_itself, touch, ray_meets, is_inside}
use Rattle.outline_sound.specs.Sound.{strays_out, lies_in, outline_sound}
use Rattle.outline_sound.specs.Whole.{is_whole}

-- all that computes
unfoldable pub opened_sound : Unit {0}
unfolding of_bits of_int round odd size climb count_trailing_zeros for_up any_up sum_up W size_of cross hole_start hole_at loop_at point_at scalar_product orient overlap parted meets
    folds_back folds_at clash crosses_itself touch ray_meets is_inside strays_out lies_in outline_sound is_whole
opened_sound = tt

-- whole numbers as doubles
abbrev floats : List ℕ → List Float
floats [] = []
floats (n ∷ ns) = to_float n ∷ floats ns

-- one loop
abbrev drawn : List ℕ → Outline
drawn ns = outline (floats ns) [] []

-- a square of side 8 with holes
abbrev board : List ℕ → List ℕ → Outline
board holes lens = outline (floats (0 ∷ 0 ∷ 8 ∷ 0 ∷ 8 ∷ 8 ∷ 0 ∷ 8 ∷ [])) (floats holes) lens

-- ---- one loop

pub record LoopExamples : Type 0 where
  pub triangle : outline_sound (drawn (0 ∷ 0 ∷ 4 ∷ 0 ∷ 0 ∷ 3 ∷ [])) ≡ true
  pub square : outline_sound (drawn (0 ∷ 0 ∷ 1 ∷ 0 ∷ 1 ∷ 1 ∷ 0 ∷ 1 ∷ [])) ≡ true
  -- the same square the other way round
  pub clockwise : outline_sound (drawn (0 ∷ 0 ∷ 0 ∷ 1 ∷ 1 ∷ 1 ∷ 1 ∷ 0 ∷ [])) ≡ true
  -- three points in line fold back
  pub flat : outline_sound (drawn (0 ∷ 0 ∷ 1 ∷ 1 ∷ 2 ∷ 2 ∷ [])) ≡ false
  -- and so does a triangle with a side of no length, here where the last segment meets the first
  pub thin : outline_sound (drawn (1 ∷ 0 ∷ 0 ∷ 0 ∷ 0 ∷ 0 ∷ [])) ≡ false
  -- straight on at a point
  pub straight : outline_sound (drawn (0 ∷ 0 ∷ 1 ∷ 0 ∷ 2 ∷ 0 ∷ 2 ∷ 2 ∷ 0 ∷ 2 ∷ [])) ≡ true
  -- two teeth, whose upper sides are in one line and apart
  pub comb : outline_sound (drawn (0 ∷ 0 ∷ 6 ∷ 0 ∷ 6 ∷ 2 ∷ 4 ∷ 2 ∷ 4 ∷ 1 ∷ 2 ∷ 1 ∷ 2 ∷ 2 ∷ 0 ∷ 2 ∷ [])) ≡ true
  -- segments 0 and 2 cross
  pub eight : outline_sound (drawn (0 ∷ 0 ∷ 2 ∷ 2 ∷ 2 ∷ 0 ∷ 0 ∷ 2 ∷ [])) ≡ false
  -- out and back to the same point: segments 3 and 4 fold back
  pub spike : outline_sound (drawn (0 ∷ 0 ∷ 2 ∷ 0 ∷ 2 ∷ 2 ∷ 1 ∷ 2 ∷ 1 ∷ 1 ∷ 1 ∷ 2 ∷ 0 ∷ 2 ∷ [])) ≡ false
  -- the last point lies on the first side
  pub corner : outline_sound (drawn (0 ∷ 0 ∷ 4 ∷ 0 ∷ 4 ∷ 4 ∷ 2 ∷ 0 ∷ [])) ≡ false
  -- a corner drawn twice: the segments before and after the one of no length meet
  pub twice : outline_sound (drawn (0 ∷ 0 ∷ 1 ∷ 0 ∷ 1 ∷ 0 ∷ 1 ∷ 1 ∷ 0 ∷ 1 ∷ [])) ≡ false
  -- one point three times: every two segments are neighbours, and share their common end alone; four times: segments 0 and 2 meet
  pub point_thrice : outline_sound (drawn (1 ∷ 1 ∷ 1 ∷ 1 ∷ 1 ∷ 1 ∷ [])) ≡ true
  pub point_four_times : outline_sound (drawn (1 ∷ 1 ∷ 1 ∷ 1 ∷ 1 ∷ 1 ∷ 1 ∷ 1 ∷ [])) ≡ false

pub loops : LoopExamples
unfolding opened_sound
loops =
    record {
      triangle = refl;
      square = refl;
      clockwise = refl;
      flat = refl;
      thin = refl;
      straight = refl;
      comb = refl;
      eight = refl;
      spike = refl;
      corner = refl;
      twice = refl;
      point_thrice = refl;
      point_four_times = refl;
    }

-- ---- holes in the square of side 8

pub record Holes : Type 0 where
  pub inside : outline_sound (board (2 ∷ 2 ∷ 2 ∷ 4 ∷ 4 ∷ 4 ∷ 4 ∷ 2 ∷ []) (4 ∷ [])) ≡ true
  pub outside : outline_sound (board (9 ∷ 1 ∷ 9 ∷ 2 ∷ 10 ∷ 1 ∷ []) (3 ∷ [])) ≡ false
  -- a corner on the side of the outer loop
  pub touching : outline_sound (board (0 ∷ 3 ∷ 2 ∷ 4 ∷ 2 ∷ 2 ∷ []) (3 ∷ [])) ≡ false
  -- half in, half out
  pub across : outline_sound (board (6 ∷ 3 ∷ 6 ∷ 5 ∷ 10 ∷ 4 ∷ []) (3 ∷ [])) ≡ false
  pub two : outline_sound (board (1 ∷ 1 ∷ 1 ∷ 3 ∷ 3 ∷ 1 ∷ 5 ∷ 5 ∷ 5 ∷ 7 ∷ 7 ∷ 5 ∷ []) (3 ∷ 3 ∷ [])) ≡ true
  -- the second lies in the first
  pub nested : outline_sound (board (1 ∷ 1 ∷ 1 ∷ 7 ∷ 7 ∷ 7 ∷ 7 ∷ 1 ∷ 3 ∷ 3 ∷ 3 ∷ 5 ∷ 5 ∷ 3 ∷ []) (4 ∷ 3 ∷ [])) ≡ false
  -- they have one corner in common
  pub joined : outline_sound (board (1 ∷ 1 ∷ 1 ∷ 3 ∷ 3 ∷ 3 ∷ 3 ∷ 3 ∷ 5 ∷ 5 ∷ 5 ∷ 3 ∷ []) (3 ∷ 3 ∷ [])) ≡ false
  -- two bars across each other: no corner of one is inside the other
  pub barred : outline_sound (board (1 ∷ 3 ∷ 7 ∷ 3 ∷ 7 ∷ 5 ∷ 1 ∷ 5 ∷ 3 ∷ 1 ∷ 5 ∷ 1 ∷ 5 ∷ 7 ∷ 3 ∷ 7 ∷ []) (4 ∷ 4 ∷ [])) ≡ false

pub holes : Holes
unfolding opened_sound
holes = record { inside = refl; outside = refl; touching = refl; across = refl; two = refl; nested = refl; joined = refl; barred = refl }

-- ---- a ray through a corner: the hole's lowest corners are as high as two corners of the outer loop

level : outline_sound (outline (floats (4 ∷ 0 ∷ 8 ∷ 4 ∷ 4 ∷ 8 ∷ 0 ∷ 4 ∷ [])) (floats (3 ∷ 4 ∷ 4 ∷ 5 ∷ 5 ∷ 4 ∷ [])) (3 ∷ [])) ≡ true
unfolding opened_sound
level = refl

-- ---- a square with a slit from (0, -1) up to its upper side, whose two lips are at u and v on the height h

abbrev slit : Float → Float → Float → Outline
slit u v h =
    let minus_one = bits 0xbff0_0000_0000_0000 in
    let minus_two = bits 0xc000_0000_0000_0000 in
    outline
    (minus_one ∷ minus_two ∷ one_f ∷ minus_two ∷ one_f ∷ zero_f ∷ u ∷ h ∷ zero_f ∷ minus_one ∷ v ∷ h ∷ minus_one ∷ zero_f ∷ []) [] []

-- the smallest double above 0, 5e-324, and its opposite
abbrev tiny : Float
tiny = bits 1

abbrev minus_tiny : Float
minus_tiny = bits 0x8000_0000_0000_0001

pub record Slits : Type 0 where
  pub gaping : outline_sound (slit tiny minus_tiny tiny) ≡ true
  -- the two sides of the slit are one
  pub shut : outline_sound (slit zero_f zero_f zero_f) ≡ false
  -- they lie across each other
  pub crossed : outline_sound (slit minus_tiny tiny tiny) ≡ false
  -- the word: of an outline that is sound nothing may be listed either
  pub whole : is_whole (slit tiny minus_tiny tiny) 0 ≡ true
  pub listed : is_whole (slit tiny minus_tiny tiny) 1 ≡ false
  pub unsound : is_whole (slit zero_f zero_f zero_f) 0 ≡ false

pub slits : Slits
unfolding opened_sound
slits = record { gaping = refl; shut = refl; crossed = refl; whole = refl; listed = refl; unsound = refl }
