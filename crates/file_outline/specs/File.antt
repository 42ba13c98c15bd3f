-- The outline file of docs/FORMATS.md: 512-byte blocks, integers and float bits low byte first, and the refusals 12 and 13.
-- A file is a list of bytes, naturals below 256, of any length. Definitions only.
use Rattle.std.specs.Prelude.{Bool, not, ◌&&◌, cond, ℕ, zero, suc, ◌+◌, ◌-◌, ◌*◌, ◌/◌, ◌%◌, min, leb, ltb, eqb, length, get_or, take, drop, replicate, Float, Result, Ok, Err}
use mathlib.Core.List.{List, [], ◌∷◌, ◌++◌, map, flatten}
use Rattle.std.specs.Float.{binary64}
use Rattle.std.specs.Float.Ieee.{to_bits}
use Rattle.laws.specs.Loop.{for_up, any_up, sum_up}
use Rattle.laws.specs.Overlay.{overlay}
use Rattle.laws.specs.Tabulate.{tabulate}
use Rattle.numbers.specs.Float.{bits, zero_f}
use Rattle.numbers.specs.Whole.{ceil_div}
use Rattle.outline.specs.declared.Settings.{Settings}
use Rattle.outline.specs.Outline.{Outline, outline, first_of}
use Rattle.file_outline.specs.declared.Head.{Head}

-- What a file asks for: the settings, the points of all loops as coordinates, x then y, and each loop's length in points. The outer loop is first.
pub record Request : Type 0 where
  pub settings : Settings
  pub coordinates : List Float
  pub lengths : List ℕ

abbrev pub request : Settings → List Float → List ℕ → Request
request settings coordinates lengths = record { settings = settings; coordinates = coordinates; lengths = lengths }

-- the outline as it is lent to a run
unfoldable pub outline_of : Request → Outline
outline_of r =
    let outer = 2 * get_or r.lengths 0 0 in
    outline (take outer r.coordinates) (drop outer r.coordinates) (drop 1 r.lengths)

-- ---- bytes

-- n bytes from place i on as a number, low byte first
unfoldable pub number_at : ℕ → List ℕ → ℕ → ℕ
number_at zero b i = 0
number_at (suc n) b i = get_or b i 0 + 256 * number_at n b (suc i)

-- the float whose bits are the 8 bytes from place i on
abbrev pub float_at : List ℕ → ℕ → Float
float_at b i = bits (number_at 8 b i)

-- ---- blocks

-- block k of a file, or what there is of it
unfoldable pub block_at : List ℕ → ℕ → List ℕ
block_at file k = take 512 (drop (512 * k) file)

-- the check: the sum of (position + 1) × byte over bytes 0 to 509, modulo 65,521
abbrev pub weighted_byte : List ℕ → ℕ → ℕ
weighted_byte b i = (i + 1) * get_or b i 0

unfoldable pub check_of : List ℕ → ℕ
check_of b = sum_up 510 (weighted_byte b) % 65521

-- of a block: absent or shorter than 512 bytes 13, then the check in bytes 510 and 511, 12
unfoldable pub block_refusal : List ℕ → ℕ
block_refusal b = cond (ltb (length b) 512) 13 (cond (eqb (check_of b) (number_at 2 b 510)) 0 12)

-- whether byte `at` + i isn't 0
abbrev pub nonzero_byte : List ℕ → ℕ → ℕ → Bool
nonzero_byte b at i = not (eqb (get_or b (at + i) 0) 0)

-- whether the bytes from place `at` to 509 are 0
unfoldable pub zero_from : List ℕ → ℕ → Bool
zero_from b at = not (any_up (510 - at) (nonzero_byte b at))

-- ---- the head block: size in 8 bytes, then sweeps, passes, the number of loops and each loop's length in 2 bytes each, then zeros

abbrev pub head_loops : List ℕ → ℕ
head_loops h = number_at 2 h 12

abbrev pub head_length : List ℕ → ℕ → ℕ
head_length h k = number_at 2 h (14 + 2 * k)

-- the points of the first n loops
unfoldable pub head_points : List ℕ → ℕ → ℕ
head_points h n = sum_up n (head_length h)

-- 1 to 8 loops, at most 248 points, zeros after the lengths
unfoldable pub head_sound : List ℕ → Bool
head_sound h =
    leb 1 (head_loops h) && (leb (head_loops h) 8 && (leb (head_points h (head_loops h)) 248 && zero_from h (14 + 2 * head_loops h)))

unfoldable pub head_refusal : List ℕ → ℕ
head_refusal h = first_of (block_refusal h) (cond (head_sound h) 0 13)

-- ---- the points: 31 a block, x then y, the rest zero

-- how many blocks n points take
abbrev pub point_blocks : ℕ → ℕ
point_blocks n = ceil_div n 31

-- of the k-th block of n points, which is block k + 1 of the file
unfoldable pub points_refusal : List ℕ → ℕ → ℕ → ℕ
points_refusal file n k =
    let b = block_at file (k + 1) in
    first_of (block_refusal b) (cond (zero_from b (16 * min (n - 31 * k) 31)) 0 13)

-- of all of them, block by block
abbrev pub points_turn : List ℕ → ℕ → ℕ → ℕ → ℕ
points_turn file n k refusal = first_of refusal (points_refusal file n k)

unfoldable pub blocks_refusal : List ℕ → ℕ → ℕ
blocks_refusal file n = for_up (point_blocks n) (points_turn file n) 0

-- coordinate c of a file: 0 is the first point's x, 1 its y
unfoldable pub coordinate_at : List ℕ → ℕ → Float
coordinate_at file c = float_at (block_at file (c / 62 + 1)) (8 * (c % 62))

-- ---- the file

-- how many points the head announces
abbrev pub file_points : List ℕ → ℕ
file_points file = head_points (block_at file 0) (head_loops (block_at file 0))

-- how many bytes a file of n points has
abbrev pub file_length : ℕ → ℕ
file_length n = 512 * (point_blocks n + 1)

-- 13: anything after the end
unfoldable pub end_refusal : List ℕ → ℕ → ℕ
end_refusal file n = cond (ltb (file_length n) (length file)) 13 0

-- 12 and 13: the head first, then block by block, last the end
unfoldable pub file_refusal : List ℕ → ℕ
file_refusal file =
    let n = file_points file in
    first_of (head_refusal (block_at file 0)) (first_of (blocks_refusal file n) (end_refusal file n))

-- what a file asks for that isn't refused
unfoldable pub request_of : List ℕ → Request
request_of file =
    let h = block_at file 0 in
    record {
      settings = record { size = float_at h 0; sweeps = number_at 2 h 8; passes = number_at 2 h 10 };
      coordinates = tabulate (2 * file_points file) (coordinate_at file);
      lengths = tabulate (head_loops h) (head_length h);
    }

-- ---- what `read_file` answers, and leaves in the lists lent to it

-- the numbers of a request
unfoldable pub head_of : Request → Head
head_of r = record { settings = r.settings; loops = length r.lengths; outer = get_or r.lengths 0 0; points = length r.coordinates / 2 }

-- the refusal's number, 0 where nothing is refused, and the numbers of what was read, 0 where it is refused
pub record FileNumbers : Type 0 where
  pub refusal : ℕ
  pub head : Head

abbrev pub file_numbers : Result Head ℕ → FileNumbers
file_numbers (Err n) =
    record { refusal = n; head = record { settings = record { size = zero_f; sweeps = 0; passes = 0 }; loops = 0; outer = 0; points = 0 } }
file_numbers (Ok head) = record { refusal = 0; head = head }

pub record Reading : Type 0 where
  pub numbers : FileNumbers
  pub points : List Float
  pub lens : List ℕ

abbrev pub reading : Result Head ℕ → List Float → List ℕ → Reading
reading answer points lens = record { numbers = file_numbers answer; points = points; lens = lens }

-- refused with its number and nothing written; or the request's coordinates and lengths on the first places
abbrev pub read_as : ℕ → Request → List Float → List ℕ → Reading
read_as zero r points lens = reading (Ok (head_of r)) (overlay r.coordinates points) (overlay r.lengths lens)
read_as (suc n) r points lens = reading (Err (suc n)) points lens

unfoldable pub read_file : List ℕ → List Float → List ℕ → Reading
read_file file points lens = read_as (file_refusal file) (request_of file) points lens

-- ---- the file of a request

-- n bytes of a number, low byte first
unfoldable pub number_bytes : ℕ → ℕ → List ℕ
number_bytes zero x = []
number_bytes (suc n) x = x % 256 ∷ number_bytes n (x / 256)

abbrev pub float_bytes : Float → List ℕ
float_bytes x = number_bytes 8 (to_bits binary64 x)

-- a block: its contents, zeros up to byte 509, and the check
unfoldable pub block_of : List ℕ → List ℕ
block_of contents =
    let b = contents ++ replicate (510 - length contents) 0 in
    b ++ number_bytes 2 (check_of b)

unfoldable pub length_bytes : List ℕ → List ℕ
length_bytes lens = flatten (map (number_bytes 2) lens)

unfoldable pub head_bytes : Settings → List ℕ → List ℕ
head_bytes s lens =
    float_bytes s.size ++ (number_bytes 2 s.sweeps ++ (number_bytes 2 s.passes ++ (number_bytes 2 (length lens) ++ length_bytes lens)))

unfoldable pub point_bytes : List Float → List ℕ
point_bytes coordinates = flatten (map float_bytes coordinates)

-- the k-th block of points
unfoldable pub point_block : List Float → ℕ → List ℕ
point_block coordinates k = block_of (point_bytes (take 62 (drop (62 * k) coordinates)))

unfoldable pub blocks_of : List Float → List ℕ
blocks_of coordinates = flatten (tabulate (point_blocks (length coordinates / 2)) (point_block coordinates))

unfoldable pub file_of : Request → List ℕ
file_of r = block_of (head_bytes r.settings r.lengths) ++ blocks_of r.coordinates

-- ---- what `write_file` answers, and leaves in the list lent to it

-- the points of all loops
unfoldable pub total_points : List ℕ → ℕ
total_points lens = sum_up (length lens) (λ k. get_or lens k 0)

-- whether a file can hold a request: 1 to 8 loops, at most 248 points, lengths that add up, sweeps and passes below 65,536
unfoldable pub fileable : Request → Bool
fileable r =
    leb 1 (length r.lengths) && (leb (length r.lengths) 8
    && (leb (total_points r.lengths) 248 && (eqb (length r.coordinates) (2 * total_points r.lengths)
    && (ltb r.settings.sweeps 65536 && ltb r.settings.passes 65536))))

pub record FileWritten : Type 0 where
  pub count : ℕ
  pub file : List ℕ

abbrev pub file_written : ℕ → List ℕ → FileWritten
file_written count file = record { count = count; file = file }

-- The file on the first places, and its length; or 0 and nothing written, where a file can't hold the request or the list is too short.
unfoldable pub write_file : Request → List ℕ → FileWritten
write_file r file =
    let bytes = file_of r in
    cond (fileable r && leb (length bytes) (length file)) (file_written (length bytes) (overlay bytes file)) (file_written 0 file)
