-- The worked square as a file, computed from the definitions.
use Rattle.std.specs.Prelude.{◌≡◌, refl, take, drop, set}
use mathlib.Core.List.{[], ◌∷◌, ◌++◌, flatten}
use Rattle.std.specs.Float.Ieee.{of_bits, to_bits}
use Rattle.laws.specs.Loop.{for_up, any_up, sum_up}
use Rattle.laws.specs.Tabulate.{tabulate}
use Rattle.numbers.specs.Float.{zero_f, one_f, two_f}
use Rattle.file_outline.specs.File.{Request, request, number_at, block_at, check_of, block_refusal, zero_from, head_points, head_sound, head_refusal}
use Rattle.file_outline.specs.File.{points_refusal}
use Rattle.file_outline.specs.File.{blocks_refusal, coordinate_at, end_refusal, file_refusal, request_of, number_bytes, block_of, length_bytes, head_bytes}
use Rattle.file_outline.specs.File.{point_bytes, point_block, blocks_of, file_of}

-- (0,0) (2,0) (2,2) (0,2), size 1, 400 sweeps, 600 passes
abbrev pub square_request : Request
square_request =
    record {
      settings = record { size = one_f; sweeps = 400; passes = 600 };
      coordinates = zero_f ∷ zero_f ∷ two_f ∷ zero_f ∷ two_f ∷ two_f ∷ zero_f ∷ two_f ∷ [];
      lengths = 4 ∷ [];
    }

pub record SquareFile : Type 0 where
  -- size, sweeps, passes, loops, the loop's length, and the first of the zeros
  pub head : take 18 (file_of square_request) ≡ 0 ∷ 0 ∷ 0 ∷ 0 ∷ 0 ∷ 0 ∷ 240 ∷ 63 ∷ 144 ∷ 1 ∷ 88 ∷ 2 ∷ 1 ∷ 0 ∷ 4 ∷ 0 ∷ 0 ∷ 0 ∷ []
  -- the two blocks' checks
  pub head_check : drop 510 (take 512 (file_of square_request)) ≡ 203 ∷ 17 ∷ []
  pub points_check : drop 1022 (file_of square_request) ≡ 0 ∷ 44 ∷ []
  pub accepted : file_refusal (file_of square_request) ≡ 0
  pub read_back : request_of (file_of square_request) ≡ square_request
  -- nothing at all, a byte too few, a byte too many: 13; another byte in a block: 12
  pub absent : file_refusal [] ≡ 13
  pub short : file_refusal (take 1023 (file_of square_request)) ≡ 13
  pub long : file_refusal (file_of square_request ++ 0 ∷ []) ≡ 13
  pub changed : file_refusal (set (file_of square_request) 600 1) ≡ 12
  -- a loop of no points is not a file's to refuse
  pub empty : file_refusal (file_of (request square_request.settings [] (0 ∷ []))) ≡ 0

pub square_file : SquareFile
unfolding file_refusal head_refusal head_sound block_refusal zero_from points_refusal blocks_refusal end_refusal request_of coordinate_at block_at number_at head_points file_of blocks_of block_of head_bytes length_bytes number_bytes point_block point_bytes check_of sum_up for_up any_up flatten tabulate of_bits to_bits
square_file =
    record {
      head = refl;
      head_check = refl;
      points_check = refl;
      accepted = refl;
      read_back = refl;
      absent = refl;
      short = refl;
      long = refl;
      changed = refl;
      empty = refl;
    }
