-- The file of a request reads back as the request, the floats as doubles. `round_trip`, the last statement, says so of every request that a file can
-- hold. The logic has one NaN, whose bits a file has as 0x7ff8_0000_0000_0000, so a NaN reads back as a NaN.
use Rattle.std.specs.Prelude.{◌≡◌, true, T, drop, replicate, Float}
use Rattle.std.proofs.Math.Path.{refl, sym, ap, ap₂, subst}
use Rattle.std.proofs.Common.{◌∙◌, add_comm, mul-suc, pow-add, length-take, length-drop}
use Rattle.std.proofs.Math.Bool.{not}
use mathlib.Core.List.{List, [], ◌∷◌, ◌++◌, append_assoc, append-nil, map, flatten}
use Prim.Native.Nat.{ℕ, zero, suc, ◌+◌, ◌-◌, ◌*◌, ◌/◌, ◌%◌, ◌^◌, ◌≤◌, ◌<◌, min}
use Rattle.std.proofs.Math.Nat.{mul-zero}
use native.Mathlib.Omega.{arith}
use borrow.Author.Tests.{le-ltb, le-leb, eq-eqb, leb-true, eqb-true, ltb-true}
use Rattle.std.proofs.Math.ListN.{length, get_or, take, length-append, get_or-replicate, get_or-append}
use Rattle.std.proofs.lemmas.List.{length-replicate}
use Rattle.std.proofs.Math.Seq.{take_at, take-length, drop-append-add, get_or-append-add, get_or-take, get_or-drop}
use Rattle.std.specs.Float.Ieee.{nan, binary64, fits, to_bits}
use Rattle.std.specs.Float.Ieee.Bits.{of_bits-to_bits, to_bits-lt}
use Rattle.laws.specs.Tests.{both}
use Rattle.laws.specs.Loop.{for_up_same, for_up_keeps, none_found, sum_up, sum_turn}
use Rattle.laws.proofs.Sums.{sum_term}
use Rattle.laws.specs.Tabulate.{tabulate, tabulate_same, tabulate_take, tabulate_length, tabulate_map, tabulate_at}
use Rattle.numbers.specs.Float.{bits}
use Rattle.outline.specs.declared.Settings.{Settings}
use Rattle.outline.specs.Accepted.{AllFit}
use Rattle.file_outline.specs.File.{Request, number_at, float_at, block_at, weighted_byte, check_of, block_refusal, nonzero_byte, zero_from, head_loops, head_length}
use Rattle.file_outline.specs.File.{head_points, head_sound, head_refusal, point_blocks, points_refusal, points_turn, blocks_refusal, coordinate_at}
use Rattle.file_outline.specs.File.{file_points, file_length, end_refusal, file_refusal, request_of, number_bytes, float_bytes, block_of, length_bytes}
use Rattle.file_outline.specs.File.{head_bytes, point_bytes, point_block, blocks_of, file_of, total_points, fileable}

-- ---- numbers

pub bytes_length : (n x : ℕ) → length (number_bytes n x) ≡ n
unfolding number_bytes
bytes_length zero x = refl
bytes_length (suc n) x = ap suc (bytes_length n (x / 256))

number_skip : (n : ℕ) (pre rest : List ℕ) (i : ℕ) → number_at n (pre ++ rest) (length pre + i) ≡ number_at n rest i
unfolding number_at
number_skip zero pre rest i = refl
number_skip (suc n) pre rest i =
    let e : suc (length pre + i) ≡ length pre + suc i = omega arith in
    ap₂ (λ (x y : ℕ). x + 256 * y) (get_or-append-add pre rest i 0) (ap (number_at n (pre ++ rest)) e ∙ number_skip n pre rest (suc i))

-- a number reads back
number_back : (n x : ℕ) (rest : List ℕ) → x < 2 ^ (8 * n) → number_at n (number_bytes n x ++ rest) 0 ≡ x
unfolding number_at number_bytes
number_back zero x rest h = omega arith
number_back (suc n) x rest h =
    let room : 2 ^ (8 * suc n) ≡ 256 * 2 ^ (8 * n) = ap (λ (k : ℕ). 2 ^ k) {x = 8 * suc n} {y = 8 + 8 * n} (omega arith) ∙ pow-add 2 8 (8 * n) in
    let less : x < 256 * 2 ^ (8 * n) = subst (λ (k : ℕ). x < k) room h in
    ap (λ (y : ℕ). x % 256 + 256 * y)
    (number_skip n (x % 256 ∷ []) (number_bytes n (x / 256) ++ rest) 0 ∙ number_back n (x / 256) rest (quotient (2 ^ (8 * n)) x less))
    ∙ whole x
  where
    quotient : (p x : ℕ) → x < 256 * p → x / 256 < p
    quotient p x h = omega arith

    whole : (x : ℕ) → x % 256 + 256 * (x / 256) ≡ x
    whole x = omega arith

-- ---- pieces of one width, one after the other: the k-th begins at w * k

next_piece : (w n : ℕ) → w * suc n ≡ w + w * n
next_piece w n = mul-suc w n ∙ add_comm (w * n) w

module _ {A : Type 0} (w : ℕ) (piece : A → List ℕ) (wide : (x : A) → length (piece x) ≡ w) where
  pub pieces_length : (l : List A) → length (flatten (map piece l)) ≡ w * length l
  unfolding flatten
  pieces_length [] = sym (mul-zero w)
  pieces_length (x ∷ l) =
      length-append (piece x) (flatten (map piece l))
      ∙ ap₂ (λ (a b : ℕ). a + b) (wide x) (pieces_length l)
      ∙ sym (next_piece w (length l))

  piece_at : (l : List A) (k : ℕ) (d : A) → k < length l → take w (drop (w * k) (flatten (map piece l))) ≡ piece (get_or l k d)
  unfolding flatten
  piece_at [] k d h = absurd (omega arith)
  piece_at (x ∷ l) zero d h = rw mul-zero (take_at (piece x) (flatten (map piece l)) w (wide x))
  piece_at (x ∷ l) (suc k) d h =
      let at : w * suc k ≡ length (piece x) + w * k = next_piece w k ∙ ap (λ (a : ℕ). a + w * k) (sym (wide x)) in
      ap (λ (n : ℕ). take w (drop n (piece x ++ flatten (map piece l)))) at
      ∙ ap (take w) (drop-append-add (piece x) (flatten (map piece l)) (w * k))
      ∙ piece_at l k d (omega arith)

-- numbers of w bytes
module _ {A : Type 0} (w : ℕ) (g : A → ℕ) where
  abbrev numbers : List A → List ℕ
  numbers l = flatten (map (λ x. number_bytes w (g x)) l)

  numbers_back : (l : List A) (rest : List ℕ) (k : ℕ) (d : A) → k < length l → g (get_or l k d) < 2 ^ (8 * w)
      → number_at w (numbers l ++ rest) (w * k) ≡ g (get_or l k d)
  unfolding flatten
  numbers_back [] rest k d h small = absurd (omega arith)
  numbers_back (x ∷ l) rest zero d h small =
      ap₂ (number_at w) (append_assoc (number_bytes w (g x)) (numbers l) rest) (mul-zero w) ∙ number_back w (g x) (numbers l ++ rest) small
  numbers_back (x ∷ l) rest (suc k) d h small =
      let at : w * suc k ≡ length (number_bytes w (g x)) + w * k = next_piece w k ∙ ap (λ (a : ℕ). a + w * k) (sym (bytes_length w (g x))) in
      ap₂ (number_at w) (append_assoc (number_bytes w (g x)) (numbers l) rest) at
      ∙ number_skip w (number_bytes w (g x)) (numbers l ++ rest) (w * k)
      ∙ numbers_back l rest k d (omega arith) small

-- ---- a block

-- a sum that reads only where two lists agree
pub check_same : (p q : List ℕ) → length p ≡ 510 → check_of (p ++ q) ≡ check_of p
unfolding check_of sum_up
check_same p q e =
    ap (λ (n : ℕ). n % 65521)
    (for_up_same 510 (sum_turn (weighted_byte (p ++ q))) (sum_turn (weighted_byte p)) 0 (λ i s h. rw (get_or-append p q 0 i (omega arith))))

check_small : (b : List ℕ) → check_of b < 65536
unfolding check_of
check_small b = omega arith

module _ (contents : List ℕ) where
  abbrev zeros : List ℕ
  zeros = replicate (510 - length contents) 0

  abbrev padded : List ℕ
  padded = contents ++ zeros

  abbrev check : List ℕ
  check = number_bytes 2 (check_of padded)

  block_contents : block_of contents ≡ contents ++ (zeros ++ check)
  unfolding block_of
  block_contents = append_assoc contents zeros check

  module _ (fit : length contents ≤ 510) where
    padded_length : length padded ≡ 510
    padded_length = omega (arith, length-append contents zeros, length-replicate {A = ℕ} (510 - length contents) 0)

    pub block_wide : length (block_of contents) ≡ 512
    unfolding block_of
    block_wide = omega (arith, length-append padded check, padded_length, bytes_length 2 (check_of padded))

    check_back : number_at 2 (block_of contents) 510 ≡ check_of padded
    unfolding block_of
    check_back =
        let at : 510 ≡ length padded + 0 = omega (arith, padded_length) in
        let small : check_of padded < 65536 = check_small padded in
        ap (number_at 2 (padded ++ check)) at
        ∙ number_skip 2 padded check 0
        ∙ ap (λ (b : List ℕ). number_at 2 b 0) (sym (append-nil check))
        ∙ number_back 2 (check_of padded) [] small

    pub block_accepted : block_refusal (block_of contents) ≡ 0
    unfolding block_refusal block_of
    block_accepted =
        rw (
          le-ltb (length (block_of contents)) 512 (omega (arith, block_wide)),
          eq-eqb (check_of (block_of contents)) (number_at 2 (block_of contents) 510) (check_same padded check padded_length ∙ sym check_back),
        )

    pub block_zeros : zero_from (block_of contents) (length contents) ≡ true
    unfolding zero_from block_of
    block_zeros = ap not (none_found (nonzero_byte (block_of contents) (length contents)) (510 - length contents) (λ i h. ap not (eq-eqb _ 0 (zero_at i h))))
      where
        zero_at : (i : ℕ) → i < 510 - length contents → get_or (block_of contents) (length contents + i) 0 ≡ 0
        zero_at i h =
            get_or-append padded check 0 (length contents + i) (omega (arith, padded_length))
            ∙ get_or-append-add contents zeros i 0
            ∙ get_or-replicate (510 - length contents) i 0 0 h

-- ---- the head

floats_fit : (x : Float) → T (fits binary64 x) → to_bits binary64 x < 2 ^ 64
floats_fit x h = omega (arith, to_bits-lt binary64 x h)

two_bytes : (x : ℕ) → x < 65536 → x % 256 + 256 * (x / 256 % 256 + 256 * 0) ≡ x
two_bytes x h = omega arith

module _ (s : Settings) (lens : List ℕ) where
  abbrev head_block : List ℕ
  head_block = block_of (head_bytes s lens)

  -- what stands before the lengths
  abbrev counts : List ℕ
  counts = number_bytes 2 s.sweeps ++ (number_bytes 2 s.passes ++ number_bytes 2 (length lens))

  abbrev before_lengths : List ℕ
  before_lengths = float_bytes s.size ++ counts

  abbrev fill : List ℕ
  fill = zeros (head_bytes s lens) ++ check (head_bytes s lens)

  head_parts : head_block ≡ before_lengths ++ (length_bytes lens ++ fill)
  unfolding head_bytes
  head_parts = block_contents (head_bytes s lens) ∙ simp append_assoc

  before_length : length before_lengths ≡ 14
  before_length = simp (length-append, bytes_length)

  pub head_length_lem : length (head_bytes s lens) ≡ 14 + 2 * length lens
  unfolding head_bytes length_bytes
  head_length_lem = simp (length-append, bytes_length, pieces_length 2 (number_bytes 2) (bytes_length 2)) (omega arith)

  size_back : T (fits binary64 s.size) → float_at head_block 0 ≡ s.size
  size_back h =
      ap (λ (b : List ℕ). float_at b 0) (head_parts ∙ append_assoc (float_bytes s.size) counts (length_bytes lens ++ fill))
      ∙ ap bits (number_back 8 (to_bits binary64 s.size) (counts ++ (length_bytes lens ++ fill)) (floats_fit s.size h))
      ∙ of_bits-to_bits binary64 s.size h

  sweeps_back : s.sweeps < 65536 → number_at 2 head_block 8 ≡ s.sweeps
  unfolding head_bytes number_bytes block_of number_at
  sweeps_back h = two_bytes s.sweeps h

  passes_back : s.passes < 65536 → number_at 2 head_block 10 ≡ s.passes
  unfolding head_bytes number_bytes block_of number_at
  passes_back h = two_bytes s.passes h

  loops_back : length lens < 65536 → head_loops head_block ≡ length lens
  unfolding head_bytes number_bytes block_of number_at
  loops_back h = two_bytes (length lens) h

  length_back : (k : ℕ) → k < length lens → get_or lens k 0 < 65536 → head_length head_block k ≡ get_or lens k 0
  unfolding length_bytes
  length_back k h small =
      ap₂ (number_at 2) head_parts (ap (λ (n : ℕ). n + 2 * k) (sym before_length))
      ∙ number_skip 2 before_lengths (length_bytes lens ++ fill) (2 * k)
      ∙ numbers_back 2 (λ (x : ℕ). x) lens fill k 0 h small

-- ---- the file

-- a block's points are at most 496 bytes, 16 a point
module _ (coordinates : List Float) (k : ℕ) where
  abbrev here : List Float
  here = take 62 (drop (62 * k) coordinates)

  here_length : length here ≡ min 62 (length coordinates - 62 * k)
  here_length = length-take 62 (drop (62 * k) coordinates) ∙ ap (min 62) (length-drop (62 * k) coordinates)

  pub points_length : length (point_bytes here) ≡ 8 * min 62 (length coordinates - 62 * k)
  unfolding point_bytes
  points_length = pieces_length 8 float_bytes (λ x. bytes_length 8 (to_bits binary64 x)) here ∙ ap (λ (n : ℕ). 8 * n) here_length

  pub point_block_wide : length (point_block coordinates k) ≡ 512
  unfolding point_block
  point_block_wide = block_wide (point_bytes here) (omega (arith, points_length))

  coordinate_back : (j : ℕ) → j < 62 → 62 * k + j < length coordinates → T (fits binary64 (get_or coordinates (62 * k + j) nan))
      → float_at (point_block coordinates k) (8 * j) ≡ get_or coordinates (62 * k + j) nan
  unfolding point_block point_bytes
  coordinate_back j lt h fit =
      let at : get_or here j nan ≡ get_or coordinates (62 * k + j) nan = get_or-take 62 (drop (62 * k) coordinates) j nan lt ∙ get_or-drop (62 * k) coordinates j nan in
      let small : to_bits binary64 (get_or here j nan) < 2 ^ 64 = subst (λ (x : Float). to_bits binary64 x < 2 ^ 64) (sym at) (floats_fit _ fit) in
      ap (λ (b : List ℕ). float_at b (8 * j)) (block_contents (point_bytes here))
      ∙ ap bits (numbers_back 8 (to_bits binary64) here (zeros (point_bytes here) ++ check (point_bytes here)) j nan (omega (arith, here_length)) small)
      ∙ ap (λ (x : Float). bits (to_bits binary64 x)) at
      ∙ of_bits-to_bits binary64 (get_or coordinates (62 * k + j) nan) fit

-- what `fileable` tests
pub record Fileable (r : Request) : Type 0 where
  pub some : 1 ≤ length r.lengths
  pub few : length r.lengths ≤ 8
  pub points : total_points r.lengths ≤ 248
  pub adds : length r.coordinates ≡ 2 * total_points r.lengths
  pub sweeps : r.settings.sweeps < 65536
  pub passes : r.settings.passes < 65536

pub fileable_is : (r : Request) → fileable r ≡ true → Fileable r
unfolding fileable
fileable_is r e =
    let a = both _ _ e in
    let b = both _ _ a.1 in
    let c = both _ _ b.1 in
    let d = both _ _ c.1 in
    let f = both _ _ d.1 in
    record {
      some = leb-true _ _ a.0;
      few = leb-true _ _ b.0;
      points = leb-true _ _ c.0;
      adds = eqb-true _ _ d.0;
      sweeps = ltb-true _ _ f.0;
      passes = ltb-true _ _ f.1;
    }

module _ (r : Request) (fit : Fileable r) where
  abbrev lens : List ℕ
  lens = r.lengths

  abbrev head : List ℕ
  head = head_block r.settings lens

  abbrev count : ℕ
  count = length r.coordinates / 2

  abbrev blocks : List ℕ
  blocks = flatten (tabulate (point_blocks count) (point_block r.coordinates))

  count_is : count ≡ total_points lens
  count_is = omega (arith, fit.adds)

  pub head_wide : length head ≡ 512
  head_wide = block_wide (head_bytes r.settings lens) (omega (arith, head_length_lem r.settings lens, fit.few))

  -- the blocks of points are pieces of 512 bytes
  abbrev places : List ℕ
  places = tabulate (point_blocks count) (λ k. k)

  blocks_are : blocks ≡ flatten (map (point_block r.coordinates) places)
  blocks_are = ap flatten (sym (tabulate_map (point_block r.coordinates) (point_blocks count) (λ k. k)))

  pub file_length_lem : length (file_of r) ≡ file_length count
  unfolding file_of blocks_of
  file_length_lem =
      omega (
        arith,
        length-append head blocks,
        head_wide,
        ap length blocks_are,
        pieces_length 512 (point_block r.coordinates) (point_block_wide r.coordinates) places,
        tabulate_length (point_blocks count) (λ k. k),
      )

  file_head : block_at (file_of r) 0 ≡ head
  unfolding file_of blocks_of block_at
  file_head = take_at head blocks 512 head_wide

  file_block_lem : (k : ℕ) → k < point_blocks count → block_at (file_of r) (k + 1) ≡ point_block r.coordinates k
  unfolding file_of blocks_of block_at
  file_block_lem k h =
      let at : 512 * (k + 1) ≡ length head + 512 * k = omega (arith, head_wide) in
      let within : k < length places = omega (arith, tabulate_length (point_blocks count) (λ k. k)) in
      ap (λ (n : ℕ). take 512 (drop n (head ++ blocks))) at
      ∙ ap (take 512) (drop-append-add head blocks (512 * k))
      ∙ ap (λ (b : List ℕ). take 512 (drop (512 * k) b)) blocks_are
      ∙ piece_at 512 (point_block r.coordinates) (point_block_wide r.coordinates) places k 0 within
      ∙ ap (point_block r.coordinates) (tabulate_at (point_blocks count) (λ j. j) k 0 h)

  -- ---- what the head says

  loops_are : head_loops head ≡ length lens
  loops_are = loops_back r.settings lens (omega (arith, fit.few))

  length_is : (k : ℕ) → k < length lens → head_length head k ≡ get_or lens k 0
  unfolding total_points
  length_is k h =
      length_back r.settings lens k h (omega (arith, fit.points, sum_term (λ (j : ℕ). get_or lens j 0) k (length lens) h))

  points_are : head_points head (head_loops head) ≡ total_points lens
  unfolding head_points total_points sum_up
  points_are =
      ap (head_points head) loops_are
      ∙ for_up_same (length lens) (sum_turn (head_length head)) (sum_turn (λ k. get_or lens k 0)) 0 (λ k s h. ap (λ (x : ℕ). s + x) (length_is k h))

  head_accepted : head_refusal head ≡ 0
  unfolding head_refusal head_sound
  head_accepted =
      let contents = head_bytes r.settings lens in
      let wide = head_length_lem r.settings lens in
      let few : length contents ≤ 510 = omega (arith, fit.few) in
      let from : length contents ≡ 14 + 2 * head_loops head = wide ∙ ap (λ (n : ℕ). 14 + 2 * n) (sym loops_are) in
      rw (
        block_accepted contents few,
        le-leb 1 (head_loops head) (omega (arith, loops_are, fit.some)),
        le-leb (head_loops head) 8 (omega (arith, loops_are, fit.few)),
        le-leb (head_points head (head_loops head)) 248 (omega (arith, points_are, fit.points)),
        ← from,
        block_zeros contents few,
      )

  -- ---- it isn't refused

  points_accepted : (k : ℕ) → k < point_blocks count → points_refusal (file_of r) count k ≡ 0
  unfolding points_refusal point_block
  points_accepted k h =
      let contents = point_bytes (here r.coordinates k) in
      let wide = points_length r.coordinates k in
      let few : length contents ≤ 510 = omega (arith, wide) in
      let from : length contents ≡ 16 * min (count - 31 * k) 31 = omega (arith, wide, fit.adds) in
      rw (file_block_lem k h, block_accepted contents few, ← from, block_zeros contents few)

  blocks_accepted : blocks_refusal (file_of r) count ≡ 0
  unfolding blocks_refusal
  blocks_accepted =
      for_up_keeps (λ k refusal. refusal ≡ 0) (point_blocks count) (points_turn (file_of r) count) 0 refl (λ k refusal h e. rw (e, points_accepted k h))

  file_points_lem : file_points (file_of r) ≡ count
  file_points_lem = ap (λ (b : List ℕ). head_points b (head_loops b)) file_head ∙ points_are ∙ sym count_is

  pub written_accepted : file_refusal (file_of r) ≡ 0
  unfolding file_refusal end_refusal
  written_accepted =
      rw (file_points_lem, file_head, head_accepted, blocks_accepted, le-ltb (file_length count) (length (file_of r)) (omega (arith, file_length_lem)))

  -- ---- it says what the request says

  module _ (size : T (fits binary64 r.settings.size)) (floats : AllFit r.coordinates) where
    coordinate_is : (c : ℕ) → c < 2 * count → coordinate_at (file_of r) c ≡ get_or r.coordinates c nan
    unfolding coordinate_at
    coordinate_is c h =
        let at : 62 * (c / 62) + c % 62 ≡ c = omega arith in
        let within : 62 * (c / 62) + c % 62 < length r.coordinates = omega (arith, fit.adds) in
        ap (λ (b : List ℕ). float_at b (8 * (c % 62))) (file_block_lem (c / 62) (omega (arith, fit.adds)))
        ∙ coordinate_back r.coordinates (c / 62) (c % 62) (omega arith) within (floats _ within)
        ∙ ap (λ (j : ℕ). get_or r.coordinates j nan) at

    coordinates_are : tabulate (2 * file_points (file_of r)) (coordinate_at (file_of r)) ≡ r.coordinates
    coordinates_are =
        let all : 2 * count ≡ length r.coordinates = omega (arith, fit.adds) in
        ap (λ (n : ℕ). tabulate (2 * n) (coordinate_at (file_of r))) file_points_lem
        ∙ tabulate_same (2 * count) (coordinate_at (file_of r)) (λ c. get_or r.coordinates c nan) coordinate_is
        ∙ tabulate_take (2 * count) r.coordinates nan (omega (arith, all))
        ∙ ap (λ (n : ℕ). take n r.coordinates) all
        ∙ take-length r.coordinates

    lengths_are : tabulate (head_loops head) (head_length head) ≡ lens
    lengths_are =
        ap (λ (n : ℕ). tabulate n (head_length head)) loops_are
        ∙ tabulate_same (length lens) (head_length head) (λ k. get_or lens k 0) length_is
        ∙ tabulate_take (length lens) lens 0 (omega arith)
        ∙ take-length lens

    pub request_back : request_of (file_of r) ≡ r
    unfolding request_of
    request_back =
        rw (
          coordinates_are,
          file_head,
          lengths_are,
          size_back r.settings lens size,
          sweeps_back r.settings lens fit.sweeps,
          passes_back r.settings lens fit.passes,
        )

-- THE ROUND TRIP
pub round_trip : (r : Request) → fileable r ≡ true → T (fits binary64 r.settings.size) → AllFit r.coordinates
    → (file_refusal (file_of r) ≡ 0) × (request_of (file_of r) ≡ r)
round_trip r e size floats = let fit = fileable_is r e in (written_accepted r fit, request_back r fit size floats)
