-- A program may stop reading: 4,609 bytes decide. The longest file has 4,608, so one byte more shows whether anything comes after it.
-- `enough`, the last statement, says so of everything that `read_file` answers and writes.
use Rattle.std.specs.Prelude.{◌≡◌, Bool, true, false, ltb, length, drop, Float}
use Rattle.std.proofs.Math.Path.{refl, ap}
use Rattle.std.proofs.Common.{sym, ap₂, ◌∙◌, lt-ltb, le-ltb, ltb-true, ltb-false, length-take}
use mathlib.Core.List.{List, [], ◌∷◌}
use Prim.Native.Nat.{ℕ, zero, suc, ◌+◌, ◌-◌, ◌*◌, ◌/◌, ◌≤◌, ◌<◌, min}
use native.Mathlib.Omega.{arith}
use Rattle.std.proofs.Math.ListN.{take}
use Rattle.std.proofs.Math.Seq.{take-take, take-nil, drop-nil}
use Rattle.laws.specs.Loop.{for_up_same}
use Rattle.laws.specs.Tabulate.{tabulate, tabulate_same}
use Rattle.outline.specs.Outline.{first_of}
use Rattle.file_outline.specs.File.{block_at, head_refusal, point_blocks, points_refusal, points_turn, blocks_refusal, coordinate_at}
use Rattle.file_outline.specs.File.{file_points, file_length, end_refusal, file_refusal, Request, request_of, read_as, read_file}
use Rattle.file_outline.specs.RefusalLaws.{headed}
use Rattle.file_outline.specs.ReadLaws.{accepted_file}

-- one byte more than the longest file has
abbrev pub decisive : ℕ
decisive = 4609

drop_take : {A : Type 0} (m n : ℕ) (l : List A) → drop m (take (m + n) l) ≡ take n (drop m l)
drop_take zero n l = let e : 0 + n ≡ n = omega arith in ap (λ (k : ℕ). take k l) e
drop_take (suc m) n [] = ap (drop (suc m)) (take-nil (suc m + n)) ∙ drop-nil (suc m) ∙ sym (ap (take n) (drop-nil (suc m)) ∙ take-nil n)
drop_take (suc m) n (x ∷ l) = let e : suc m + n ≡ suc (m + n) = omega arith in ap (λ (k : ℕ). drop (suc m) (take k (x ∷ l))) e ∙ drop_take m n l

-- whether a is below a number that is cut above a
below_cut : (a m : ℕ) → a < decisive → ltb a (min decisive m) ≡ ltb a m
below_cut a m h = go (ltb a m) refl
  where
    go : (t : Bool) → ltb a m ≡ t → ltb a (min decisive m) ≡ t
    go true e = let less = ltb-true a m e in lt-ltb a (min decisive m) (omega arith)
    go false e = let most = ltb-false a m e in le-ltb a (min decisive m) (omega arith)

module _ (file : List ℕ) where
  abbrev start : List ℕ
  start = take decisive file

  block_same : (k : ℕ) → k ≤ 8 → block_at start k ≡ block_at file k
  unfolding block_at
  block_same k h =
      let e : decisive ≡ 512 * k + (decisive - 512 * k) = omega arith in
      ap (λ (n : ℕ). take 512 (drop (512 * k) (take n file))) e
      ∙ ap (take 512) (drop_take (512 * k) (decisive - 512 * k) file)
      ∙ take-take 512 (decisive - 512 * k) (drop (512 * k) file) (omega arith)

  module _ (n : ℕ) (few : n ≤ 248) where
    blocks_same : blocks_refusal start n ≡ blocks_refusal file n
    unfolding blocks_refusal points_refusal
    blocks_same = for_up_same (point_blocks n) (points_turn start n) (points_turn file n) 0 (λ k r h. rw (block_same (k + 1) (omega arith)))

    end_same : end_refusal start n ≡ end_refusal file n
    unfolding end_refusal
    end_same = rw (length-take decisive file, below_cut (file_length n) (length file) (omega arith))

    coordinates_same : tabulate (2 * n) (coordinate_at start) ≡ tabulate (2 * n) (coordinate_at file)
    unfolding coordinate_at
    coordinates_same = tabulate_same (2 * n) (coordinate_at start) (coordinate_at file) (λ c h. rw (block_same (c / 62 + 1) (omega arith)))

  refusal_same : file_refusal start ≡ file_refusal file
  unfolding file_refusal
  refusal_same = rw (block_same 0 (omega arith)) (go (head_refusal (block_at file 0)) refl)
    where
      rest : List ℕ → ℕ
      rest f = first_of (blocks_refusal f (file_points file)) (end_refusal f (file_points file))

      go : (r : ℕ) → head_refusal (block_at file 0) ≡ r → first_of r (rest start) ≡ first_of r (rest file)
      go zero e = let few = (headed (block_at file 0) e).sound.points in ap₂ first_of (blocks_same _ few) (end_same _ few)
      go (suc k) e = refl

  request_same : file_points file ≤ 248 → request_of start ≡ request_of file
  unfolding request_of
  request_same few = rw (block_same 0 (omega arith), coordinates_same (file_points file) few)

  pub enough : (points : List Float) (lens : List ℕ) → read_file (take decisive file) points lens ≡ read_file file points lens
  unfolding read_file
  enough points lens = rw refusal_same (go (file_refusal file) refl)
    where
      go : (r : ℕ) → file_refusal file ≡ r → read_as r (request_of start) points lens ≡ read_as r (request_of file) points lens
      go zero e = ap (λ (q : Request). read_as 0 q points lens) (request_same (accepted_file file e).head.sound.points)
      go (suc k) e = refl
