-- What a caller of `read_file` hands on to a run: the parts of the two lists are the request's outline. `lent_outline_lem` is the statement.
use Rattle.std.specs.Prelude.{◌≡◌, List, ℕ, ◌-◌, ◌*◌, ◌/◌, ◌≤◌, length, take, drop, Float}
use Rattle.std.proofs.Math.Path.{refl, sym}
use Rattle.std.proofs.Common.{◌∙◌, arith, length-drop, take_at}
use Rattle.std.proofs.Math.ListN.{get_or}
use Rattle.std.proofs.Math.Seq.{take-append-le, drop-append-le}
use Rattle.laws.specs.Overlay.{overlay}
use Rattle.laws.proofs.Sums.{sum_term}
use Rattle.laws.specs.Tabulate.{tabulate_length, tabulate_at}
use Rattle.outline.specs.Outline.{Outline, outline}
use Rattle.file_outline.specs.File.{block_at, head_loops, head_length, head_points, coordinate_at, file_points, file_refusal, Request, outline_of, request_of}
use Rattle.file_outline.specs.File.{head_of}
use Rattle.file_outline.specs.ReadLaws.{accepted_file}

-- a part of what was put on the first places
module _ {A : Type 0} (l s : List A) where
  first_part : (a : ℕ) → a ≤ length l → take a (overlay l s) ≡ take a l
  unfolding overlay
  first_part a h = take-append-le a l (drop (length l) s) h

  last_part : (a n : ℕ) → a ≤ length l → n ≡ length l - a → take n (drop a (overlay l s)) ≡ drop a l
  unfolding overlay
  last_part a n h e = rw drop-append-le (take_at (drop a l) (drop (length l) s) n (length-drop a l ∙ sym e))

-- `&points[..2 * outer]`, `&points[2 * outer..2 * points]` and `&lens[1..loops]`
abbrev pub lent_outline : Request → List Float → List ℕ → Outline
lent_outline r points lens =
    let h = head_of r in
    outline (take (2 * h.outer) points) (take (2 * h.points - 2 * h.outer) (drop (2 * h.outer) points)) (take (h.loops - 1) (drop 1 lens))

module _ (file : List ℕ) (unrefused : file_refusal file ≡ 0) where
  request_lengths : (1 ≤ length (request_of file).lengths) × (length (request_of file).coordinates ≡ 2 * file_points file)
      × (get_or (request_of file).lengths 0 0 ≤ file_points file)
  unfolding request_of head_points
  request_lengths =
      let b = block_at file 0 in
      let s = (accepted_file file unrefused).head.sound in
      let n = tabulate_length (head_loops b) (head_length b) in (
        rw n s.some,
        tabulate_length (2 * file_points file) (coordinate_at file),
        rw (tabulate_at (head_loops b) (head_length b) 0 0 s.some) (omega (arith, sum_term (head_length b) 0 (head_loops b) s.some)),
      )

  pub lent_outline_lem : (points : List Float) (lens : List ℕ)
      → lent_outline (request_of file) (overlay (request_of file).coordinates points) (overlay (request_of file).lengths lens) ≡ outline_of (request_of file)
  unfolding head_of outline_of
  lent_outline_lem points lens =
      let r = request_of file in
      let k = request_lengths in
      let outer = 2 * get_or r.lengths 0 0 in
      rw (
        first_part r.coordinates points outer (omega (arith, k)),
        last_part r.coordinates points outer (2 * (length r.coordinates / 2) - outer) (omega (arith, k)) (omega (arith, k)),
        last_part r.lengths lens 1 (length r.lengths - 1) k.0 refl,
      )
