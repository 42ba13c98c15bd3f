-- Laws of reading a file that isn't refused. Assumes nothing.
use Rattle.std.specs.Prelude.{◌≡◌, refl, ℕ, zero, suc, ◌+◌, ◌*◌, ◌/◌, ◌%◌, ◌≤◌, length, drop, Float, Ok, Err}
use Rattle.std.proofs.Math.Path.{sym, ap}
use Rattle.std.proofs.Common.{◌∙◌, arith, length-take, length-drop}
use mathlib.Core.List.{List}
use Rattle.laws.specs.Loop.{for_up}
use Rattle.laws.specs.Overlay.{overlay}
use Rattle.laws.specs.Tabulate.{tabulate, tabulate_length, tabulate_at}
use Rattle.outline.specs.Accepted.{first_zero}
use Rattle.file_outline.specs.declared.Head.{Head}
use Rattle.file_outline.specs.File.{number_at, float_at, block_at, block_refusal, head_loops, head_length, head_points, head_refusal, point_blocks}
use Rattle.file_outline.specs.File.{points_refusal, points_turn, blocks_refusal, coordinate_at, file_points, file_length, end_refusal, file_refusal}
use Rattle.file_outline.specs.File.{request_of, head_of, reading, read_as, read_file}
use Rattle.file_outline.specs.ByteLaws.{NumberOf}
use Rattle.file_outline.specs.RefusalLaws.{block_long, Headed, headed}

-- ---- how long a file is

-- a whole block lies within the file
pub block_reach : (file : List ℕ) (k : ℕ) → 512 ≤ length (block_at file k) → 512 * (k + 1) ≤ length file
unfolding block_at
block_reach file k h = omega (arith, length-take 512 (drop (512 * k) file), length-drop (512 * k) file)

pub block_length : (file : List ℕ) (k : ℕ) → 512 * (k + 1) ≤ length file → length (block_at file k) ≡ 512
unfolding block_at
block_length file k h = omega (arith, length-take 512 (drop (512 * k) file), length-drop (512 * k) file)

blocks_reach : (file : List ℕ) (n m : ℕ) → 512 ≤ length file → for_up m (points_turn file n) 0 ≡ 0 → 512 * (m + 1) ≤ length file
unfolding for_up points_refusal
blocks_reach file n zero long e = omega arith
blocks_reach file n (suc m) long e =
    let z = first_zero (for_up m (points_turn file n) 0) _ e in
    let b = first_zero (block_refusal (block_at file (m + 1))) _ z.1 in
    omega (arith, block_reach file (m + 1) (block_long (block_at file (m + 1)) (sym b.0)))

-- what a file says that isn't refused
pub record AcceptedFile (file : List ℕ) : Type 0 where
  pub head : Headed (block_at file 0)
  pub long : file_length (file_points file) ≤ length file

pub accepted_file : (file : List ℕ) → file_refusal file ≡ 0 → AcceptedFile file
unfolding file_refusal blocks_refusal
accepted_file file e =
    let z = first_zero (head_refusal (block_at file 0)) _ e in
    let b = first_zero (blocks_refusal file (file_points file)) (end_refusal file (file_points file)) z.1 in
    let h = headed (block_at file 0) z.0 in
    record { head = h; long = blocks_reach file (file_points file) (point_blocks (file_points file)) (omega (arith, block_reach file 0 h.long)) b.0 }

-- ---- the head

-- what stands in a head
unfoldable pub block_head : List ℕ → Head
block_head h =
    record {
      settings = record { size = float_at h 0; sweeps = number_at 2 h 8; passes = number_at 2 h 10 };
      loops = head_loops h;
      outer = head_length h 0;
      points = head_points h (head_loops h);
    }

pub head_made : (h : List ℕ) {size : Float} {sweeps passes loops outer points : ℕ}
    → size ≡ float_at h 0 → NumberOf 2 h 8 sweeps → NumberOf 2 h 10 passes → NumberOf 2 h 12 loops → NumberOf 2 h 14 outer → points ≡ head_points h loops
    → record { settings = record { size = size; sweeps = sweeps; passes = passes }; loops = loops; outer = outer; points = points } ≡ block_head h
unfolding block_head
head_made h e s p l o c = rw (e, s.same, p.same, o.same, c, l.same)

-- ---- coordinates

module _ (file : List ℕ) (c : ℕ) {b : List ℕ} (at : b ≡ block_at file (c / 62 + 1)) where
  pub coordinate_room : 512 * (c / 62 + 2) ≤ length file → 8 * (c % 62) + 8 ≤ length b
  coordinate_room h = rw (at, block_length file (c / 62 + 1) (omega arith)) (omega arith)

  pub coordinate_is : {v : Float} → v ≡ float_at b (8 * (c % 62)) → v ≡ coordinate_at file c
  unfolding coordinate_at
  coordinate_is e = e ∙ ap (λ (d : List ℕ). float_at d (8 * (c % 62))) at

-- ---- what `read_file` answers

pub read_refused : (file : List ℕ) (points : List Float) (lens : List ℕ) {r : ℕ} → r ≡ file_refusal file → (r ≡ 0 → ⊥)
    → reading (Err r) points lens ≡ read_file file points lens
unfolding read_file
read_refused file points lens {r} e n = go r n ∙ ap (λ (k : ℕ). read_as k (request_of file) points lens) e
  where
    go : (r : ℕ) → (r ≡ 0 → ⊥) → reading (Err r) points lens ≡ read_as r (request_of file) points lens
    go zero n = absurd (n refl)
    go (suc k) n = refl

-- the head is the request's
head_of_lem : (file : List ℕ) → Headed (block_at file 0) → block_head (block_at file 0) ≡ head_of (request_of file)
unfolding block_head head_of request_of
head_of_lem file h =
    let b = block_at file 0 in
    let n = file_points file in
    let count : n ≡ length (tabulate (2 * n) (coordinate_at file)) / 2 = omega (arith, tabulate_length (2 * n) (coordinate_at file)) in
    rw (tabulate_length (head_loops b) (head_length b), tabulate_at (head_loops b) (head_length b) 0 0 h.sound.some, ← count)

module _ (file : List ℕ) (points : List Float) (lens : List ℕ) {r : ℕ} (e : r ≡ file_refusal file) (z : r ≡ 0) where
  pub read_headed : {h : List ℕ} → h ≡ block_at file 0 → Headed h
  read_headed at = rw at (accepted_file file (sym e ∙ z)).head

  module _ {h : List ℕ} (at : h ≡ block_at file 0) {head : Head} (f : head ≡ block_head h) where
    pub read_loops : (head.loops ≤ 8) × (510 ≤ length h)
    unfolding block_head
    read_loops = let d = (accepted_file file (sym e ∙ z)).head in rw (f, at) (d.sound.few, omega (arith, d.long))

    pub read_count : (head.points ≤ 248) × (file_length head.points ≤ length file)
    unfolding block_head
    read_count = let d = accepted_file file (sym e ∙ z) in rw (f, at) (d.head.sound.points, d.long)

    pub read_whole : {points' : List Float} {lens' : List ℕ} → lens' ≡ overlay (tabulate head.loops (head_length h)) lens
        → points' ≡ overlay (tabulate (2 * head.points) (coordinate_at file)) points → reading (Ok head) points' lens' ≡ read_file file points lens
    unfolding read_file block_head request_of
    read_whole p q =
        rw (p, q, f, at)
        (ap (λ (k : Head). reading (Ok k) (overlay (request_of file).coordinates points) (overlay (request_of file).lengths lens))
        (head_of_lem file (accepted_file file (sym e ∙ z)).head)
        ∙ sym (ap (λ (k : ℕ). read_as k (request_of file) points lens) (sym e ∙ z)))
