-- What the code's ways of writing bytes rest on.
use Rattle.std.proofs.Common.{◌≡◌, refl, sym, ap, ap₂, ◌∙◌, ℕ, zero, suc, ◌+◌, ◌-◌, ◌*◌, ◌/◌, ◌%◌, ◌^◌, ◌≤◌, ◌<◌, min, subst, Float, List, ◌∷◌, ◌++◌, append_assoc, append-nil, drop_of_length-le, length, take, drop, arith, replicate, drop-drop, length-take, length-drop, take_at, drop_at}
use Rattle.std.proofs.lemmas.List.{length-replicate, take_min, drop_min}
use Rattle.std.specs.Int.{byte_at, bytes_low_first, to_le_bytes}
use Rattle.std.proofs.Math.Nat.{pow-suc, div-div-eq-div-mul}
use mir.Syntax.{w64}
use Rattle.std.proofs.Math.Seq.{sets, sets-eq}
use Rattle.laws.specs.Overlay.{overlay}
use Rattle.file_outline.specs.File.{number_bytes, block_of, point_bytes, point_blocks}
use Rattle.file_writing.proofs.RoundTrip.{bytes_length, block_wide}
use Rattle.file_writing.proofs.WriteLaws.{Blocks, blocks_long, blocks_put, points_used, sets_first, sets_part}

-- a part of a list, replaced by a list of its length
pub part_put : {A : Type 0} (l : List A) (at k : ℕ) (part : List A) → length part ≡ k → at + k ≤ length l
    → take at l ++ (part ++ drop k (drop at l)) ≡ sets l at part
part_put {A} l at k part e h =
    ap (λ (r : List A). take at l ++ (part ++ r)) (drop-drop k at l ∙ ap (λ (n : ℕ). drop n l) {y = at + length part} (omega arith))
    ∙ sym (append_assoc (take at l) part (drop (at + length part) l))
    ∙ sym (sets-eq part l at (omega arith))

byte_is : (i x : ℕ) → byte_at i x ≡ x / 256 ^ i % 256
byte_is zero x = ap (λ (n : ℕ). n % 256) (omega arith)
byte_is (suc i) x = refl

shift : (i x : ℕ) → x / 256 ^ suc i ≡ x / 256 ^ i / 256
shift i x = rw pow-suc (sym (div-div-eq-div-mul x (256 ^ i) 256))

-- the library's bytes of a number, from byte i on
bytes_from : (n k i x : ℕ) → n ≤ k → take n (bytes_low_first i k x) ≡ number_bytes n (x / 256 ^ i)
unfolding number_bytes
bytes_from zero k i x h = refl
bytes_from (suc n) zero i x h = absurd (omega arith)
bytes_from (suc n) (suc k) i x h = ap₂ ◌∷◌ (byte_is i x) (bytes_from n k (suc i) x (omega arith) ∙ ap (number_bytes n) (shift i x))

pub first_bytes : (n x : ℕ) → n ≤ 8 → take n (to_le_bytes w64 x) ≡ number_bytes n x
first_bytes n x h = bytes_from n 8 0 x h ∙ ap (number_bytes n) (omega arith)

pub number_put : (b : List ℕ) (at n x : ℕ) {part bytes : List ℕ} → n ≤ 8 → at + n ≤ length b → part ≡ take n bytes → bytes ≡ to_le_bytes w64 x
    → take at b ++ (part ++ drop (at + n - at) (drop at b)) ≡ sets b at (number_bytes n x)
number_put b at n x {part} h k e f =
    let is : part ≡ number_bytes n x = e ∙ ap (take n) f ∙ first_bytes n x h in
    let wide : length (number_bytes n x) ≡ n = bytes_length n x in
    part_put b at (at + n - at) part (rw is (omega arith)) (omega arith) ∙ ap (sets b at) is

pub zeros_put : (b : List ℕ) (used n : ℕ) {part : List ℕ} → used + n ≤ length b → part ≡ replicate (length (take n (drop used b))) 0
    → take used b ++ (part ++ drop n (drop used b)) ≡ sets b used (replicate n 0)
zeros_put b used n {part} h e =
    let count : length (take n (drop used b)) ≡ n = simp (length-take, length-drop) (omega arith) in
    let is : part ≡ replicate n 0 = e ∙ ap (λ (m : ℕ). replicate m 0) count in
    part_put b used n part (rw is (length-replicate {A = ℕ} n 0)) h ∙ ap (sets b used) is

-- a block put in a list
pub block_put : (l : List ℕ) (at : ℕ) {part block : List ℕ} → part ≡ block → length block ≡ 512 → at + 512 ≤ length l
    → take at l ++ (part ++ drop (at + 512 - at) (drop at l)) ≡ sets l at block
block_put l at {part} {block} e wide h = rw e (part_put l at (at + 512 - at) block (omega (arith, wide)) (omega arith))

pub first_block_put : (l : List ℕ) {part block : List ℕ} → part ≡ block → length block ≡ 512 → 512 ≤ length l → part ++ drop 512 l ≡ sets l 0 block
unfolding overlay
first_block_put l {part} {block} e wide h = rw e (ap (λ (n : ℕ). block ++ drop n l) (sym wide)) ∙ sym (sets_first l block (omega (arith, wide)))

-- the next block of points
pub points_put : (points : List Float) {file : List ℕ} {n k : ℕ} {s : List ℕ} → Blocks points file n k s → 62 * k ≤ length points
    → 512 * (n + 1) ≤ length file → k < n → {to : ℕ} → to ≡ min (62 * k + 62) (length points)
    → {part : List ℕ} → part ≡ block_of (point_bytes (take (to - 62 * k) (drop (62 * k) points)))
    → Blocks points file n (k + 1) (take (512 * (k + 1)) s ++ (part ++ drop (512 * (k + 1) + 512 - 512 * (k + 1)) (drop (512 * (k + 1)) s)))
points_put points {file} {n} {k} {s} l within long h {to} e {part} f =
    let here : List Float = take (to - 62 * k) (drop (62 * k) points) in
    let wide : length (block_of (point_bytes here)) ≡ 512 =
    block_wide (point_bytes here) (omega (arith, points_used here, length-take (to - 62 * k) (drop (62 * k) points))) in
    let room : 512 * (k + 1) + 512 ≤ length s = omega (arith, blocks_long points l) in
    subst (Blocks points file n (k + 1))
    (sets_part s (512 * (k + 1)) (block_of (point_bytes here)) (omega (arith, wide, room)) refl ∙ sym (block_put s (512 * (k + 1)) f wide room))
    (blocks_put points l within long h e refl)

-- a chunk of the points that are left, after k chunks of 62
module _ (points : List Float) (k : ℕ) {left : List Float} (chunk rest : List Float) {size : ℕ} (here : left ≡ drop (62 * k) points) (full : size ≡ 62)
    (cut : left ≡ chunk ++ rest) (long : length chunk ≡ min size (length left)) where
  pub chunk_rest : rest ≡ drop (62 * (k + 1)) points
  chunk_rest =
      sym (drop_at chunk rest (min size (length left)) long) ∙ ap (drop (min size (length left))) (sym cut) ∙ drop_min size left
      ∙ ap₂ drop full here ∙ drop-drop 62 (62 * k) points ∙ ap (λ (n : ℕ). drop n points) (omega arith)

  chunk_is : chunk ≡ take 62 (drop (62 * k) points)
  chunk_is =
      sym (take_at chunk rest (min size (length left)) long) ∙ ap (take (min size (length left))) (sym cut) ∙ take_min size left ∙ ap₂ take full here

  pub chunk_put : {file : List ℕ} {n : ℕ} {s : List ℕ} → Blocks points file n k s → n ≡ point_blocks (length points / 2) → length points % 2 ≡ 0
      → 512 * (n + 1) ≤ length file → 0 < length left → {part : List ℕ} → part ≡ block_of (point_bytes chunk)
      → Blocks points file n (k + 1) (take (512 * (k + 1)) s ++ (part ++ drop (512 * (k + 1) + 512 - 512 * (k + 1)) (drop (512 * (k + 1)) s)))
  chunk_put l count even room some f =
      let ahead : List Float = drop (62 * k) points in
      let more : length left ≡ length points - 62 * k = ap length here ∙ length-drop (62 * k) points in
      let at : min 62 (length ahead) ≡ min (62 * k + 62) (length points) - 62 * k = omega (arith, length-drop (62 * k) points) in
      let part_is = chunk_is ∙ sym (take_min 62 ahead) ∙ ap (λ (j : ℕ). take j ahead) at in
      points_put points l (omega (arith, more, some)) room (omega (arith, count, even, more, some)) refl
      (f ∙ ap (λ (p : List Float). block_of (point_bytes p)) part_is)

-- a block that takes the place of a whole list
pub whole_block : (l c : List ℕ) → length l ≡ 512 → length c ≤ 510 → sets l 0 (block_of c) ≡ block_of c
unfolding overlay
whole_block l c long fit =
    let wide = block_wide c fit in
    sets_first l (block_of c) (omega (arith, wide))
    ∙ ap (λ (r : List ℕ). block_of c ++ r) (drop_of_length-le l {i = length (block_of c)} (omega (arith, wide)))
    ∙ append-nil (block_of c)
