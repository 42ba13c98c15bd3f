-- Laws of writing: `sets l i xs` of the library is the list l with xs put from place i on. Assumes nothing.
use Rattle.std.specs.Prelude.{◌≡◌, Bool, true, false, not, T, ltb, set, Float}
use Rattle.std.proofs.Math.Path.{refl, sym, ap, ap₂}
use Rattle.std.proofs.Common.{◌∙◌, subst, true≢false, mul-zero, length-take, take-append-drop, drop_of_length-le, drop-cons, length-take-le, take_at, take_all}
use mathlib.Core.List.{List, [], ◌∷◌, ◌++◌, append_assoc, append-nil, map, flatten}
use Prim.Native.Nat.{ℕ, zero, suc, ◌+◌, ◌-◌, ◌*◌, ◌/◌, ◌%◌, ◌≤◌, ◌<◌, min}
use Rattle.std.proofs.Math.Numerals.{add-one}
use Rattle.std.proofs.Math.Nat.{mul-suc}
use native.Mathlib.Omega.{arith}
use borrow.Author.Tests.{not-true, not-false, lt-leb, le-leb, lt-ltb, le-ltb, eq-eqb, ne_eqb}
use Rattle.std.proofs.Math.ListN.{length, get_or, take, drop, replicate, length-append, length-drop}
use Rattle.std.proofs.lemmas.List.{length-replicate}
use Rattle.std.proofs.Math.Seq.{sets, length-sets, sets-eq, drop-append-add, drop-drop}
use Rattle.std.specs.Float.{nan, inf, fin, binary64}
use Rattle.std.specs.Float.Ieee.{is_nan, ne, to_bits}
use Rattle.std.specs.Float.Ieee.Compare.{nan_differs, differs_from_itself}
use Rattle.laws.specs.Loop.{Loop, loop_start_lem, loop_next, loop_end, sum_up, sum_turn}
use Rattle.laws.specs.Overlay.{overlay}
use Rattle.laws.proofs.Sums.{sum_term}
use Rattle.laws.specs.Tabulate.{tabulate, tabulate_suc}
use Rattle.outline.specs.declared.Settings.{Settings}
use Rattle.file_outline.specs.File.{check_of, number_bytes, float_bytes, block_of, length_bytes, head_bytes, point_bytes}
use Rattle.file_outline.specs.File.{Request, request, file_length, point_blocks, point_block, blocks_of, file_of, total_points, fileable, file_written, write_file}
use Rattle.file_writing.proofs.RoundTrip.{bytes_length, pieces_length, block_wide, check_same, point_block_wide, Fileable, fileable_is}
use Rattle.file_writing.proofs.RoundTrip.{head_wide, file_length_lem}

-- ---- floats

-- a NaN's bits
pub nan_bits_lem : (x : Float) → ne x x ≡ true → 0x7ff8_0000_0000_0000 ≡ to_bits binary64 x
unfolding to_bits
nan_bits_lem x h = ap (to_bits binary64) (sym (differs_from_itself x (subst T (sym h) tt)))

pub no_nan : (x : Float) → ne x x ≡ false → T (not (is_nan x))
unfolding is_nan
no_nan nan h = absurd (true≢false (sym nan_differs ∙ h))
no_nan (inf s) h = tt
no_nan (fin s m e) h = tt

-- ---- stores

module _ {A : Type 0} where
  pub sets_append : (l : List A) (i : ℕ) (xs ys : List A) → sets l i (xs ++ ys) ≡ sets (sets l i xs) (i + length xs) ys
  sets_append l i [] ys = let e : i ≡ i + 0 = omega arith in ap (λ (k : ℕ). sets l k ys) e
  sets_append l i (x ∷ xs) ys =
      let e : suc i + length xs ≡ i + suc (length xs) = omega arith in
      sets_append (set l i x) (suc i) xs ys ∙ ap (λ (k : ℕ). sets (sets (set l i x) (suc i) xs) k ys) e

  -- on the first places
  pub sets_first : (l xs : List A) → length xs ≤ length l → sets l 0 xs ≡ overlay xs l
  unfolding overlay
  sets_first l xs h = let e : 0 + length xs ≡ length xs = omega arith in sets-eq xs l 0 (rw e h) ∙ ap (λ (k : ℕ). xs ++ drop k l) e

  -- what stood there is overwritten
  pub sets_over : (l xs ys : List A) → length xs ≤ length ys → length ys ≤ length l → sets (sets l 0 xs) 0 ys ≡ sets l 0 ys
  unfolding overlay
  sets_over l xs ys h k =
      let more : length ys ≡ length xs + (length ys - length xs) = omega arith in
      sets_first (sets l 0 xs) ys (rw length-sets k)
      ∙ ap (λ (r : List A). ys ++ drop (length ys) r) (sets_first l xs (omega arith))
      ∙ ap (λ (n : ℕ). ys ++ drop n (xs ++ drop (length xs) l)) more
      ∙ ap (λ (r : List A). ys ++ r)
      (drop-append-add xs (drop (length xs) l) (length ys - length xs) ∙ drop-drop (length ys - length xs) (length xs) l
      ∙ ap (λ (n : ℕ). drop n l) (sym more))
      ∙ sym (sets_first l ys k)

  -- put on a part of the list, from place i to the end
  pub sets_part : (l : List A) (i : ℕ) (xs : List A) {part : List A} → i + length xs ≤ length l
      → part ≡ sets (take (length l - i) (drop i l)) 0 xs → take i l ++ (part ++ drop (length l - i) (drop i l)) ≡ sets l i xs
  unfolding overlay
  sets_part l i xs h e =
      let rest : length (drop i l) ≡ length l - i = length-drop i l in
      ap₂ (λ (p q : List A). take i l ++ (p ++ q))
      (e ∙ ap (λ (r : List A). sets r 0 xs) (take_all (length l - i) (drop i l) (omega arith)) ∙ sets_first (drop i l) xs (omega arith))
      (drop_of_length-le (drop i l) {i = length l - i} (omega arith))
      ∙ ap (λ (r : List A). take i l ++ r) (append-nil (xs ++ drop (length xs) (drop i l)) ∙ ap (λ (r : List A). xs ++ r) (drop-drop (length xs) i l))
      ∙ sym (append_assoc (take i l) xs (drop (i + length xs) l))
      ∙ sym (sets-eq xs l i h)

-- ---- a loop that puts bytes one by one: what is left of them, put from place i on, makes up the whole

pub record Putting (l : List ℕ) (at : ℕ) (all : List ℕ) (end i : ℕ) (rest s : List ℕ) : Type 0 where
  pub within : i ≤ end
  pub left : length rest ≡ end - i
  pub same : sets s i rest ≡ sets l at all

pub put_start : (l : List ℕ) (at : ℕ) (all : List ℕ) (end : ℕ) → end ≡ at + length all → Putting l at all end at all l
put_start l at all end e = record { within = omega arith; left = omega arith; same = refl }

module _ {l : List ℕ} {at : ℕ} {all : List ℕ} {end i : ℕ} {rest s : List ℕ} (p : Putting l at all end i rest s) where
  pub put_length : length s ≡ length l
  put_length = sym (length-sets s i rest) ∙ ap length p.same ∙ length-sets l at all

  pub put_next : (a : ℕ) (more : List ℕ) → i < end → rest ≡ a ∷ more → Putting l at all end (i + 1) more (set s i a)
  put_next a more h e = record {
    within = omega arith;
    left = omega (arith, p.left, ap length e);
    same = rw add-one (ap (sets s i) (sym e) ∙ p.same);
  }

  pub put_end_lem : end ≤ i → s ≡ sets l at all
  put_end_lem h = ap (sets s i) (sym (none rest (omega (arith, p.left)))) ∙ p.same
    where
      none : (xs : List ℕ) → length xs ≡ 0 → xs ≡ []
      none [] e = refl
      none (x ∷ xs) e = absurd (omega arith)

-- the next byte of a number, and the next zero
pub next_byte : (end i x : ℕ) → i < end → number_bytes (end - i) x ≡ x % 256 ∷ number_bytes (end - (i + 1)) (x / 256)
unfolding number_bytes
next_byte end i x h = let e : end - i ≡ suc (end - (i + 1)) = omega arith in ap (λ (n : ℕ). number_bytes n x) e

pub next_zero : (i : ℕ) → i < 510 → replicate {A = ℕ} (510 - i) 0 ≡ 0 ∷ replicate (510 - (i + 1)) 0
next_zero i h = let e : 510 - i ≡ suc (510 - (i + 1)) = omega arith in ap (λ (n : ℕ). replicate {A = ℕ} n 0) e

pub put_first : (l : List ℕ) (at n x : ℕ) → Putting l at (number_bytes n x) (at + n) at (number_bytes (at + n - at) x) l
put_first l at n x =
    let all : at + n - at ≡ n = omega arith in
    rw all (put_start l at (number_bytes n x) (at + n) (ap (λ (k : ℕ). at + k) (sym (bytes_length n x))))

-- ---- a loop that puts pieces of one width

pub record Pieces {A : Type 0} (w : ℕ) (piece : A → List ℕ) (l : List A) (base : ℕ) (b₀ : List ℕ) (k : ℕ) (b : List ℕ) : Type 0 where
  pub within : k ≤ length l
  pub same : sets b (base + w * k) (flatten (map piece (drop k l))) ≡ sets b₀ base (flatten (map piece l))

module _ {A : Type 0} (w : ℕ) (piece : A → List ℕ) (wide : (x : A) → length (piece x) ≡ w) (l : List A) (base : ℕ) (b₀ : List ℕ) where
  pub pieces_start : Pieces w piece l base b₀ 0 b₀
  pieces_start =
      let e : base + w * 0 ≡ base = omega (arith, mul-zero w) in
      record { within = omega arith; same = ap (λ (n : ℕ). sets b₀ n (flatten (map piece l))) e }

  module _ {k : ℕ} {b : List ℕ} (p : Pieces w piece l base b₀ k b) where
    pub pieces_long : length b ≡ length b₀
    pieces_long = sym (length-sets b (base + w * k) (flatten (map piece (drop k l)))) ∙ ap length p.same ∙ length-sets b₀ base (flatten (map piece l))

    pub pieces_next : (d : A) {at : ℕ} {b' : List ℕ} → k < length l → at ≡ base + w * k → b' ≡ sets b at (piece (get_or l k d))
        → Pieces w piece l base b₀ (k + 1) b'
    unfolding flatten
    pieces_next d {at} {b'} h e f = record { within = omega arith; same = same }
      where
        place : base + w * suc k ≡ base + w * k + length (piece (get_or l k d))
        place = omega (arith, mul-suc w k, wide (get_or l k d))

        same : sets b' (base + w * (k + 1)) (flatten (map piece (drop (k + 1) l))) ≡ sets b₀ base (flatten (map piece l))
        same =
            let x = get_or l k d in
            let after = flatten (map piece (drop (suc k) l)) in
            rw add-one
            (ap₂ (λ (c : List ℕ) (n : ℕ). sets c n after) (f ∙ ap (λ (n : ℕ). sets b n (piece x)) e) place
            ∙ sym (sets_append b (base + w * k) (piece x) after)
            ∙ ap (λ (r : List A). sets b (base + w * k) (flatten (map piece r))) (sym (drop-cons l k d h))
            ∙ p.same)

    pub pieces_end : length l ≤ k → b ≡ sets b₀ base (flatten (map piece l))
    unfolding flatten
    pieces_end h = ap (λ (r : List A). sets b (base + w * k) (flatten (map piece r))) (sym (drop_of_length-le l h)) ∙ p.same

-- a float is a piece of 8 bytes
pub float_wide : (x : Float) → length (float_bytes x) ≡ 8
float_wide x = bytes_length 8 (to_bits binary64 x)

pub put_float : (x : Float) (b : List ℕ) (at : ℕ) {bits : ℕ} {b' : List ℕ} → bits ≡ to_bits binary64 x → b' ≡ sets b at (number_bytes 8 bits)
    → b' ≡ sets b at (float_bytes x)
put_float x b at e f = f ∙ ap (λ (n : ℕ). sets b at (number_bytes 8 n)) e

-- ---- a block

-- zeros after the contents, then the check
module _ (b : List ℕ) (used : ℕ) (fit : used ≤ 510) (long : 512 ≤ length b) where
  abbrev contents : List ℕ
  contents = take used b

  abbrev zeros : List ℕ
  zeros = replicate (510 - used) 0

  abbrev check : List ℕ
  check = number_bytes 2 (check_of (contents ++ zeros))

  contents_length : length contents ≡ used
  contents_length = length-take-le used b (omega arith)

  zeros_length : length zeros ≡ 510 - used
  zeros_length = length-replicate {A = ℕ} (510 - used) 0

  block_is : block_of contents ≡ contents ++ (zeros ++ check)
  unfolding block_of
  block_is = ap (λ (n : ℕ). let p = contents ++ replicate (510 - n) 0 in p ++ number_bytes 2 (check_of p)) contents_length ∙ append_assoc contents zeros check

  check_is : check_of (sets b used zeros) ≡ check_of (contents ++ zeros)
  check_is =
      ap check_of (sets-eq zeros b used (omega (arith, zeros_length)))
      ∙ check_same (contents ++ zeros) (drop (used + length zeros) b) (omega (arith, length-append contents zeros, contents_length, zeros_length))

  pub block_sealed : {b₁ b₂ : List ℕ} {sum : ℕ} → b₁ ≡ sets b used zeros → sum ≡ check_of b₁ → b₂ ≡ sets b₁ 510 (number_bytes 2 sum)
      → b₂ ≡ sets b 0 (block_of contents)
  block_sealed {b₁} {b₂} {sum} e f g =
      let all : 510 ≡ used + length zeros = omega (arith, zeros_length) in
      let first : used ≡ 0 + length contents = omega (arith, contents_length) in
      g
      ∙ ap₂ (λ (c : List ℕ) (x : ℕ). sets c 510 (number_bytes 2 x)) e (f ∙ ap check_of e ∙ check_is)
      ∙ ap (λ (n : ℕ). sets (sets b used zeros) n check) all
      ∙ sym (sets_append b used zeros check)
      ∙ ap₂ (λ (c : List ℕ) (n : ℕ). sets c n (zeros ++ check)) (sym same) first
      ∙ sym (sets_append b 0 contents (zeros ++ check))
      ∙ ap (sets b 0) (sym block_is)
    where
      same : sets b 0 contents ≡ b
      same =
          let all : 0 + length contents ≡ used = omega (arith, contents_length) in
          sets-eq contents b 0 (omega (arith, contents_length)) ∙ ap (λ (n : ℕ). contents ++ drop n b) all ∙ take-append-drop used b

-- contents that were put on the first places, made a block
pub sealed : (b c : List ℕ) {b₁ b₂ : List ℕ} {used : ℕ} → used ≤ 510 → 512 ≤ length b → used ≡ length c → b₁ ≡ sets b 0 c
    → b₂ ≡ sets b₁ 0 (block_of (take used b₁)) → b₂ ≡ sets b 0 (block_of c)
unfolding overlay
sealed b c {b₁} {b₂} {used} fit long e f g =
    let wide = block_wide c (omega arith) in
    let contents : take used b₁ ≡ c = ap (take used) (f ∙ sets_first b c (omega arith)) ∙ take_at c (drop (length c) b) used (sym e) in
    g ∙ ap₂ (λ (l r : List ℕ). sets l 0 (block_of r)) f contents ∙ sets_over b c (block_of c) (omega (arith, wide)) (omega (arith, wide))

-- the head's numbers one after the other
pub head_put : (s : Settings) (lens b : List ℕ) {x : ℕ} {b₁ b₂ b₃ b₄ b₅ : List ℕ} → x ≡ to_bits binary64 s.size
    → b₁ ≡ sets b 0 (number_bytes 8 x) → b₂ ≡ sets b₁ 8 (number_bytes 2 s.sweeps) → b₃ ≡ sets b₂ 10 (number_bytes 2 s.passes)
    → b₄ ≡ sets b₃ 12 (number_bytes 2 (length lens)) → b₅ ≡ sets b₄ 14 (length_bytes lens) → b₅ ≡ sets b 0 (head_bytes s lens)
unfolding head_bytes number_bytes
head_put s lens b e e₁ e₂ e₃ e₄ e₅ = rw (e₅, e₄, e₃, e₂, e₁, e)

pub points_used : (l : List Float) → 8 * length l ≡ length (point_bytes l)
unfolding point_bytes
points_used l = sym (pieces_length 8 float_bytes float_wide l)

-- ---- the blocks of points, one after the other

take_least : (n : ℕ) (l : List Float) → take (min n (length l)) l ≡ take n l
take_least zero l = let e : min 0 (length l) ≡ 0 = omega arith in ap (λ (k : ℕ). take k l) e
take_least (suc n) [] = let e : min (suc n) 0 ≡ 0 = omega arith in ap (λ (k : ℕ). take {A = Float} k []) e
take_least (suc n) (x ∷ l) =
    let e : min (suc n) (suc (length l)) ≡ suc (min n (length l)) = omega arith in
    ap (λ (k : ℕ). take k (x ∷ l)) e ∙ ap (λ (r : List Float). x ∷ r) (take_least n l)

flatten_last : (xs : List (List ℕ)) (y : List ℕ) → flatten (xs ++ y ∷ []) ≡ flatten xs ++ y
unfolding flatten
flatten_last [] y = append-nil y
flatten_last (x ∷ xs) y = ap (λ (r : List ℕ). x ++ r) (flatten_last xs y) ∙ sym (append_assoc x (flatten xs) y)

module _ (points : List Float) where
  -- the first k of them
  abbrev pub first_blocks : ℕ → List ℕ
  first_blocks k = flatten (tabulate k (point_block points))

  blocks_next : (k : ℕ) → first_blocks (suc k) ≡ first_blocks k ++ point_block points k
  blocks_next k = ap flatten (tabulate_suc k (point_block points)) ∙ flatten_last (tabulate k (point_block points)) (point_block points k)

  blocks_length : (k : ℕ) → length (first_blocks k) ≡ 512 * k
  unfolding tabulate flatten
  blocks_length zero = refl
  blocks_length (suc k) =
      omega (arith, ap length (blocks_next k), length-append (first_blocks k) (point_block points k), blocks_length k, point_block_wide points k)

  -- the loop: k of at most n blocks have been put
  pub record Blocks (file : List ℕ) (n k : ℕ) (s : List ℕ) : Type 0 where
    pub within : k ≤ n
    pub same : s ≡ sets file 512 (first_blocks k)

  pub file_blocks_start : (file : List ℕ) (n : ℕ) → Blocks file n 0 file
  unfolding tabulate flatten
  file_blocks_start file n = record { within = omega arith; same = refl }

  module _ {file : List ℕ} {n k : ℕ} {s : List ℕ} (l : Blocks file n k s) where
    pub blocks_long : length s ≡ length file
    blocks_long = ap length l.same ∙ length-sets file 512 (first_blocks k)

    module _ (within : 62 * k ≤ length points) (long : 512 * (n + 1) ≤ length file) (h : k < n) {to : ℕ} (e : to ≡ min (62 * k + 62) (length points)) where
      pub part_requires : (length (take (to - 62 * k) (drop (62 * k) points)) ≤ 62)
          × (512 ≤ length (take (length s - 512 * (k + 1)) (drop (512 * (k + 1)) s)))
      part_requires =
          let a = length-take (to - 62 * k) (drop (62 * k) points) in
          let b = length-take (length s - 512 * (k + 1)) (drop (512 * (k + 1)) s) in
          let c = length-drop (512 * (k + 1)) s in
          (omega arith, omega (arith, blocks_long))

      pub blocks_put : {part : List ℕ}
          → part ≡ sets (take (length s - 512 * (k + 1)) (drop (512 * (k + 1)) s)) 0 (block_of (point_bytes (take (to - 62 * k) (drop (62 * k) points))))
          → Blocks file n (k + 1) (take (512 * (k + 1)) s ++ (part ++ drop (length s - 512 * (k + 1)) (drop (512 * (k + 1)) s)))
      unfolding point_block
      blocks_put f = record {
        within = omega arith;
        same =
            let rest = take (length s - 512 * (k + 1)) (drop (512 * (k + 1)) s) in
            sets_part s (512 * (k + 1)) (point_block points k) (omega (arith, blocks_long, point_block_wide points k))
            (f ∙ ap (λ (r : List Float). sets rest 0 (block_of (point_bytes r))) here)
            ∙ ap₂ (λ (r : List ℕ) (j : ℕ). sets r j (point_block points k)) l.same place
            ∙ sym (sets_append file 512 (first_blocks k) (point_block points k))
            ∙ rw add-one (ap (sets file 512) (sym (blocks_next k)));
      }
        where
          here : take (to - 62 * k) (drop (62 * k) points) ≡ take 62 (drop (62 * k) points)
          here =
              let at : to - 62 * k ≡ min 62 (length (drop (62 * k) points)) = omega (arith, length-drop (62 * k) points) in
              ap (λ (j : ℕ). take j (drop (62 * k) points)) at ∙ take_least 62 (drop (62 * k) points)

          place : 512 * (k + 1) ≡ 512 + length (first_blocks k)
          place = omega (arith, blocks_length k)

    pub file_blocks_end : n ≡ point_blocks (length points / 2) → n ≤ k → s ≡ sets file 512 (blocks_of points)
    unfolding blocks_of
    file_blocks_end e h = let all : k ≡ point_blocks (length points / 2) = omega (arith, l.within) in l.same ∙ ap (λ (j : ℕ). sets file 512 (first_blocks j)) all

-- ---- what a file can hold

-- the loop that adds up the lengths
pub record FewPoints (lens : List ℕ) (k sum : ℕ) : Type 0 where
  pub same : Loop (sum_turn (λ j. get_or lens j 0)) 0 (length lens) k sum
  pub small : sum ≤ 248

pub few_start : (lens : List ℕ) → FewPoints lens 0 0
few_start lens = record { same = loop_start_lem (sum_turn (λ j. get_or lens j 0)) 0 (length lens); small = omega arith }

module _ {lens : List ℕ} {k sum : ℕ} (l : FewPoints lens k sum) where
  pub few_next : k < length lens → get_or lens k 0 ≤ 248 - sum → FewPoints lens (k + 1) (sum + get_or lens k 0)
  few_next h le = record { same = loop_next (sum_turn (λ j. get_or lens j 0)) 0 l.same h; small = omega (arith, l.small) }

  pub few_out : k < length lens → 248 - sum < get_or lens k 0 → 249 ≡ min (total_points lens) 249
  unfolding total_points sum_up
  few_out h lt = omega (arith, l.same.same, sum_term (λ (j : ℕ). get_or lens j 0) k (length lens) h)

  pub few_end : length lens ≤ k → sum ≡ min (total_points lens) 249
  unfolding total_points sum_up
  few_end h = omega (arith, l.small, loop_end (sum_turn (λ j. get_or lens j 0)) 0 l.same h)

module _ (s : Settings) (points : List Float) (lens : List ℕ) where
  pub no_loops_written : length lens < 1 → false ≡ fileable (request s points lens)
  unfolding fileable
  no_loops_written h = rw (lt-leb 1 (length lens) h)

  module _ (some : 1 ≤ length lens) where
    pub many_loops_written : 8 < length lens → false ≡ fileable (request s points lens)
    unfolding fileable
    many_loops_written h = rw (le-leb 1 (length lens) some, lt-leb (length lens) 8 h)

    module _ (few : length lens ≤ 8) {n : ℕ} (e : n ≡ min (total_points lens) 249) where
      pub many_points_written : 248 < n → false ≡ fileable (request s points lens)
      unfolding fileable
      many_points_written h = rw (le-leb 1 (length lens) some, le-leb (length lens) 8 few, lt-leb (total_points lens) 248 (omega arith))

      module _ (h : n ≤ 248) where
        total : total_points lens ≡ n
        total = omega arith

        pub not_adding : (length points ≡ 2 * n → ⊥) → false ≡ fileable (request s points lens)
        unfolding fileable
        not_adding d = rw (le-leb 1 (length lens) some, le-leb (length lens) 8 few, total, le-leb n 248 h, ne_eqb (length points) (2 * n) d)

        module _ (adds : length points ≡ 2 * n) where
          pub many_sweeps_written : 65535 < s.sweeps → false ≡ fileable (request s points lens)
          unfolding fileable
          many_sweeps_written d =
              rw (
                le-leb 1 (length lens) some,
                le-leb (length lens) 8 few,
                total,
                le-leb n 248 h,
                eq-eqb (length points) (2 * n) adds,
                le-ltb s.sweeps 65536 (omega arith),
              )

          pub by_passes : s.sweeps ≤ 65535 → ltb s.passes 65536 ≡ fileable (request s points lens)
          unfolding fileable
          by_passes d =
              rw (
                le-leb 1 (length lens) some,
                le-leb (length lens) 8 few,
                total,
                le-leb n 248 h,
                eq-eqb (length points) (2 * n) adds,
                lt-ltb s.sweeps 65536 (omega arith),
              )

-- ---- what `write_file` answers

module _ (r : Request) (file : List ℕ) {f : Bool} (e : f ≡ fileable r) where
  pub write_refused_lem : not f ≡ true → file_written 0 file ≡ write_file r file
  unfolding write_file
  write_refused_lem h = rw (← e, not-true f h)

  module _ (h : not f ≡ false) where
    pub is_fileable : Fileable r
    is_fileable = fileable_is r (sym e ∙ not-false f h)

    pub few_coordinates : length r.coordinates / 2 ≤ 248
    few_coordinates = omega (arith, is_fileable.points, is_fileable.adds)

    module _ {n : ℕ} (g : n ≡ file_length (length r.coordinates / 2)) where
      bytes : length (file_of r) ≡ n
      bytes = file_length_lem r is_fileable ∙ sym g

      pub write_short : length file < n → file_written 0 file ≡ write_file r file
      unfolding write_file
      write_short lt = rw (← e, not-false f h, bytes, lt-leb n (length file) lt)

      pub blocks_room : {b₁ : List ℕ} → n ≤ length file → b₁ ≡ sets file 0 (block_of (head_bytes r.settings r.lengths))
          → (length r.coordinates ≤ 496) × (file_length (length r.coordinates / 2) ≤ length b₁)
      blocks_room le p =
          let long = ap length p ∙ length-sets file 0 (block_of (head_bytes r.settings r.lengths)) in
          (omega (arith, is_fileable.points, is_fileable.adds), omega arith)

      pub write_whole : {b₁ b₂ : List ℕ} → n ≤ length file → b₁ ≡ sets file 0 (block_of (head_bytes r.settings r.lengths))
          → b₂ ≡ sets b₁ 512 (blocks_of r.coordinates) → file_written n b₂ ≡ write_file r file
      unfolding write_file file_of
      write_whole {b₁} {b₂} le p q = rw (← e, not-false f h, bytes, le-leb n (length file) le) (ap (file_written n) whole)
        where
          head : List ℕ
          head = block_of (head_bytes r.settings r.lengths)

          whole : b₂ ≡ overlay (file_of r) file
          whole =
              let first : 512 ≡ 0 + length head = omega (arith, head_wide r is_fileable) in
              q
              ∙ ap₂ (λ (l : List ℕ) (i : ℕ). sets l i (blocks_of r.coordinates)) p first
              ∙ sym (sets_append file 0 head (blocks_of r.coordinates))
              ∙ sets_first file (file_of r) (omega (arith, bytes))
