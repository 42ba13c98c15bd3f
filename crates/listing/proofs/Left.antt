-- What the code's loops have left to write.
use Rattle.std.specs.Prelude.{◌≡◌, ℕ, suc, ◌+◌, ◌-◌, ◌*◌, ◌/◌, ◌≤◌, ◌<◌, min, Float, length, take, drop, get_or, replicate}
use Rattle.std.proofs.Math.Path.{refl, ap, ap₂}
use Rattle.std.proofs.Common.{sym, ◌∙◌, add-one, arith, length-take, length-drop, drop_of_length-le, drop-cons, drop-drop, get_or-take}
use mathlib.Core.List.{List, [], ◌∷◌, ◌++◌}
use Prim.Native.Char.{code}
use Rattle.std.proofs.lemmas.List.{take_min, drop_min}
use Rattle.listing.specs.Text.{ascii}
use Rattle.listing.specs.Buffer.{Buffer, puts, Wrote}
use Rattle.listing.proofs.BufferLaws.{puts_append, puts_length}
use Rattle.listing.specs.Listing.{decimal, spaced, row, row_lines, node_line, node_lines, quad_lines, loop_lines}

-- ---- a loop that writes: with the rest written too, the buffer p is as if all had been written from the start on

pub record Left (rest all : List ℕ) (start p : Buffer) : Type 0 where
  pub same : puts rest p ≡ puts all start

module _ {all : List ℕ} {start p : Buffer} where
  pub left_next : {rest : List ℕ} {q : Buffer} (a more : List ℕ) → Left rest all start p → rest ≡ a ++ more → Wrote a p q → Left more all start q
  left_next a more l e w =
      record { same = ap (puts more) w.same ∙ sym (puts_append a more p) ∙ ap (λ (r : List ℕ). puts r p) (sym e) ∙ l.same }

  pub left_end : {rest : List ℕ} → Left rest all start p → rest ≡ [] → Wrote all start p
  unfolding puts
  left_end l e = record { same = ap (λ (r : List ℕ). puts r p) (sym e) ∙ l.same }

  pub left_length : {rest : List ℕ} → Left rest all start p → length p.bytes ≡ length start.bytes
  left_length {rest} l =
      sym (puts_length rest p) ∙ ap (λ (q : Buffer). length q.bytes) l.same ∙ puts_length all start

pub left_start : (l : List ℕ) (p : Buffer) → Left l l p p
left_start l p = record { same = refl }

-- ---- bytes, numbers and nodes: from index i on

pub bytes_next : (l : List ℕ) (i : ℕ) → i < length l → drop i l ≡ (get_or l i 0 ∷ []) ++ drop (i + 1) l
bytes_next l i h = rw add-one (drop-cons l i 0 h)

pub spaced_next : (l : List ℕ) (i : ℕ) → i < length l → spaced (drop i l) ≡ (ascii " " ++ decimal (get_or l i 0)) ++ spaced (drop (i + 1) l)
unfolding spaced
spaced_next l i h = ap spaced (bytes_next l i h)

pub spaced_end : (l : List ℕ) (i : ℕ) → length l ≤ i → spaced (drop i l) ≡ []
unfolding spaced
spaced_end l i h = ap spaced (drop_of_length-le l h)

-- of the first n of a list
module _ {A : Type 0} (l : List A) (n i : ℕ) where
  taken_next : (d : A) → i < n → i < length l → drop i (take n l) ≡ get_or l i d ∷ drop (i + 1) (take n l)
  taken_next d h k =
      drop-cons (take n l) i d (simp length-take (omega arith))
      ∙ ap₂ (λ (x : A) (m : ℕ). x ∷ drop m (take n l)) (get_or-take n l i d h) (sym (add-one i))

  taken_end : min n (length l) ≤ i → drop i (take n l) ≡ []
  taken_end h = drop_of_length-le (take n l) {i = i} (rw length-take h)

module _ (xs ys : List Float) (n i : ℕ) where
  pub nodes_next : (d : Float) → i < n → i < length xs → i < length ys
      → node_lines (drop i (take n xs)) (drop i (take n ys))
      ≡ node_line (get_or xs i d) (get_or ys i d) ++ node_lines (drop (i + 1) (take n xs)) (drop (i + 1) (take n ys))
  unfolding node_lines
  nodes_next d h hx hy = ap₂ node_lines (taken_next xs n i d h hx) (taken_next ys n i d h hy)

  pub nodes_end : min n (length xs) ≤ i → node_lines (drop i (take n xs)) (drop i (take n ys)) ≡ []
  unfolding node_lines
  nodes_end h = ap (λ (l : List Float). node_lines l (drop i (take n ys))) (taken_end xs n i h)

  pub nodes_end_y : length ys ≤ i → node_lines (drop i (take n xs)) (drop i (take n ys)) ≡ []
  unfolding node_lines
  nodes_end_y h = ap (node_lines (drop i (take n xs))) (taken_end ys n i (omega arith)) ∙ no_y (drop i (take n xs))
    where
      no_y : (l : List Float) → node_lines l [] ≡ []
      no_y [] = refl
      no_y (x ∷ l) = refl

-- ---- rows: the first of those left, and the others

pub rows_first : (letter n : ℕ) (ns ids : List ℕ) → row_lines letter (n ∷ ns) ids ≡ row letter (take n ids) ++ row_lines letter ns (drop n ids)
unfolding row_lines
rows_first letter n ns ids = refl

pub rows_end : (letter : ℕ) (ns ids : List ℕ) → ns ≡ [] → row_lines letter ns ids ≡ []
unfolding row_lines
rows_end letter ns ids e = ap (λ (l : List ℕ). row_lines letter l ids) e

-- the lines of count quads from quad k on
abbrev pub quads_from : List ℕ → ℕ → ℕ → List ℕ
quads_from quads count k = row_lines (code "q") (replicate (count - k) 4) (drop (4 * k) quads)

pub quads_start : (n : ℕ) (quads : List ℕ) (count : ℕ) (p : Buffer) → count ≡ min n (length quads / 4)
    → Left (quads_from quads count 0) (quad_lines n quads) p p
unfolding quad_lines
quads_start n quads count p e = let same : count - 0 ≡ min n (length quads / 4) = omega arith in rw same (left_start _ p)

pub quads_end : (quads : List ℕ) (count k : ℕ) → count ≤ k → quads_from quads count k ≡ []
quads_end quads count k h = let none : count - k ≡ 0 = omega arith in rw none (rows_end (code "q") [] _ refl)

pub quads_next : (quads : List ℕ) (count k : ℕ) → k < count
    → quads_from quads count k ≡ row (code "q") (take (4 * k + 4 - 4 * k) (drop (4 * k) quads)) ++ quads_from quads count (k + 1)
quads_next quads count k h =
    let left : count - k ≡ suc (count - (k + 1)) = omega arith in
    let four : 4 * k + 4 - 4 * k ≡ 4 = omega arith in
    let after : 4 * (k + 1) ≡ 4 * k + 4 = omega arith in
    rw (left, four, after) (rows_first (code "q") 4 _ _ ∙ rw drop-drop refl)

-- the lines of n loops from loop k on, whose ids begin at a
abbrev pub loops_from : List ℕ → List ℕ → ℕ → ℕ → ℕ → List ℕ
loops_from lengths loops n k a = row_lines (code "l") (drop k (take n lengths)) (drop a loops)

pub loops_start : (lengths loops : List ℕ) (n : ℕ) (p : Buffer) → Left (loops_from lengths loops n 0 0) (loop_lines (take n lengths) loops) p p
unfolding loop_lines
loops_start lengths loops n p = left_start _ p

pub loops_end : (lengths loops : List ℕ) (n k a : ℕ) → min n (length lengths) ≤ k → loops_from lengths loops n k a ≡ []
loops_end lengths loops n k a h = rows_end (code "l") _ _ (taken_end lengths n k h)

pub rows_next : (lengths loops : List ℕ) (n k a e : ℕ) → k < n → k < length lengths → e ≡ a + min (get_or lengths k 0) (length loops - a)
    → loops_from lengths loops n k a ≡ row (code "l") (take (e - a) (drop a loops)) ++ loops_from lengths loops n (k + 1) e
rows_next lengths loops n k a e h hk end =
    let m : ℕ = get_or lengths k 0 in
    let cut : e - a ≡ min m (length (drop a loops)) = rw length-drop (omega arith) in
    let past : drop e loops ≡ drop m (drop a loops) =
    ap (λ (j : ℕ). drop j loops) (end ∙ ap (λ (j : ℕ). a + min m j) (sym (length-drop a loops)))
    ∙ sym (drop-drop (min m (length (drop a loops))) a loops)
    ∙ drop_min m (drop a loops) in
    ap (λ (l : List ℕ). row_lines (code "l") l (drop a loops)) (taken_next lengths n k 0 h hk)
    ∙ rows_first (code "l") m _ _
    ∙ ap₂ (λ (u v : List ℕ). row (code "l") u ++ row_lines (code "l") (drop (k + 1) (take n lengths)) v)
    (sym (ap (λ (j : ℕ). take j (drop a loops)) cut ∙ take_min m (drop a loops))) (sym past)
