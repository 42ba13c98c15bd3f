-- How long a listing is at most, whatever the lists hold, and what a buffer with room for it holds.
use Rattle.std.specs.Prelude.{◌≡◌, refl, Bool, true, false, cond, List, [], ◌∷◌, ◌++◌, ltb, Float, length, take, drop, replicate, Result, Ok, Err}
use Rattle.std.proofs.Common.{ap, ◌∙◌, length-drop}
use Prim.Native.Nat.{ℕ, zero, suc, ◌+◌, ◌*◌, ◌/◌, ◌%◌, ◌≤◌, min}
use Prim.Native.Char.{code}
use native.Mathlib.Omega.{arith}
use Rattle.std.specs.Float.{binary64}
use Rattle.std.specs.Float.Ieee.{to_bits}
use Rattle.std.proofs.Math.ListN.{length-append, length-take}
use Rattle.std.proofs.lemmas.List.{length-replicate}
use Rattle.std.proofs.Math.Seq.{take-append_seam}
use Rattle.listing.specs.declared.Heading.{Heading}
use Rattle.listing.specs.Listing.{decimal_of, decimal, hex_of, hex_bits, spaced, row, row_lines, node_line, node_lines, quad_lines, loop_lines}
use Rattle.listing.specs.Listing.{end_word, whole_word, head_line, refused_listing, mesh_listing, listing}
use Rattle.listing.specs.Buffer.{Buffer, buffer, buffer_written}
use Rattle.listing.proofs.BufferLaws.{written_whole}

-- ---- numbers

decimal_digits : (n v : ℕ) → length (decimal_of n v) ≤ n
unfolding decimal_of
decimal_digits zero v = omega arith
decimal_digits (suc n) v = pick (decimal_digits n (v / 10)) (ltb v 10)
  where
    pick : length (decimal_of n (v / 10)) ≤ n → (b : Bool)
        → length (cond b ((code "0" + v) ∷ []) (decimal_of n (v / 10) ++ (code "0" + v % 10) ∷ [])) ≤ suc n
    pick h true = omega arith
    pick h false = rw length-append (omega arith)

decimal_length : (v : ℕ) → length (decimal v) ≤ 20
unfolding decimal
decimal_length v = decimal_digits 20 v

hex_digits : (n v : ℕ) → length (hex_of n v) ≡ n
unfolding hex_of
hex_digits zero v = refl
hex_digits (suc n) v = rw length-append (omega (arith, hex_digits n (v / 16)))

-- ---- lines

spaced_length : (l : List ℕ) → length (spaced l) ≤ 21 * length l
unfolding spaced
spaced_length [] = omega arith
spaced_length (v ∷ l) = rw length-append (omega (arith, decimal_length v, spaced_length l))

rows_length : (letter : ℕ) (ns ids : List ℕ) → length (row_lines letter ns ids) ≤ 2 * length ns + 21 * length ids
unfolding row_lines row
rows_length letter [] ids = omega arith
rows_length letter (n ∷ ns) ids =
    simp length-append
    (omega (arith, spaced_length (take n ids), rows_length letter ns (drop n ids), length-take n ids, length-drop n ids))

node_length : (x y : Float) → length (node_line x y) ≡ 36
unfolding node_line hex_bits
node_length x y = simp length-append (omega (arith, hex_digits 16 (to_bits binary64 x), hex_digits 16 (to_bits binary64 y)))

nodes_length : (xs ys : List Float) → length (node_lines xs ys) ≤ 36 * length xs
unfolding node_lines
nodes_length [] ys = omega arith
nodes_length (x ∷ xs) [] = omega arith
nodes_length (x ∷ xs) (y ∷ ys) = rw length-append (omega (arith, node_length x y, nodes_length xs ys))

quads_length : (n : ℕ) (quads : List ℕ) → length (quad_lines n quads) ≤ 22 * length quads
unfolding quad_lines
quads_length n quads =
    let count : ℕ = min n (length quads / 4) in
    omega (arith, rows_length (code "q") (replicate count 4) quads, length-replicate {A = ℕ} count 4)

-- ---- the first line

end_length : (n : ℕ) → length (end_word n) ≤ 7
unfolding end_word
end_length zero = omega arith
end_length (suc zero) = omega arith
end_length (suc (suc zero)) = omega arith
end_length (suc (suc (suc n))) = omega arith

whole_length : (whole : Bool) → length (whole_word whole) ≤ 6
unfolding whole_word
whole_length true = omega arith
whole_length false = omega arith

head_length_lem : (h : Heading) → length (head_line h) ≤ 81
unfolding head_line
head_length_lem h =
    simp length-append (omega (arith, spaced_length (h.nodes ∷ h.quads ∷ h.front ∷ []), end_length h.end, whole_length h.whole))

-- ---- the listing

refused_length : (n : ℕ) → length (refused_listing n) ≤ 29
unfolding refused_listing
refused_length n = rw length-append (omega (arith, spaced_length (n ∷ [])))

module _ (h : Heading) (xs ys : List Float) (quads loops lengths : List ℕ) where
  mesh_length : length (mesh_listing h xs ys quads loops lengths)
      ≤ 81 + 36 * length xs + 22 * length quads + (2 * length lengths + 21 * length loops)
  unfolding mesh_listing loop_lines
  mesh_length =
      simp length-append
      (omega (
        arith,
        head_length_lem h,
        nodes_length (take h.nodes xs) (take h.nodes ys),
        length-take h.nodes xs,
        quads_length h.quads quads,
        rows_length (code "l") (take h.loops lengths) loops,
        length-take h.loops lengths,
      ))

  -- The program lends 800 nodes and 800 quads: no listing of its lists is longer than this.
  pub mesh_fits : length xs ≤ 800 → length quads ≤ 3200 → length loops ≤ 800 → length lengths ≤ 800
      → length (mesh_listing h xs ys quads loops lengths) ≤ 117681
  mesh_fits hx hq hl hn = omega (arith, mesh_length)

pub refused_fits : (n : ℕ) → length (refused_listing n) ≤ 117681
refused_fits n = omega (arith, refused_length n)

module _ (r : Result Heading ℕ) (xs ys : List Float) (quads loops lengths : List ℕ) where
  -- The same of both.
  pub listing_fits : length xs ≤ 800 → length quads ≤ 3200 → length loops ≤ 800 → length lengths ≤ 800
      → length (listing r xs ys quads loops lengths) ≤ 117681
  unfolding listing
  listing_fits = by r
    where
      by : (r : Result Heading ℕ) → length xs ≤ 800 → length quads ≤ 3200 → length loops ≤ 800 → length lengths ≤ 800
          → length (listing r xs ys quads loops lengths) ≤ 117681
      by (Ok h) hx hq hl hn = mesh_fits h xs ys quads loops lengths hx hq hl hn
      by (Err n) hx hq hl hn = refused_fits n

-- ---- the buffer

-- what was written stands in front
pub written_front : (l s t : List ℕ) (r : ℕ) → length l ≤ length s → buffer t r ≡ buffer_written l s → take r t ≡ l
written_front l s t r h e =
    ap (λ (b : Buffer). take b.used b.bytes) (e ∙ written_whole l s h) ∙ take-append_seam l (drop (length l) s)
