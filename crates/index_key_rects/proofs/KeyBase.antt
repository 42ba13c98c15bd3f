-- Laws of shifted keys: they stay in order, no two move apart, and rectangles that overlap as keys meet as shifted keys.
use Rattle.std.specs.Prelude.{Bool, true, false, cond, ◌&&◌, ◌≡◌, ℕ, zero, suc, ◌+◌, ◌≤◌, min, max, leb, ℤ, pos, negsuc, ◌+ℤ◌, Float}
use Rattle.std.proofs.Common.{true≢false, sym, ap, ◌∙◌, arith, leb-true, leb-false, le-ltb}
use Rattle.std.proofs.Math.IntN.{pos-+ℤ-pos}
use Rattle.std.specs.Int.Signed.{le_z}
use Rattle.laws.specs.Tests.{both}
use Rattle.outline.specs.declared.Point.{Point}
use Rattle.geometry.specs.declared.Key.{Key}
use Rattle.geometry.specs.declared.Corners.{Corners}
use Rattle.geometry.specs.Keys.{gap, at_most, lesser, greater, spans_of, ranges_meet, rectangles_meet, near_keys, between}
use Rattle.geometry.specs.Keys.{key_of, edge_bucket, spans_kept, lowest, highest, is_in_box, in_box_at, is_candidate, candidate_at}
use Rattle.geometry.proofs.KeyLaws.{at_most_lem, abs_subℕ}
use Rattle.index_pools.specs.Pool.{InRect}
use Rattle.index_key_rects.specs.Rects.{shifted, rect_of, rect_at, rect_around, rect_empty, node_rect, edge_rect, Meets}

-- ---- what the code computes

pub shifted_low : (k : ℤ) → le_z k (negsuc 1048575) ≡ true → 2 ≡ shifted k
unfolding shifted
shifted_low (pos n) e = absurd (true≢false (sym e))
shifted_low (negsuc n) e = let h = leb-true 1048575 n e in omega arith

pub shifted_high : (k : ℤ) → le_z (pos 1048576) k ≡ true → 2097154 ≡ shifted k
unfolding shifted
shifted_high (pos n) e = let h = leb-true 1048576 n e in omega arith
shifted_high (negsuc n) e = absurd (true≢false (sym e))

pub shifted_mid : (k : ℤ) → le_z k (negsuc 1048575) ≡ false → le_z (pos 1048576) k ≡ false → k +ℤ pos 1048578 ≡ pos (shifted k)
unfolding shifted
shifted_mid (pos n) e f = let h = leb-false 1048576 n f in pos-+ℤ-pos n 1048578 ∙ ap pos (omega arith)
shifted_mid (negsuc n) e f = let h = leb-false 1048575 n e in rw (le-ltb 1048578 (suc n) (omega arith)) (ap pos (omega arith))

pub shifted_range : (k : ℤ) → (2 ≤ shifted k) × (shifted k ≤ 2097154)
unfolding shifted
shifted_range (pos n) = omega arith
shifted_range (negsuc n) = omega arith

-- ---- order and distance

in_order : (k l : ℤ) → le_z k l ≡ true → shifted k ≤ shifted l
unfolding shifted
in_order (pos a) (pos b) e = let h = leb-true a b e in omega arith
in_order (pos a) (negsuc b) e = absurd (true≢false (sym e))
in_order (negsuc a) (pos b) e = omega arith
in_order (negsuc a) (negsuc b) e = let h = leb-true b a e in omega arith

pub shifted_order : (k l : ℤ) → at_most k l ≡ true → shifted k ≤ shifted l
shifted_order k l e = in_order k l (at_most_lem k l ∙ e)

pub shifted_near : (k l : ℤ) → (shifted k ≤ shifted l + gap k l) × (shifted l ≤ shifted k + gap k l)
unfolding shifted
shifted_near (pos a) (pos zero) = omega arith
shifted_near (pos a) (pos (suc b)) = omega (arith, abs_subℕ a (suc b))
shifted_near (pos a) (negsuc b) = omega arith
shifted_near (negsuc a) (pos zero) = omega (arith, abs_subℕ zero (suc a))
shifted_near (negsuc a) (pos (suc b)) = omega arith
shifted_near (negsuc a) (negsuc b) = omega (arith, abs_subℕ (suc b) (suc a))

-- ---- rectangles that meet

-- a key within two of k each way
pub near_meets : (k l : Key) → near_keys k l ≡ true → Meets (rect_at l) (rect_around k)
unfolding near_keys rect_at rect_around
near_meets k l e =
    let halves = both (leb (spans_of k l).i 2) (leb (spans_of k l).j 2) e in
    let i = leb-true (gap k.i l.i) 2 halves.0 in
    let j = leb-true (gap k.j l.j) 2 halves.1 in
    let near_i = shifted_near k.i l.i in
    let near_j = shifted_near k.j l.j in
    record {
      i = shifted l.i;
      j = shifted l.j;
      first = record { left = omega arith; right = omega arith; low = omega arith; high = omega arith };
      second = record { left = omega arith; right = omega arith; low = omega arith; high = omega arith };
    }

-- a key from l to m
pub between_meets : (k l m : Key) → between k.i l.i m.i && between k.j l.j m.j ≡ true → Meets (rect_at k) (rect_of l m)
unfolding rect_at rect_of
between_meets k l m e =
    let halves = both (between k.i l.i m.i) (between k.j l.j m.j) e in
    let i = both (at_most l.i k.i) (at_most k.i m.i) halves.0 in
    let j = both (at_most l.j k.j) (at_most k.j m.j) halves.1 in
    let i_low = shifted_order l.i k.i i.0 in
    let i_high = shifted_order k.i m.i i.1 in
    let j_low = shifted_order l.j k.j j.0 in
    let j_high = shifted_order k.j m.j j.1 in
    record {
      i = shifted k.i;
      j = shifted k.j;
      first = record { left = omega arith; right = omega arith; low = omega arith; high = omega arith };
      second = record { left = omega arith; right = omega arith; low = omega arith; high = omega arith };
    }

least : (k l : ℤ) → min (shifted k) (shifted l) ≤ shifted (lesser k l)
least k l = by (at_most k l)
  where
    by : (b : Bool) → min (shifted k) (shifted l) ≤ shifted (cond b k l)
    by true = omega arith
    by false = omega arith

most : (k l : ℤ) → shifted (greater k l) ≤ max (shifted k) (shifted l)
most k l = by (at_most k l)
  where
    by : (b : Bool) → shifted (cond b l k) ≤ max (shifted k) (shifted l)
    by true = omega arith
    by false = omega arith

-- two ranges, either end first, that have a number in common
ranges_meet_lem : (k l m n : ℤ) → ranges_meet k l m n ≡ true
    → (min (shifted k) (shifted l) ≤ max (shifted m) (shifted n)) × (min (shifted m) (shifted n) ≤ max (shifted k) (shifted l))
unfolding ranges_meet
ranges_meet_lem k l m n e =
    let halves = both (at_most (lesser k l) (greater m n)) (at_most (lesser m n) (greater k l)) e in
    let below = shifted_order (lesser k l) (greater m n) halves.0 in
    let above = shifted_order (lesser m n) (greater k l) halves.1 in
    (omega (arith, least k l, most m n), omega (arith, least m n, most k l))

-- two key rectangles that overlap
pub rectangles_meet_lem : (k l m n : Key) → rectangles_meet k l m n ≡ true → Meets (rect_of m n) (rect_of k l)
unfolding rectangles_meet rect_of
rectangles_meet_lem k l m n e =
    let halves = both (ranges_meet k.i l.i m.i n.i) (ranges_meet k.j l.j m.j n.j) e in
    let i = ranges_meet_lem k.i l.i m.i n.i halves.0 in
    let j = ranges_meet_lem k.j l.j m.j n.j halves.1 in
    record {
      i = max (min (shifted k.i) (shifted l.i)) (min (shifted m.i) (shifted n.i));
      j = max (min (shifted k.j) (shifted l.j)) (min (shifted m.j) (shifted n.j));
      first = record { left = omega arith; right = omega arith; low = omega arith; high = omega arith };
      second = record { left = omega arith; right = omega arith; low = omega arith; high = omega arith };
    }

-- no key lies in the empty rectangle
pub empty_none : (i j : ℕ) → InRect rect_empty i j → ⊥
unfolding rect_empty
empty_none i j w = omega (arith, w.left, w.right)

-- ---- what the paving's queries look for

-- a node in a quad's key rectangle
pub box_meets : (size : Float) (p : Corners) (q : Point) → is_in_box size p q ≡ true
    → Meets (node_rect size q) (rect_of (key_of size (lowest p)) (key_of size (highest p)))
unfolding is_in_box in_box_at node_rect
box_meets size p q e = between_meets (key_of size q) (key_of size (lowest p)) (key_of size (highest p)) e

-- a candidate for the edge a to b
pub candidate_meets : (size : Float) (a b c d : Point) → is_candidate size a b c d ≡ true → Meets (edge_rect size c d) (edge_rect size a b)
unfolding is_candidate candidate_at edge_rect
candidate_meets size a b c d e =
    let key = key_of (edge_bucket size) in
    let query = both (spans_kept (key a) (key b)) _ e in
    let halves = both (spans_kept (key c) (key d)) (rectangles_meet (key a) (key b) (key c) (key d)) query.1 in
    rw (query.0, halves.0) (rectangles_meet_lem (key a) (key b) (key c) (key d) halves.1)

-- an edge from c that is filed
pub end_meets : (size : Float) (c d : Point) → spans_kept (key_of (edge_bucket size) c) (key_of (edge_bucket size) d) ≡ true
    → Meets (edge_rect size c d) (rect_at (key_of (edge_bucket size) c))
unfolding edge_rect rect_of rect_at
end_meets size c d e =
    let k = key_of (edge_bucket size) c in
    rw e
    (record {
      i = shifted k.i;
      j = shifted k.j;
      first = record { left = omega arith; right = omega arith; low = omega arith; high = omega arith };
      second = record { left = omega arith; right = omega arith; low = omega arith; high = omega arith };
    })
