-- The walk, line by line.
use Rattle.std.specs.Prelude.{◌≡◌, ℕ, ◌+◌, ◌*◌, ◌≤◌, ◌<◌, true, false, List, [], ◌∷◌, ◌++◌, length, get_or, slice_range, slice_set, refl, Option, Some, None, Float}
use Rattle.std.proofs.Common.{arith, ap, sym, ◌∙◌, subst, set, length-append, append_assoc, append-nil, add-one}
use Rattle.laws.specs.Loop.{for_up}
use Rattle.points_reader.specs.declared.reading.Spot.{Spot}
use Rattle.points_reader.specs.declared.reading.Ended.{Ended}
use Rattle.points_reader.specs.declared.reading.Reader.{Reader}
use Rattle.points_reader.specs.Reading.{line_read, line_given, loop_ended, loop_given}
use Rattle.points_reader.specs.Walking.{Walk, new_walk, line_walked, walk_turn, walk_ended, walked, out_more, point_numbers, point_line, loop_length, loop_marks, is_end, is_second}
use Rattle.points_reader.specs.Counts.{Counted, IsNew}
use Rattle.points_reader.proofs.Even.{Even, even_none, even_line, counted_line, line_more}
use Rattle.points_reader.specs.Laid.{laid}
use Rattle.points_reader.proofs.Laying.{laid_more}
use Rattle.points_reader.specs.Puts.{put_point, put_line, put_length, put_marks}

-- ---- what is put on the lists

one_more : {A : Type 0} (l s : List A) (v : A) (n : ℕ) → length l ≡ n → slice_set (laid l s) n v ≡ laid (l ++ v ∷ []) s
one_more l s v n e = ap (λ (k : ℕ). set (laid l s) k v) (sym e) ∙ laid_more l s v

longer : {A : Type 0} (l : List A) (v : A) (n : ℕ) → length l ≡ n → length (l ++ v ∷ []) ≡ n + 1
longer l v n e = omega (arith, length-append l (v ∷ []), e)

none_more : {A : Type 0} (l s : List A) → laid l s ≡ laid (l ++ []) s
none_more l s = ap (λ t. laid t s) (sym (append-nil l))

pub points_put : (p : Option Spot) (at : ℕ) (l s : List Float) → length l ≡ 2 * at → put_point p at (laid l s) ≡ laid (l ++ point_numbers p) s
points_put None at l s e = none_more l s
points_put (Some q) at l s e =
    ap (λ (t : List Float). set t (2 * at + 1) q.y) (one_more l s q.x (2 * at) e)
    ∙ one_more (l ++ q.x ∷ []) s q.y (2 * at + 1) (longer l q.x (2 * at) e)
    ∙ ap (λ (t : List Float). laid t s) (simp append_assoc)

pub lines_put : (p : Option Spot) (at : ℕ) (l s : List ℕ) → length l ≡ at → put_line p at (laid l s) ≡ laid (l ++ point_line p) s
lines_put None at l s e = none_more l s
lines_put (Some q) at l s e = one_more l s q.line at e

pub lengths_put : (p : Option Ended) (at : ℕ) (l s : List ℕ) → length l ≡ at → put_length p at (laid l s) ≡ laid (l ++ loop_length p) s
lengths_put None at l s e = none_more l s
lengths_put (Some q) at l s e = one_more l s q.length at e

pub marks_put : (p : Option Ended) (at : ℕ) (l s : List ℕ) → length l ≡ 3 * at → put_marks p at (laid l s) ≡ laid (l ++ loop_marks p) s
marks_put None at l s e = none_more l s
marks_put (Some q) at l s e =
    let a = l ++ q.from ∷ [] in
    let f : length a ≡ 3 * at + 1 = longer l q.from (3 * at) e in
    let b = a ++ q.to ∷ [] in
    let g : length b ≡ 3 * at + 2 = omega (arith, longer a q.to (3 * at + 1) f) in
    ap (λ (t : List ℕ). set (set t (3 * at + 1) q.to) (3 * at + 2) q.left) (one_more l s q.from (3 * at) e)
    ∙ ap (λ (t : List ℕ). set t (3 * at + 2) q.left) (one_more a s q.to (3 * at + 1) f)
    ∙ one_more b s q.left (3 * at + 2) g
    ∙ ap (λ (t : List ℕ). laid t s) (simp append_assoc)

-- ---- what the code has

-- the walk w, on lists that were p, l, n and m before it
module _ (p : List Float) (l n m : List ℕ) where
  pub record Holds (w : Walk) (from : ℕ) (r : Reader) (points : List Float) (lines lengths marks : List ℕ) : Type 0 where
    pub from_is : from ≡ w.from
    pub reader : r ≡ w.reader
    pub points_are : points ≡ laid w.out.points p
    pub lines_are : lines ≡ laid w.out.lines l
    pub lengths_are : lengths ≡ laid w.out.lengths n
    pub marks_are : marks ≡ laid w.out.marks m
    pub counted : Counted w.reader
    pub even : Even w.reader w.out

  -- what is left of it at the end
  pub record Read (w : Walk) (r : Reader) (points : List Float) (lines lengths marks : List ℕ) : Type 0 where
    pub reader : r ≡ w.reader
    pub points_are : points ≡ laid w.out.points p
    pub lines_are : lines ≡ laid w.out.lines l
    pub lengths_are : lengths ≡ laid w.out.lengths n
    pub marks_are : marks ≡ laid w.out.marks m

  module _ {w : Walk} {from : ℕ} {r : Reader} {points : List Float} {lines lengths marks : List ℕ} (h : Holds w from r points lines lengths marks) where
    pub moved : (k : ℕ) → Holds (record w { from = k }) k r points lines lengths marks
    moved k = record {
      from_is = refl;
      reader = h.reader;
      points_are = h.points_are;
      lines_are = h.lines_are;
      lengths_are = h.lengths_are;
      marks_are = h.marks_are;
      counted = h.counted;
      even = h.even;
    }

    module _ {s : Reader} {points2 : List Float} {lines2 lengths2 marks2 : List ℕ} where
      -- a line read
      pub line_held : (separator : ℕ) (text : List ℕ) (to : ℕ)
          → s ≡ line_read separator (slice_range text from to) from r
          → points2 ≡ put_point (line_given separator (slice_range text from to) r).point r.points points
          → lines2 ≡ put_line (line_given separator (slice_range text from to) r).point r.points lines
          → lengths2 ≡ put_length (line_given separator (slice_range text from to) r).ended r.loops lengths
          → marks2 ≡ put_marks (line_given separator (slice_range text from to) r).ended r.loops marks
          → Holds (line_walked separator text to w) from s points2 lines2 lengths2 marks2
      unfolding line_walked out_more
      line_held separator text to e a b c d =
          let line = slice_range text w.from to in
          let g = line_given separator line w.reader in
          let f1 = points_put g.point w.reader.points w.out.points p h.even.points in
          let f2 = lines_put g.point w.reader.points w.out.lines l h.even.lines in
          let f3 = lengths_put g.ended w.reader.loops w.out.lengths n h.even.lengths in
          let f4 = marks_put g.ended w.reader.loops w.out.marks m h.even.marks in
          let e0 = rw (h.from_is, h.reader) at e in
          let a0 = rw (h.from_is, h.reader, h.points_are) at a in
          let b0 = rw (h.from_is, h.reader, h.lines_are) at b in
          let c0 = rw (h.from_is, h.reader, h.lengths_are) at c in
          let d0 = rw (h.from_is, h.reader, h.marks_are) at d in
          record {
            from_is = h.from_is;
            reader = e0;
            points_are = a0 ∙ f1;
            lines_are = b0 ∙ f2;
            lengths_are = c0 ∙ f3;
            marks_are = d0 ∙ f4;
            counted = counted_line separator line w.from h.counted;
            even = even_line separator line w.from h.even;
          }

      -- the last loop ended
      pub end_held : (separator : ℕ) (text : List ℕ) → s ≡ loop_ended r
          → points2 ≡ put_point (loop_given r).point r.points points
          → lines2 ≡ put_line (loop_given r).point r.points lines
          → lengths2 ≡ put_length (loop_given r).ended r.loops lengths
          → marks2 ≡ put_marks (loop_given r).ended r.loops marks
          → Read (record { from = w.from; reader = loop_ended w.reader; out = out_more (loop_given w.reader) w.out }) s points2 lines2 lengths2 marks2
      unfolding out_more
      end_held separator text e a b c d =
          let g = loop_given w.reader in
          let f1 = points_put g.point w.reader.points w.out.points p h.even.points in
          let f2 = lines_put g.point w.reader.points w.out.lines l h.even.lines in
          let f3 = lengths_put g.ended w.reader.loops w.out.lengths n h.even.lengths in
          let f4 = marks_put g.ended w.reader.loops w.out.marks m h.even.marks in
          let e0 = rw h.reader at e in
          let a0 = rw (h.reader, h.points_are) at a in
          let b0 = rw (h.reader, h.lines_are) at b in
          let c0 = rw (h.reader, h.lengths_are) at c in
          let d0 = rw (h.reader, h.marks_are) at d in
          record { reader = e0; points_are = a0 ∙ f1; lines_are = b0 ∙ f2; lengths_are = c0 ∙ f3; marks_are = d0 ∙ f4 }

-- ---- byte by byte

module _ (separator : ℕ) (text : List ℕ) (r0 : Reader) where
  abbrev pub walk_at : ℕ → Walk
  walk_at i = for_up i (walk_turn separator text) (new_walk r0)

  -- the invariant: i bytes have been read
  pub record Walked (p : List Float) (l n m : List ℕ) (i from : ℕ) (r : Reader) (points : List Float) (lines lengths marks : List ℕ) : Type 0 where
    pub within : i ≤ length text
    pub begun : from ≤ i
    pub line : r.line ≤ i
    pub holds : Holds p l n m (walk_at i) from r points lines lengths marks

  plain_turn : (i : ℕ) (w : Walk) → is_end (get_or text i 0) ≡ false → walk_turn separator text i w ≡ w
  unfolding walk_turn
  plain_turn i w e = rw e

  second_turn : (i : ℕ) (w : Walk) → is_end (get_or text i 0) ≡ true → is_second text i ≡ true → walk_turn separator text i w ≡ record w { from = i + 1 }
  unfolding walk_turn
  second_turn i w e f = rw (e, f)

  end_turn : (i : ℕ) (w : Walk) → is_end (get_or text i 0) ≡ true → is_second text i ≡ false
      → walk_turn separator text i w ≡ record (line_walked separator text i w) { from = i + 1 }
  unfolding walk_turn
  end_turn i w e f = rw (e, f)

  next_at : (i : ℕ) → walk_at (i + 1) ≡ walk_turn separator text i (walk_at i)
  unfolding for_up
  next_at i = rw add-one refl

  module _ {p : List Float} {l n m : List ℕ} {i from : ℕ} {r : Reader} {points : List Float} {lines lengths marks : List ℕ}
      (h : Walked p l n m i from r points lines lengths marks) (less : i < length text) where
    held : (v : Walk) (k : ℕ) → walk_turn separator text i (walk_at i) ≡ v → k ≤ i + 1 → Holds p l n m v k r points lines lengths marks
        → Walked p l n m (i + 1) k r points lines lengths marks
    held v k e b x = record {
      within = omega arith;
      begun = b;
      line = omega (arith, h.line);
      holds = subst (λ (u : Walk). Holds p l n m u k r points lines lengths marks) (sym (next_at i ∙ e)) x;
    }

    pub walked_plain : is_end (get_or text i 0) ≡ false → Walked p l n m (i + 1) from r points lines lengths marks
    walked_plain e = held (walk_at i) from (plain_turn i (walk_at i) e) (omega (arith, h.begun)) h.holds

    pub walked_second : is_end (get_or text i 0) ≡ true → is_second text i ≡ true → Walked p l n m (i + 1) (i + 1) r points lines lengths marks
    walked_second e f = held _ (i + 1) (second_turn i (walk_at i) e f) (omega arith) (moved p l n m h.holds (i + 1))

    module _ {s : Reader} {points2 : List Float} {lines2 lengths2 marks2 : List ℕ} where
      pub walked_line : is_end (get_or text i 0) ≡ true → is_second text i ≡ false
          → s ≡ line_read separator (slice_range text from i) from r
          → points2 ≡ put_point (line_given separator (slice_range text from i) r).point r.points points
          → lines2 ≡ put_line (line_given separator (slice_range text from i) r).point r.points lines
          → lengths2 ≡ put_length (line_given separator (slice_range text from i) r).ended r.loops lengths
          → marks2 ≡ put_marks (line_given separator (slice_range text from i) r).ended r.loops marks
          → Walked p l n m (i + 1) (i + 1) s points2 lines2 lengths2 marks2
      walked_line e f g a b c d =
          let x = moved p l n m (line_held p l n m h.holds separator text i g a b c d) (i + 1) in
          record {
            within = omega arith;
            begun = omega arith;
            line = omega (arith, h.line, ap (λ (u : Reader). u.line) g, line_more separator (slice_range text from i) from r);
            holds = subst (λ (u : Walk). Holds p l n m u (i + 1) s points2 lines2 lengths2 marks2) (sym (next_at i ∙ end_turn i (walk_at i) e f)) x;
          }

pub walked_none : (separator : ℕ) (text : List ℕ) (r : Reader) (points : List Float) (lines lengths marks : List ℕ) → IsNew r
    → Walked separator text r points lines lengths marks 0 0 r points lines lengths marks
unfolding for_up new_walk
walked_none separator text r points lines lengths marks e = record {
  within = omega arith;
  begun = omega arith;
  line = omega (arith, e.line);
  holds = record {
    from_is = refl;
    reader = refl;
    points_are = refl;
    lines_are = refl;
    lengths_are = refl;
    marks_are = refl;
    counted = record { points = omega (arith, e.points); here = omega (arith, e.here); loops = omega (arith, e.loops); faults = omega (arith, e.faults) };
    even = even_none e;
  };
}

-- ---- the end

module _ (separator : ℕ) (text : List ℕ) (r0 : Reader) (p : List Float) (l n m : List ℕ) where
  -- the walk behind the last line
  abbrev pub last_walk : Walk
  last_walk = line_walked separator text (length text) (walk_at separator text r0 (length text))

  module _ {i from : ℕ} {r : Reader} {points : List Float} {lines lengths marks : List ℕ}
      (h : Walked separator text r0 p l n m i from r points lines lengths marks) (end : length text ≤ i) where
    all : i ≡ length text
    all = omega (arith, h.within)

    pub last_held : {s : Reader} {points2 : List Float} {lines2 lengths2 marks2 : List ℕ}
        → s ≡ line_read separator (slice_range text from (length text)) from r
        → points2 ≡ put_point (line_given separator (slice_range text from (length text)) r).point r.points points
        → lines2 ≡ put_line (line_given separator (slice_range text from (length text)) r).point r.points lines
        → lengths2 ≡ put_length (line_given separator (slice_range text from (length text)) r).ended r.loops lengths
        → marks2 ≡ put_marks (line_given separator (slice_range text from (length text)) r).ended r.loops marks
        → Holds p l n m last_walk from s points2 lines2 lengths2 marks2
    last_held e a b c d =
        line_held p l n m (subst (λ (k : ℕ). Holds p l n m (walk_at separator text r0 k) from r points lines lengths marks) all h.holds) separator text
        (length text) e a b c d

  module _ {from : ℕ} {r : Reader} {points : List Float} {lines lengths marks : List ℕ} (h : Holds p l n m last_walk from r points lines lengths marks) where
    pub whole : {s : Reader} {points2 : List Float} {lines2 lengths2 marks2 : List ℕ} → s ≡ loop_ended r
        → points2 ≡ put_point (loop_given r).point r.points points
        → lines2 ≡ put_line (loop_given r).point r.points lines
        → lengths2 ≡ put_length (loop_given r).ended r.loops lengths
        → marks2 ≡ put_marks (loop_given r).ended r.loops marks
        → Read p l n m (walked separator text r0) s points2 lines2 lengths2 marks2
    unfolding walked walk_ended
    whole e a b c d = end_held p l n m h separator text e a b c d
