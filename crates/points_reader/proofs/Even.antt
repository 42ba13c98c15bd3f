-- What a walk keeps: the counts of the reader are those of what has been given, and pass no more than the lines.
use Rattle.std.specs.Prelude.{◌≡◌, ℕ, ◌+◌, ◌-◌, ◌*◌, ◌≤◌, Bool, true, false, cond, List, [], ◌∷◌, length, refl, Some, None, ◌==◌}
use Rattle.std.proofs.Common.{arith, length-append, get_or}
use Rattle.laws.specs.Loop.{for_up_keeps}
use Rattle.points_text.specs.declared.Place.{Place}
use Rattle.points_text.specs.declared.Told.{Told}
use Rattle.points_text.specs.declared.Told.TheVariants.{Blank, Comment, Heading, Point, Wrong as Faulty}
use Rattle.points_text.specs.Lines.{told_of}
use Rattle.points_reader.specs.declared.reading.Spot.{Spot}
use Rattle.points_reader.specs.declared.reading.Fault.{Fault}
use Rattle.points_reader.specs.declared.reading.Reader.{Reader}
use Rattle.points_reader.specs.Reading.{is_first, spot, no_remark, faulted, repeats, loop_ended, loop_given, nothing, remarked, point_taken, point_given, comment_taken, told_read, told_given, next_line, line_read, line_given}
use Rattle.points_reader.specs.Walking.{Output, no_output, out_more, Walk, new_walk, line_walked, walk_turn, walk_ended, walked, is_end, is_second}
use Rattle.points_reader.specs.Counts.{Counted, IsNew}

pub record Even (r : Reader) (o : Output) : Type 0 where
  pub points : length o.points ≡ 2 * r.points
  pub lines : length o.lines ≡ r.points
  pub lengths : length o.lengths ≡ r.loops
  pub marks : length o.marks ≡ 3 * r.loops

pub even_none : {r : Reader} → IsNew r → Even r no_output
even_none e = record { points = omega (arith, e.points); lines = omega (arith, e.points); lengths = omega (arith, e.loops); marks = omega (arith, e.loops) }

-- of counts that stay, and nothing given
same : {r : Reader} {o : Output} (s : Reader) → Even r o → s.points ≡ r.points → s.loops ≡ r.loops → Even s (out_more nothing o)
unfolding out_more
same {r} {o} s e p l = record {
  points = omega (arith, length-append o.points [], e.points);
  lines = omega (arith, length-append o.lines [], e.lines);
  lengths = omega (arith, length-append o.lengths [], e.lengths);
  marks = omega (arith, length-append o.marks [], e.marks);
}

-- a point more
pointed : {r : Reader} {o : Output} (s : Reader) (q : Spot) → Even r o → s.points ≡ r.points + 1 → s.loops ≡ r.loops
    → Even s (out_more (record { point = Some q; ended = None }) o)
unfolding out_more
pointed {r} {o} s q e p l = record {
  points = omega (arith, length-append o.points (q.x ∷ q.y ∷ []), e.points);
  lines = omega (arith, length-append o.lines (q.line ∷ []), e.lines);
  lengths = omega (arith, length-append o.lengths [], e.lengths);
  marks = omega (arith, length-append o.marks [], e.marks);
}

-- ---- how far a line takes the counts

pub record Steady (r s : Reader) : Type 0 where
  pub line : s.line ≡ r.line
  pub points : s.points ≤ r.points + 1
  pub here : s.here ≤ r.here + 1
  pub loops : s.loops ≤ r.loops + 1
  pub faults : s.faults ≤ r.faults + 1

steady_either : (b : Bool) (r s t : Reader) → Steady r s → Steady r t → Steady r (cond b s t)
steady_either true r s t x y = x
steady_either false r s t x y = y

at_most : (b : Bool) (n : ℕ) → cond b n (n + 1) ≤ n + 1
at_most true n = omega arith
at_most false n = omega arith

steady_loop : (r : Reader) → Steady r (loop_ended r)
unfolding loop_ended
steady_loop r =
    steady_either (r.here == 0) r _ _
    (record { line = refl; points = omega arith; here = omega arith; loops = omega arith; faults = omega arith })
    (record { line = refl; points = at_most (repeats r) r.points; here = omega arith; loops = omega arith; faults = omega arith })

steady_fault : (f : Fault) (r : Reader) → Steady r (faulted f r)
unfolding faulted
steady_fault f r = record { line = refl; points = omega arith; here = omega arith; loops = omega arith; faults = omega arith }

-- what a comment between two points changes
pub record Remarks (r s : Reader) : Type 0 where
  pub line : s.line ≡ r.line
  pub points : s.points ≡ r.points
  pub here : s.here ≡ r.here
  pub loops : s.loops ≡ r.loops
  pub faults : s.faults ≤ r.faults + 1

remarks_either : (b : Bool) (r s : Reader) → Remarks r s → Remarks r (cond b r s)
remarks_either true r s x = record { line = refl; points = refl; here = refl; loops = refl; faults = omega arith }
remarks_either false r s x = x

remarks_point : (r : Reader) → Remarks r (remarked r)
unfolding remarked faulted
remarks_point r = remarks_either (r.pending.line == 0) r _ (record { line = refl; points = refl; here = refl; loops = refl; faults = omega arith })

steady_point : (p : Place) (r : Reader) → Steady r (point_taken p r)
unfolding point_taken
steady_point p r =
    let m = remarks_point (record r { points = r.points + 1; here = r.here + 1; last = spot p.x p.y r.line }) in
    steady_either (r.here == 0) r _ _
    (record { line = refl; points = omega arith; here = omega arith; loops = omega arith; faults = omega arith })
    (record { line = m.line; points = omega (arith, m.points); here = omega (arith, m.here); loops = omega (arith, m.loops); faults = m.faults })

steady_same : (r : Reader) → Steady r r
steady_same r = record { line = refl; points = omega arith; here = omega arith; loops = omega arith; faults = omega arith }

steady_comment : (at n k : ℕ) (r : Reader) → Steady r (comment_taken at n k r)
unfolding comment_taken
steady_comment at n k r =
    steady_either (r.pending.line == 0) r _ _
    (record { line = refl; points = omega arith; here = omega arith; loops = omega arith; faults = omega arith })
    (steady_same r)

steady_told : (at n : ℕ) (t : Told) (r : Reader) → Steady r (told_read at n t r)
unfolding told_read
steady_told at n Blank r = steady_loop r
steady_told at n (Comment k) r = steady_comment at n k r
steady_told at n Heading r = record { line = refl; points = omega arith; here = omega arith; loops = omega arith; faults = omega arith }
steady_told at n (Point p) r = steady_point p r
steady_told at n (Faulty w) r = steady_fault _ r

pub line_more : (separator : ℕ) (line : List ℕ) (at : ℕ) (r : Reader) → (line_read separator line at r).line ≡ r.line + 1
unfolding line_read
line_more separator line at r = (steady_told at (length line) (told_of separator (is_first r) line) (next_line r)).line

pub counted_line : (separator : ℕ) (line : List ℕ) (at : ℕ) {r : Reader} → Counted r → Counted (line_read separator line at r)
unfolding line_read
counted_line separator line at {r} c =
    let s = steady_told at (length line) (told_of separator (is_first r) line) (next_line r) in
    record {
      points = omega (arith, s.points, s.line, c.points);
      here = omega (arith, s.here, s.line, c.here);
      loops = omega (arith, s.loops, s.line, c.loops);
      faults = omega (arith, s.faults, s.line, c.faults);
    }

-- ---- what has been given

even_loop_by : (z t : Bool) (r : Reader) (o : Output) → Even r o
    → Even (cond z (record r { pending = no_remark }) (record r { loops = r.loops + 1; points = cond t r.points (r.points + 1); here = 0; pending = no_remark }))
    (out_more (cond z nothing (record {
      point = cond t None (Some r.last);
      ended = Some (record { length = cond t (r.here - 1) r.here; from = r.name.from; to = r.name.to; left = cond t r.last.line 0 });
    })) o)
unfolding out_more
even_loop_by true t r o e = same _ e refl refl
even_loop_by false true r o e = record {
  points = omega (arith, length-append o.points [], e.points);
  lines = omega (arith, length-append o.lines [], e.lines);
  lengths = omega (arith, length-append o.lengths ((r.here - 1) ∷ []), e.lengths);
  marks = omega (arith, length-append o.marks (r.name.from ∷ r.name.to ∷ r.last.line ∷ []), e.marks);
}
even_loop_by false false r o e = record {
  points = omega (arith, length-append o.points (r.last.x ∷ r.last.y ∷ []), e.points);
  lines = omega (arith, length-append o.lines (r.last.line ∷ []), e.lines);
  lengths = omega (arith, length-append o.lengths (r.here ∷ []), e.lengths);
  marks = omega (arith, length-append o.marks (r.name.from ∷ r.name.to ∷ 0 ∷ []), e.marks);
}

pub even_loop : {r : Reader} {o : Output} → Even r o → Even (loop_ended r) (out_more (loop_given r) o)
unfolding loop_ended loop_given
even_loop {r} {o} e = even_loop_by (r.here == 0) (repeats r) r o e

even_point_by : (z : Bool) (r s t : Reader) (o : Output) → Even r o → s.points ≡ r.points → s.loops ≡ r.loops → t.points ≡ r.points + 1 → t.loops ≡ r.loops
    → Even (cond z s t) (out_more (cond z nothing (record { point = Some r.last; ended = None })) o)
even_point_by true r s t o e p l q m = same s e p l
even_point_by false r s t o e p l q m = pointed t r.last e q m

even_point : (p : Place) {r : Reader} {o : Output} → Even r o → Even (point_taken p r) (out_more (point_given r) o)
unfolding point_taken point_given
even_point p {r} {o} e =
    let m = remarks_point (record r { points = r.points + 1; here = r.here + 1; last = spot p.x p.y r.line }) in
    even_point_by (r.here == 0) r _ _ o e refl refl m.points m.loops

even_comment_by : (z : Bool) (r s : Reader) (o : Output) → Even r o → s.points ≡ r.points → s.loops ≡ r.loops → Even (cond z s r) (out_more nothing o)
even_comment_by true r s o e p l = same s e p l
even_comment_by false r s o e p l = same r e refl refl

even_told : (at n : ℕ) (t : Told) {r : Reader} {o : Output} → Even r o → Even (told_read at n t r) (out_more (told_given t r) o)
unfolding told_read told_given comment_taken faulted
even_told at n Blank e = even_loop e
even_told at n (Comment k) {r} {o} e = even_comment_by (r.pending.line == 0) r _ o e refl refl
even_told at n Heading e = same _ e refl refl
even_told at n (Point p) e = even_point p e
even_told at n (Faulty w) e = same _ e refl refl

pub even_line : (separator : ℕ) (line : List ℕ) (at : ℕ) {r : Reader} {o : Output} → Even r o
    → Even (line_read separator line at r) (out_more (line_given separator line r) o)
unfolding line_read line_given
even_line separator line at {r} {o} e =
    let next : Even (next_line r) o = record { points = e.points; lines = e.lines; lengths = e.lengths; marks = e.marks } in
    even_told at (length line) (told_of separator (is_first r) line) next

-- ---- the walk

abbrev EvenWalk : Walk → Type 0
EvenWalk w = Even w.reader w.out

even_either : (b : Bool) (v w : Walk) → EvenWalk v → EvenWalk w → EvenWalk (cond b v w)
even_either true v w e f = e
even_either false v w e f = f

even_walked_line : (separator : ℕ) (text : List ℕ) (to : ℕ) (w : Walk) → EvenWalk w → EvenWalk (line_walked separator text to w)
unfolding line_walked
even_walked_line separator text to w e = even_line separator _ w.from e

even_turn : (separator : ℕ) (text : List ℕ) (i : ℕ) (w : Walk) → EvenWalk w → EvenWalk (walk_turn separator text i w)
unfolding walk_turn
even_turn separator text i w e =
    even_either (is_end (get_or text i 0)) _ w
    (even_either (is_second text i) (record w { from = i + 1 }) _ e (even_walked_line separator text i w e)) e

pub even_walk : (separator : ℕ) (text : List ℕ) (r : Reader) → IsNew r → Even (walked separator text r).reader (walked separator text r).out
unfolding walked walk_ended new_walk
even_walk separator text r new =
    even_loop (even_walked_line separator text (length text) _
    (for_up_keeps (λ i w. EvenWalk w) (length text) (walk_turn separator text) (new_walk r) (even_none new) (λ i w h e. even_turn separator text i w e)))
