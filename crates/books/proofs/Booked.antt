-- What holds of the definitions of proofs/BookedBase.antt.
use Rattle.std.specs.Prelude.{ℕ, ◌+◌, ◌<◌, ◌≤◌, List, [], ◌∷◌, ◌++◌, ◌≡◌, refl, true, length, get_or, Float}
use Rattle.std.proofs.Math.Path.{sym}
use Rattle.std.proofs.Common.{◌∙◌, ap, add-zero, add-one, take-suc, length-take-le, eq-eqb}
use Rattle.std.proofs.Math.Option.{some}
use native.Mathlib.Omega.{arith}
use Rattle.std.proofs.Math.ListN.{take}
use Rattle.std.specs.Float.{nan}
use Rattle.outline.specs.Outline.{Outline}
use Rattle.topology.specs.Sums.{front_sum}
use Rattle.topology.specs.Links.{at, at_other}
use Rattle.topology.proofs.Changes.{removed_sum, added_sum}
use Rattle.topology.proofs.PlacingBase.{Kind, reused, fresh, off_if, on_if, placing, new_nodes, ByKind}
use Rattle.front.specs.declared.Corner.{Corner}
use Rattle.front.specs.declared.Corner.TheVariants.{Reused, Fresh}
use Rattle.front.specs.State.{State, node_places}
use Rattle.front.specs.Place.{id_c, id_d}
use Rattle.front.specs.Sound.{Sound, Frame}
use Rattle.front.proofs.FrameLaws.{frame_trans}
use Rattle.paving.specs.Reach.{Placement}
use Rattle.books.specs.Book.{edge, Book, book, has, without, comes_off, new_node, side, Quad, quad_at, book_quad}
use Rattle.books.proofs.Matches.{edges_sum, Matches}
use Rattle.books.proofs.BookBase.{frame_quad, has_edge_lem, has_none, without_sum}
use Rattle.front.proofs.Moved.{kind_of}
use Rattle.front.proofs.Sides.{new_added, Sides, sides}
use Rattle.books.proofs.Answered.{answered}
use Rattle.books.proofs.Step.{Stepped}
use Rattle.books.proofs.BookedBase.{BookStep}

-- ---- the nodes

-- one node more
take_more : (n : ℕ) (l : List Float) → n + 1 ≤ length l → take n l ++ get_or l n nan ∷ [] ≡ take (n + 1) l
take_more n l h = rw add-one (sym (take-suc l n nan (omega arith)))

-- ---- a side

-- what a side of the quad does to the book b, which has the first m nodes: u to v comes off, or node id is new and v to u goes on
record Sided (k : Kind) (final : State) (id u v m : ℕ) (b : Book) : Type 0 where
  book : Book
  through : side final id (edge u v) (edge v u) b ≡ some book
  xs : book.xs ≡ take (m + new_nodes k) final.xs
  ys : book.ys ≡ take (m + new_nodes k) final.ys
  sums : (w : ℕ → ℕ → ℕ) → edges_sum w book.front + removed_sum w (off_if k u v []) ≡ edges_sum w b.front + added_sum w (on_if k v u [])

sided : (k : Kind) (final : State) (id u v m : ℕ) (b : Book) → b.xs ≡ take m final.xs → b.ys ≡ take m final.ys
    → m + new_nodes k ≤ length final.xs → m + new_nodes k ≤ length final.ys
    → ByKind k (0 < edges_sum (at u v) b.front) (edges_sum (at u v) b.front ≡ 0) → ByKind k (Unit {0}) (id ≡ m)
    → Sided k final id u v m b
unfolding side comes_off new_node edges_sum
sided reused final id u v m b ex ey lx ly h i =
    let there = has_edge_lem u v b.front h in
    record {
      book = book b.xs b.ys (without (edge u v) b.front);
      through = rw there;
      xs = rw add-zero ex;
      ys = rw add-zero ey;
      sums = λ w. omega (arith, without_sum w u v b.front there);
    }
sided fresh final id u v m b ex ey lx ly h i =
    let none = has_none u v b.front h in
    let next = eq-eqb id (length b.xs) (i ∙ sym (ap length ex ∙ length-take-le m final.xs (omega arith))) in
    record {
      book = book (b.xs ++ get_or final.xs id nan ∷ []) (b.ys ++ get_or final.ys id nan ∷ []) (edge v u ∷ b.front);
      through = rw (none, next);
      xs = rw (ex, i) (take_more m final.xs lx);
      ys = rw (ey, i) (take_more m final.ys ly);
      sums = λ w. omega arith;
    }

-- the changes of the front, side by side
removed_sides : (kc kd : Kind) (w : ℕ → ℕ → ℕ) (a b c d : ℕ)
    → removed_sum w (placing kc kd a b c d) ≡ w a b + removed_sum w (off_if kc c a []) + removed_sum w (off_if kd b d [])
removed_sides reused reused w a b c d = omega arith
removed_sides reused fresh w a b c d = omega arith
removed_sides fresh reused w a b c d = omega arith
removed_sides fresh fresh w a b c d = omega arith

added_sides : (kc kd : Kind) (w : ℕ → ℕ → ℕ) (a b c d : ℕ)
    → added_sum w (placing kc kd a b c d) ≡ w c d + added_sum w (on_if kc a c []) + added_sum w (on_if kd d b [])
added_sides reused reused w a b c d = omega arith
added_sides reused fresh w a b c d = omega arith
added_sides fresh reused w a b c d = omega arith
added_sides fresh fresh w a b c d = omega arith

-- counts that agree
by_count : (k : Kind) (x y : ℕ) → x ≡ y → ByKind k (0 < y) (y ≡ 0) → ByKind k (0 < x) (x ≡ 0)
by_count reused x y e h = omega arith
by_count fresh x y e h = e ∙ h

-- a weight that is 0 at an edge is 0 whether the edge comes off or goes on
removed_zero : (k : Kind) (w : ℕ → ℕ → ℕ) (u v : ℕ) → w u v ≡ 0 → removed_sum w (off_if k u v []) ≡ 0
removed_zero reused w u v e = omega arith
removed_zero fresh w u v e = refl

added_zero : (k : Kind) (w : ℕ → ℕ → ℕ) (u v : ℕ) → w u v ≡ 0 → added_sum w (on_if k u v []) ≡ 0
added_zero reused w u v e = refl
added_zero fresh w u v e = omega arith

-- a new corner is the next node
next_c : (s : State) (c : Corner) → ByKind (kind_of c) (Unit {0}) (id_c s c ≡ s.counts.nodes)
next_c s (Reused id) = tt
next_c s (Fresh x y) = refl

next_d : (s : State) (c d : Corner) → ByKind (kind_of d) (Unit {0}) (id_d s c d ≡ s.counts.nodes + new_nodes (kind_of c))
next_d s c (Reused id) = tt
next_d s c (Fresh x y) = ap (λ (k : ℕ). s.counts.nodes + k) (sym (new_added c))

-- ---- the theorem

module _ (n : ℕ) (s : State) (ls : List (List ℕ)) (a b : ℕ) (c d : Corner) (t final : State)
    (X : Sides s ls a b c d) (Y : Stepped n s ls a b c d t) (F : Frame t final) (B : Book) (M : Matches s ls B) where
  abbrev N : ℕ
  N = s.counts.nodes

  -- how many nodes are there in the end
  count : t.counts.nodes ≡ N + new_nodes (kind_of c) + new_nodes (kind_of d)
  count = omega (arith, Y.nodes, new_added c, new_added d)

  long_xs : t.counts.nodes ≤ length final.xs
  unfolding node_places
  long_xs = omega (arith, Y.sound.nodes_fit, F.xs.long)

  long_ys : t.counts.nodes ≤ length final.ys
  unfolding node_places
  long_ys = omega (arith, Y.sound.nodes_fit, F.ys.long)

  there : has (edge a b) B.front ≡ true
  there = has_edge_lem a b B.front (rw (M.sums (at a b)) X.side_ab)

  -- a to b comes off
  abbrev bare : Book
  bare = book B.xs B.ys (without (edge a b) B.front)

  bare_sum : (w : ℕ → ℕ → ℕ) → edges_sum w bare.front + w a b ≡ front_sum w ls
  bare_sum w = without_sum w a b B.front there ∙ M.sums w

  -- then c
  at_c : Sided (kind_of c) final (id_c s c) (id_c s c) a N bare
  at_c =
      let G = frame_trans s t final Y.frame F in
      sided (kind_of c) final (id_c s c) (id_c s c) a N bare (sym M.xs ∙ sym G.xs.before) (sym M.ys ∙ sym G.ys.before)
      (omega (arith, long_xs, count)) (omega (arith, long_ys, count))
      (by_count (kind_of c) _ (front_sum (at (id_c s c) a) ls)
      (omega (arith, bare_sum (at (id_c s c) a), at_other (id_c s c) a a b X.ac)) X.side_ca)
      (next_c s c)

  -- then d
  at_d : Sided (kind_of d) final (id_d s c d) b (id_d s c d) (N + new_nodes (kind_of c)) at_c.book
  at_d =
      let C = id_c s c in
      let D = id_d s c d in
      let w = at b D in
      sided (kind_of d) final D b D (N + new_nodes (kind_of c)) at_c.book at_c.xs at_c.ys
      (omega (arith, long_xs, count)) (omega (arith, long_ys, count))
      (by_count (kind_of d) _ (front_sum w ls)
      (omega (
        arith,
        at_c.sums w,
        bare_sum w,
        at_other b D a b X.ab,
        removed_zero (kind_of c) w C a (at_other b D C a (λ e. X.bc (sym e))),
        added_zero (kind_of c) w a C (at_other b D a C X.ab),
      )) X.side_bd)
      (next_d s c d)

  -- last, c to d goes on
  abbrev after : Book
  after = book at_d.book.xs at_d.book.ys (edge (id_c s c) (id_d s c d) ∷ at_d.book.front)

  through : book_quad final (record { a = a; b = b; d = id_d s c d; c = id_c s c }) B ≡ some after
  unfolding book_quad comes_off
  through = rw (there, at_c.through, at_d.through)

  matches : Matches t Y.loops after
  unfolding edges_sum
  matches =
      let kc = kind_of c in
      let kd = kind_of d in
      let C = id_c s c in
      let D = id_d s c d in
      record {
        xs = sym F.xs.before ∙ (ap (λ (k : ℕ). take k final.xs) count ∙ sym at_d.xs);
        ys = sym F.ys.before ∙ (ap (λ (k : ℕ). take k final.ys) count ∙ sym at_d.ys);
        sums = λ w.
            omega (
              arith,
              Y.sums w,
              bare_sum w,
              at_c.sums w,
              at_d.sums w,
              removed_sides kc kd w a b C D,
              added_sides kc kd w a b C D,
            );
      }

-- the book of a sound state takes the step of a quad placed there, whichever later state of the run answers it
pub booked : (n : ℕ) (s : State) (ls : List (List ℕ)) (o : Outline) (size : Float) (a b : ℕ) (c d : Corner) (t final : State)
    → Sound n s ls → Placement o size s a b c d → (Y : Stepped n s ls a b c d t) → Frame t final → (B : Book) → Matches s ls B
    → BookStep final (quad_at final s.counts.quads) B t Y.loops
booked n s ls o size a b c d t final S P Y F B M =
    let X = sides n s ls S a b c d (answered o size s a b c d P).choice in
    record {
      book = after n s ls a b c d t final X Y F B M;
      through =
          ap (λ (q : Quad). book_quad final q B) (frame_quad t final F s.counts.quads (omega (arith, Y.quads)) ∙ Y.quad)
          ∙ through n s ls a b c d t final X Y F B M;
      matches = matches n s ls a b c d t final X Y F B M;
    }
