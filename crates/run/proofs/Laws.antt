-- Laws of the run: what each stage asks follows from the refusals, the stages make up the definition, and what a caller gets.
use Rattle.std.specs.Prelude.{Bool, true, false, cond, ◌≡◌, ℕ, ◌*◌, ◌/◌, ◌≤◌, min, T, ltb, take, Float, Result, Ok, Err, IfOk, OnErr, IsOk}
use mathlib.Core.List.{List, [], ◌++◌, map, flatten}
use Rattle.std.proofs.Math.Path.{refl, ap, subst⁻¹, fun_ext}
use Rattle.std.proofs.Common.{sym, ◌∙◌, arith, ltb-false, length-take-le}
use Rattle.std.proofs.Math.ListN.{length, drop, length-map}
use Rattle.std.proofs.Math.Seq.{take-append_seam}
use Rattle.std.specs.Float.{binary64}
use Rattle.std.specs.Float.Ieee.{fits}
use Rattle.laws.specs.Loop.{run}
use Rattle.laws.specs.Overlay.{overlay}
use Rattle.outline.specs.declared.Settings.{Settings}
use Rattle.outline.specs.Outline.{Outline, first_of}
use Rattle.outline.specs.Accepted.{OutlineFits, first_zero}
use Rattle.outline.proofs.RefusalLaws.{answer_refused}
use Rattle.outline_blocks.specs.Blocks.{Drawn}
use Rattle.field_direction.specs.declared.Grid.{Grid}
use Rattle.field_direction.specs.Record.{grid_nodes, FieldLists, FieldRecord, field_record}
use Rattle.field_direction.specs.Cells as field-places
use Rattle.field_direction.specs.Direction.{nearest_direction}
use Rattle.field_cross.specs.Grid.{bounds, grid_of}
use Rattle.field_cross.specs.Field.{field_places, refusal_for, field_refusal, field_of}
use Rattle.field_cross.proofs.FieldLaws.{field_unrefused, few_made, grid_sides}
use Rattle.topology.specs.LongLoops.{none_listed}
use Rattle.outline_sound.specs.Whole.{is_whole}
use Rattle.outline_soundness.specs.WalkLaws.{whole_means}
use Rattle.front.specs.State.{State, state_of, fewest, most_nodes, node_places, edge_places}
use Rattle.front.specs.Sampling.{loop_count, sampled_refusal, front_refusal, from_boundary}
use Rattle.paving.specs.Attempt.{try_toward, try_edge}
use Rattle.paving.specs.Advance.{Passed, passing, pass_turn, after_pass, with_snapshot, pass, most_passes, all_used, advance}
use Rattle.paving.specs.Advance as paving
use Rattle.paving.specs.Loops.{front_loops}
use Rattle.run_whole.specs.Run.{run_refusal, WholeRun, run_of}
use Rattle.front_loop_list.specs.Listed.{Lists, written, listed_in}
use Rattle.front_loop_list.specs.ListedLaws.{listed_front}
use Rattle.books.specs.Book.{Book, quad_at, new_node, side, book_quad, book_after, quads_area}
use Rattle.books.specs.Points.{quads_round}
use Rattle.books.specs.Net.{quads_edges}
use Rattle.books.specs.Holds.{BooksHold, Closes, LoopsAnswered}
use Rattle.books_hold.specs.Runs.{accepted_run_lem}
use Rattle.books_hold.proofs.Theorem.{books_hold}
use Rattle.run_origins.specs.Origins.{origins_after}
use Rattle.run_origins.proofs.Writing.{booked_answered}
use Rattle.run_refusal.specs.Lengths.{lengths_refusal}
use Rattle.run_sampled_advance.specs.Asked.{CanPave}
use Rattle.run.specs.declared.Paved.{Paved}
use Rattle.run.specs.Run.{Lent, Ran, ran, lent, drawn_and_paved, field_part, state_part, snapshot_places, other_snapshot, narrowed, broadened}
use Rattle.run.specs.Run.{paved_answer, refusal_of, accepted_in, accepted_run, run_answer, PavesBooks, PavesOrigins, Paves}
use Rattle.run.proofs.Asked.{CanRun}

-- ---- a paving doesn't read the field's marks

module _ (o : Outline) (size : Float) (g : Grid) (values : List Float) (marks other : List ℕ) where
  turn_unread : pass_turn o size (field_record g values marks) ≡ pass_turn o size (field_record g values other)
  unfolding pass_turn try_edge try_toward nearest_direction
  turn_unread = fun_ext (λ a. fun_ext (λ p. refl))

  pass_unread : pass o size (field_record g values marks) ≡ pass o size (field_record g values other)
  unfolding pass
  pass_unread = fun_ext (λ s. ap (λ turn. run s.counts.nodes turn after_pass (passing (with_snapshot s) false)) turn_unread)

  advance_unread : (n : ℕ) (s : State) → advance o size (field_record g values marks) n s ≡ advance o size (field_record g values other) n s
  unfolding advance
  advance_unread n s = ap (λ (p : State → Passed). run (min n most_passes) (λ k. p) all_used s) pass_unread

-- ---- what sampling and paving ask

halves : (n floats bytes : ℕ) → n ≤ min (floats / 2) bytes → 2 * n ≤ floats
halves n floats bytes h = omega arith

module _ (o : Outline) (set : Settings) (f : FieldLists) (lent : State) (none : run_refusal o set f lent ≡ 0) where
  pub none_field : field_refusal o set.size set.sweeps f ≡ 0
  unfolding run_refusal
  none_field = (first_zero _ _ none).0

  pub none_front : front_refusal o set.size lent ≡ 0
  unfolding run_refusal
  none_front = (first_zero (field_refusal o set.size set.sweeps f) (front_refusal o set.size lent) none).1

  pub none_for : refusal_for o set.size set.sweeps (field_places f) ≡ 0
  unfolding field_refusal
  none_for = none_field

  lent_made : OutlineFits o → T (fits binary64 set.size) → field-places.FieldLent (grid_of (bounds o) set.size) f.values
  lent_made doubles held =
      let u = field_unrefused o set.size set.sweeps (field_places f) none_for in
      let two = grid_sides (bounds o) set.size in
      record {
        columns = two.0;
        rows = two.1;
        few = few_made o set.size set.sweeps (field_places f) doubles held none_for refl;
        room = halves (grid_nodes (grid_of (bounds o) set.size)) (length f.values) (length f.marks) u.room;
      }

  pub can_pave : T (fits binary64 set.size) → (g : Grid) (values : List Float) (marks : List ℕ)
      → field_record g values marks ≡ field_of o set.size set.sweeps f → length values ≡ length f.values
      → (blocks : List ℕ) → Drawn o blocks → CanPave o blocks set.size g values lent
  unfolding field_of
  can_pave held g values marks e long blocks D =
      let L = lent_made D.fits held in
      let same : g ≡ grid_of (bounds o) set.size = ap (λ (r : FieldRecord). r.grid) e in
      record {
        drawn = D;
        front = none_front;
        field = rw same (record { columns = L.columns; rows = L.rows; few = L.few; room = rw long L.room });
      }

-- ---- the books don't read the snapshot

module _ (o : Outline) (size : Float) (s : State) (snapshot : List ℕ) where
  books_unread : BooksHold o size s
      → BooksHold o size (state_of s.xs s.ys s.next s.prev snapshot s.quads s.edges s.counts)
  unfolding book_after book_quad side new_node quad_at quads_edges quads_area quads_round front_loops
  books_unread B =
      record {
        each =
            λ k h.
            let H = B.each k h in
            record { book = H.book; steps = H.steps; edges = H.edges; areas = H.areas; quads = H.quads; covers = H.covers; points = H.points; loops = H.loops; counts = H.counts };
        closes =
            λ b e.
            let C = B.closes b e in
            record { xs = C.xs; ys = C.ys; front = C.front; nodes = C.nodes; edges = C.edges; loops = C.loops };
      }

-- ---- what is answered of the loops

-- what `front_loops` writes, and the numbers that it answers
module _ (o : Outline) (s : State) (marks loops lengths : List ℕ) (p : Lists)
    (e : p ≡ listed_in s.counts s.next marks loops lengths) where
  loops_answered : (b : Book) → Closes o s b
      → LoopsAnswered o b p.listed.count p.listed.ids p.loops p.lengths (is_whole o p.listed.count)
  unfolding written overlay
  loops_answered b C =
      let ms = front_loops s in
      let n = length-map ms length in
      rw (e ∙ listed_front s marks loops lengths)
      (record {
        listed = ms;
        long = C.loops;
        count = refl;
        ids = refl;
        nodes = take-append_seam (flatten ms) _;
        each = rw (← n) (take-append_seam (map length ms) _);
        whole = λ L. whole_means o (length ms) (none_listed L.loops ms L.even (C.loops L));
      })

-- ---- the stages make up the run

-- the field and the paving
pub run_made : (o : Outline) (set : Settings) (f : FieldLists) (lent : State) (g : Grid) (values : List Float) (marks : List ℕ)
    → field_record g values marks ≡ field_of o set.size set.sweeps f
    → (a : paving.EndedPaving) → a ≡ advance o set.size (field_record g values []) set.passes (from_boundary o set.size lent)
    → drawn_and_paved (field_record g values marks) a ≡ run_of o set f lent
unfolding run_of
run_made o set f lent g values marks ef a ea =
    rw (← ef, advance_unread o set.size g values marks [] set.passes (from_boundary o set.size lent), ← ea) refl

pub paving_made : (o : Outline) (set : Settings) (f : FieldLists) (lent : State) (r : FieldRecord) (a : paving.EndedPaving)
    → drawn_and_paved r a ≡ run_of o set f lent
    → a ≡ advance o set.size (field_of o set.size set.sweeps f) set.passes (from_boundary o set.size lent)
unfolding run_of
paving_made o set f lent r a e = ap (λ (w : WholeRun). w.paving) e

-- and the rest
pub run_whole : (o : Outline) (set : Settings) (l : Lent) (g : Grid) (values : List Float) (marks : List ℕ) (a : paving.EndedPaving)
    → drawn_and_paved (field_record g values marks) a ≡ run_of o set (field_part l) (state_part l)
    → (n : List ℕ) → n ≡ overlay (origins_after o set.size a.state.quads a.state.counts.quads) l.origins
    → (p : Lists) → p ≡ listed_in a.state.counts a.state.next a.state.snapshot l.loops l.lengths
    → (w : Bool) → w ≡ is_whole o p.listed.count → (r : Paved) → r ≡ paved_answer g a.end a.state.counts p.listed w
    → ran (Ok r) (lent values marks a.state.xs a.state.ys a.state.next a.state.prev p.marks n a.state.quads a.state.edges
    p.loops p.lengths) ≡ accepted_in o set l
unfolding accepted_in
run_whole o set l g values marks a e n en p ep w ew r er = rw (er, ew, en, ← e, ← ep) refl

-- ---- the refusals, by the numbers of places

module _ (o : Outline) (set : Settings) (l : Lent) (m : ℕ) (e : m ≡ snapshot_places l) where
  part_long : length (take m l.snapshot) ≡ m
  part_long = length-take-le m l.snapshot (omega (arith, e))

  pub run_number_is : (field nodes number : ℕ) → field ≡ min (length l.values / 2) (length l.marks)
      → nodes ≡ fewest (length l.xs) (length l.ys) (length l.next) (length l.prev) m
      → number ≡ first_of
      (first_of (refusal_for o set.size set.sweeps field) (sampled_refusal o set.size (min nodes most_nodes) (length l.edges / 2)))
      (lengths_refusal o (length l.lengths))
      → number ≡ refusal_of o set l
  unfolding refusal_of run_refusal field_refusal front_refusal node_places edge_places
  run_number_is field nodes number ef en h = h ∙ rw (ef, en, ← e, part_long) refl

  -- neither the run nor the list of lengths is refused
  none_of : refusal_of o set l ≡ 0 → (run_refusal o set (field_part l) (state_part (narrowed l)) ≡ 0) × (lengths_refusal o (length l.lengths) ≡ 0)
  unfolding refusal_of
  none_of z = first_zero (run_refusal o set (field_part l) (state_part (narrowed l))) (lengths_refusal o (length l.lengths)) z

  pub can_run : refusal_of o set l ≡ 0 → CanRun o set (other_snapshot l (take m l.snapshot))
  can_run z =
      record {
        none = rw e (none_of z).0;
        loops = rw part_long (omega (arith, e));
        origins = rw part_long (omega (arith, e));
        lengths = room (none_of z).1;
      }
    where
      room : lengths_refusal o (length l.lengths) ≡ 0 → loop_count o ≤ length l.lengths
      room h = by (ltb (length l.lengths) (loop_count o)) refl h
        where
          by : (b : Bool) → ltb (length l.lengths) (loop_count o) ≡ b → cond {A = ℕ} b 10 0 ≡ 0 → loop_count o ≤ length l.lengths
          by false e h = ltb-false (length l.lengths) (loop_count o) e
          by true e h = absurd (omega arith)

-- the snapshot's other places keep their contents
pub run_broadened : (o : Outline) (set : Settings) (l : Lent) (r : Result Paved ℕ) (after : Lent) → ran r after ≡ accepted_in o set (narrowed l)
    → ran r (broadened l after) ≡ accepted_run o set l
unfolding accepted_run
run_broadened o set l r after e = ap (λ (w : Ran). ran w.answer (broadened l w.lists)) e

-- ---- what a caller gets

module _ (o : Outline) (set : Settings) (l : Lent) where
  pub paves_accepted : refusal_of o set l ≡ 0 → OutlineFits o → (r : Result Paved ℕ) (after : Lent) → ran r after ≡ accepted_run o set l
      → Paves o set l r after
  unfolding refusal_of run_answer accepted_run accepted_in
  paves_accepted z doubles r after same =
      let part = state_part (narrowed l) in
      let none = (first_zero (run_refusal o set (field_part l) part) (lengths_refusal o (length l.lengths)) z).0 in
      let s = (run_of o set (field_part l) part).paving.state in
      let A = accepted_run_lem o set (field_part l) part doubles none in
      let p = listed_in s.counts s.next s.snapshot l.loops l.lengths in
      let B = books_unread o set.size s (p.marks ++ drop (snapshot_places l) l.snapshot) (books_hold o set (field_part l) part doubles none) in
      record {
        equal = rw z same;
        refused = subst⁻¹ (λ (w : Ran). OnErr w.answer (w.lists ≡ l)) same tt;
        books =
            subst⁻¹ (λ (w : Ran). IfOk w.answer (λ p. PavesBooks o set p w.lists)) same
            (record { books = B; front = λ b q. loops_answered o _ s.snapshot l.loops l.lengths p refl b (B.closes b q) });
        origins =
            subst⁻¹ (λ (w : Ran). IfOk w.answer (λ p. PavesOrigins o set l.origins p w.lists)) same
            (booked_answered o set.size part _ A.outline A.front B l.origins);
      }

  -- a run that is made refuses nothing, in whatever lists
  pub accepted_number : (r : Result Paved ℕ) (after : Lent) → ran r after ≡ accepted_in o set l → IsOk r
  unfolding accepted_in
  accepted_number r after e = subst⁻¹ (λ (w : Ran). IsOk w.answer) e refl

  pub accepted_answers : (r : Result Paved ℕ) (after : Lent) → ran r after ≡ accepted_run o set l → IsOk r
  unfolding accepted_run accepted_in
  accepted_answers r after e = subst⁻¹ (λ (w : Ran). IsOk w.answer) e refl

  pub paves_refused : (number : ℕ) → number ≡ refusal_of o set l → (number ≡ 0 → ⊥) → Paves o set l (Err number) l
  unfolding run_answer
  paves_refused number e n =
      record {
        equal = rw (← e) (sym (answer_refused (λ (number : ℕ). ran (Err number) l) (accepted_run o set l) number n));
        refused = refl;
        books = tt;
        origins = tt;
      }
