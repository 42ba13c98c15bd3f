-- THE THEOREM: after each quad of a run every front edge, every front loop and every quad has nodes of one number. What it says: Origins.antt.
use Rattle.std.specs.Prelude.{ℕ, ◌<◌, ◌≤◌, ◌≡◌, refl, Float}
use mathlib.Core.List.{List, [], ◌∷◌, ◌++◌}
use Rattle.std.proofs.Common.{subst, arith, eq-eqb}
use Rattle.std.proofs.Math.Bool.{true}
use Rattle.std.proofs.Math.Option.{some}
use Rattle.laws.specs.Tests.{and_both}
use Rattle.outline.specs.declared.Settings.{Settings}
use Rattle.outline.specs.Outline.{Outline, outline_refusal}
use Rattle.outline.specs.Accepted.{OutlineFits}
use Rattle.topology.specs.Sums.{All}
use Rattle.topology.specs.Front.{head_or}
use Rattle.field_direction.specs.Record.{FieldLists}
use Rattle.front.specs.State.{State}
use Rattle.front.specs.Sampling.{loop_count, front_refusal}
use Rattle.run_whole.specs.Run.{run_refusal, run_of}
use Rattle.books.specs.Book.{Edge, edge, Book, is_edge, edges_to, loop_edges, book_after}
use Rattle.books.specs.Net.{count_edge}
use Rattle.books.specs.Holds.{BooksHold}
use Rattle.books.proofs.BookBase.{count_sum, has_edge_lem, Gives}
use Rattle.front_sampled.proofs.Outlines.{outline_three}
use Rattle.books_hold.specs.Runs.{accepted_run_lem}
use Rattle.books_hold.proofs.Theorem.{books_hold}
use Rattle.run_origins.specs.Origins.{origins_after, SameOrigin, SameAlong, SameInLoop, OneOrigin}
use Rattle.run_origins.proofs.Steps.{NumberedAfter, same_self, same_join, along_has, numbered_after}
use Rattle.run_origins.proofs.Start.{start_numbered}

-- ---- edges of which each is on the front

module _ (l : List ℕ) where
  along_all : (es fs : List Edge) → SameAlong l fs → ((u v : ℕ) → 0 < count_edge u v es → 0 < count_edge u v fs) → SameAlong l es
  unfolding count_edge
  along_all [] fs A there = tt
  along_all (e ∷ es) fs A there =
      let here : is_edge (edge e.from e.to) e ≡ true = and_both _ _ (eq-eqb e.from e.from refl) (eq-eqb e.to e.to refl) in
      let counted = there e.from e.to (rw here (omega arith)) in (
        along_has l e.from e.to fs A (has_edge_lem e.from e.to fs (omega (arith, counted, count_sum e.from e.to fs))),
        along_all es fs A (λ u v h. there u v (omega (arith, h))),
      )

  -- ---- from edges to loops

  -- along a path from u, which has the number of x
  path_same : (x u : ℕ) (us : List ℕ) (z : ℕ) → SameOrigin l x u → SameAlong l (edges_to (u ∷ us) z) → All (λ v. SameOrigin l x v) (u ∷ us)
  unfolding edges_to
  path_same x u [] z S A = (S, tt)
  path_same x u (v ∷ us) z S A = (S, path_same x v us z (same_join S A.0) A.1)

  loop_same : (loop : List ℕ) → SameAlong l (edges_to loop (head_or 0 loop)) → SameInLoop l loop
  unfolding edges_to
  loop_same [] A = tt
  loop_same (u ∷ us) A = path_same u u us u (same_self A.0.left) A

  all_left : (es fs : List Edge) → SameAlong l (es ++ fs) → SameAlong l es × SameAlong l fs
  all_left [] fs A = (tt, A)
  all_left (e ∷ es) fs A = let B = all_left es fs A.1 in ((A.0, B.0), B.1)

  loops_same : (ls : List (List ℕ)) → SameAlong l (loop_edges ls) → All (SameInLoop l) ls
  unfolding loop_edges
  loops_same [] A = tt
  loops_same (loop ∷ ls) A =
      let B = all_left (edges_to loop (head_or 0 loop)) (loop_edges ls) A in (loop_same loop B.0, loops_same ls B.1)

-- ---- the theorem

-- of every state whose books hold, where the outline and the front aren't refused: so of the lists as a caller gets them
module _ (o : Outline) (size : Float) (lent s : State) (fine : outline_refusal o ≡ 0) (none : front_refusal o size lent ≡ 0) (B : BooksHold o size s) where
  pub booked_after : (k : ℕ) (b : Book) → book_after o size s k ≡ some b → NumberedAfter (loop_count o) o size s.quads k b
  booked_after k b e =
      subst (Gives (NumberedAfter (loop_count o) o size s.quads k)) e
      (numbered_after (loop_count o) o size s (start_numbered o size lent (outline_three o fine) none) k)

  pub origins_booked : (k : ℕ) → k ≤ s.counts.quads → OneOrigin o size s k
  origins_booked k h =
      let H = B.each k h in
      let A = booked_after k H.book H.steps in
      let l = origins_after o size s.quads k in
      record {
        book = H.book;
        steps = H.steps;
        holds = record {
          long = A.numbered.long;
          known = A.numbered.known;
          fronts = A.numbered.fronts;
          loops = λ ls same. loops_same l ls (along_all l (loop_edges ls) H.book.front A.numbered.fronts (λ u v p. omega (arith, p, same u v)));
          each = A.each;
        };
      }

-- NO FRONT LOOP AND NO QUAD HAS NODES OF TWO NUMBERS. Take any outline o, any settings and any lists f and lent, of whatever lengths and contents, of
-- which nothing is refused. Before the first quad of the run, after each one and where it stops, every edge of the front, every loop of it
-- and every quad so far has nodes of one number, and there is a number for each node, below the count of the outline's loops.
pub origins_hold : (o : Outline) (set : Settings) (f : FieldLists) (lent : State) → OutlineFits o → run_refusal o set f lent ≡ 0
    → (k : ℕ) → k ≤ (run_of o set f lent).paving.state.counts.quads → OneOrigin o set.size (run_of o set f lent).paving.state k
origins_hold o set f lent doubles none =
    let A = accepted_run_lem o set f lent doubles none in
    origins_booked o set.size lent (run_of o set f lent).paving.state A.outline A.front (books_hold o set f lent doubles none)
