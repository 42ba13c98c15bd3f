-- What a sound state and its book give of the front: the book's loops and counts; and where the run stops, its nodes, its front edge for
-- edge, its counts and its listed loops.
use Rattle.std.specs.Prelude.{ℕ, zero, suc, ◌+◌, ◌*◌, ◌<◌, ◌≤◌, List, [], ◌∷◌, ◌≡◌, refl, Bool, true, false, eqb, length}
use Rattle.std.proofs.Math.Path.{sym}
use Rattle.std.proofs.Common.{◌∙◌, arith, eqb-true}
use Rattle.std.proofs.lemmas.Bool.{eqb-false}
use Rattle.outline.specs.Outline.{Outline}
use Rattle.topology.specs.Sums.{front_sum, front_one}
use Rattle.topology.specs.Links.{off, at, at_self, at_other}
use Rattle.topology.specs.Front.{Loops, loops_same}
use Rattle.topology.proofs.Front.{target, edge_next, edge_once}
use Rattle.topology.proofs.FollowBase as topology
use Rattle.topology.proofs.FollowBase.{Follows}
use Rattle.topology.proofs.Follow.{follows_links}
use Rattle.topology.proofs.LongLoops.{walks_long}
use Rattle.front.specs.State.{State, next_of}
use Rattle.front.specs.Sampling.{loop_count}
use Rattle.front.specs.Sound.{Sound}
use Rattle.paving.specs.Loops.{front_loops}
use Rattle.books.specs.Book.{Edge, Book, loop_edges, follow}
use Rattle.books.proofs.Matches.{edges_sum, Matches}
use Rattle.books.proofs.BookBase.{count_sum, matches_nodes, matches_edges}
use Rattle.books.specs.Net.{count_edge}
use Rattle.books.specs.Holds.{LoopsHold, Closes}
use Rattle.front_sampled.proofs.StartsBase.{sum_loops}

-- ---- following edges

-- from u, `follow` takes an edge that is there, or there is none
data FoundEdge (es : List Edge) (u : ℕ) : Type 0 where
  taken : 0 < edges_sum (at u (follow es u)) es → FoundEdge es u
  none : follow es u ≡ off → ((v : ℕ) → edges_sum (at u v) es ≡ 0) → FoundEdge es u

follow_later : (e : Edge) (es : List Edge) (u : ℕ) → eqb e.from u ≡ false → follow (e ∷ es) u ≡ follow es u
unfolding follow
follow_later e es u q = rw q

sum_one_more : (f : ℕ → ℕ → ℕ) (e : Edge) (es : List Edge) → edges_sum f (e ∷ es) ≡ f e.from e.to + edges_sum f es
unfolding edges_sum
sum_one_more f e es = refl

-- an edge found further on
taken_later : (e : Edge) (es : List Edge) (u : ℕ) → eqb e.from u ≡ false → 0 < edges_sum (at u (follow es u)) es
    → 0 < edges_sum (at u (follow (e ∷ es) u)) (e ∷ es)
taken_later e es u q h =
    rw (follow_later e es u q) (omega (arith, h, sum_one_more (at u (follow es u)) e es))

found : (es : List Edge) (u : ℕ) → FoundEdge es u
unfolding follow edges_sum
found [] u = none refl (λ v. refl)
found (e ∷ es) u = by (eqb e.from u) refl (found es u)
  where
    by : (b : Bool) → eqb e.from u ≡ b → FoundEdge es u → FoundEdge (e ∷ es) u
    by true q later = taken (rw (q, eqb-true e.from u q) (omega (arith, at_self u e.to)))
    by false q (taken h) = taken (taken_later e es u q h)
    by false q (none f z) =
        none (rw q f) (λ v. omega (arith, z v, at_other u v e.from e.to (eqb-false e.from u q)))

-- ---- the loops of a book, and its counts

module _ (n : ℕ) (s : State) (ls : List (List ℕ)) (b : Book) (S : Sound n s ls) (M : Matches s ls b) where
  abbrev nodes : ℕ
  nodes = s.counts.nodes

  abbrev L : Loops nodes (next_of s) ls
  L = S.front.loops

  -- an edge stands in the book as often as in the loops
  book_count : (u v : ℕ) → count_edge u v b.front ≡ front_sum (at u v) ls
  book_count u v = count_sum u v b.front ∙ M.sums (at u v)

  -- an edge of the book is a link
  book_next : (u v : ℕ) → 0 < count_edge u v b.front → next_of s u ≡ v
  book_next u v h = edge_next nodes (next_of s) ls L u v (rw (book_count u v) at h)

  count_once : (u v : ℕ) → count_edge u v b.front ≤ 1
  count_once u v = by (eqb v off) refl (count_edge u v b.front) refl
    where
      by : (t : Bool) → eqb v off ≡ t → (k : ℕ) → count_edge u v b.front ≡ k → k ≤ 1
      by false e k q = omega (arith, book_count u v, q, edge_once nodes (next_of s) ls L u v (eqb-false v off e))
      by true e zero q = omega arith
      by true e (suc k) q =
          absurd (omega (arith, target nodes (next_of s) ls L u v (omega (arith, book_count u v, q)), L.few, eqb-true v off e))

  pub loops_hold : (o : Outline) → length ls ≡ loop_count o → LoopsHold o b
  loops_hold o number =
      record {
        loops = ls;
        number = number;
        even = L.evens;
        edges = λ u v. count_sum u v (loop_edges ls) ∙ (sum_loops (at u v) ls ∙ sym (book_count u v));
        once = count_once;
        single = λ u v w h g. sym (book_next u v h) ∙ book_next u w g;
      }

  -- front edges plus twice the quads plus the points sampled make twice the nodes
  pub counts_hold : length b.front + 2 * s.counts.quads + n ≡ 2 * length b.xs
  counts_hold = omega (arith, matches_edges n s ls b S M, matches_nodes n s ls b S M, S.counts)

  -- ---- where the run stops

  follows : (u : ℕ) → Follows ls (follow b.front) u
  follows u = by (found b.front u)
    where
      by : FoundEdge b.front u → Follows ls (follow b.front) u
      by (taken h) = topology.edge (rw (M.sums (at u (follow b.front u))) at h)
      by (none f z) = topology.none f (λ v. sym (M.sums (at u v)) ∙ z v)

  -- the front edge for edge
  front_same : (u : ℕ) → next_of s u ≡ follow b.front u
  front_same u = sym (follows_links nodes (next_of s) (follow b.front) ls L u (follows u))

  -- whichever loops hold of the book are loops of the links
  book_loops : (o : Outline) (H : LoopsHold o b) → Loops nodes (next_of s) H.loops
  book_loops o H =
      loops_same nodes (next_of s) ls H.loops
      (λ u v. sym (book_count u v) ∙ (sym (H.edges u v) ∙ (count_sum u v (loop_edges H.loops) ∙ sum_loops (at u v) H.loops))) H.even L

  pub closes : (o : Outline) → Closes o s b
  unfolding front_loops
  closes o =
      record {
        xs = M.xs;
        ys = M.ys;
        front = front_same;
        nodes = sym (matches_nodes n s ls b S M);
        edges = sym (matches_edges n s ls b S M);
        loops = λ H.
            walks_long nodes (next_of s) ls L s.counts.front (omega (arith, S.edges, front_one ls)) H.loops (book_loops o H);
      }
