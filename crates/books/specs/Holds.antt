-- What holds of a run's books before the first quad, after each one, and where the run stops. Statements only.
use Rattle.std.specs.Prelude.{◌≡◌, Bool, true, not, ◌↔◌, ℕ, pos, ◌+◌, ◌*◌, ◌<◌, ◌≤◌, ◌+ℤ◌, T, length, take, Float}
use Rattle.std.proofs.Math.Option.{some}
use mathlib.Core.List.{List, map, flatten}
use Rattle.outline.specs.Outline.{Outline}
use Rattle.front.specs.State.{State, next_of}
use Rattle.front.specs.Sampling.{loop_count, sampled_count}
use Rattle.topology.specs.Sums.{All, Even}
use Rattle.topology.specs.LongLoops.{LongLoops}
use Rattle.paving.specs.Loops.{front_loops}
use Rattle.outline_sound.specs.Sound.{outline_sound}
use Rattle.exact.specs.Units.{units}
use Rattle.exact.specs.Corner.{Vector, step_units, sine_above_third, is_short}
use Rattle.cover_turns.specs.Turn.{Covers}
use Rattle.books.specs.Book.{Book, Quad, start_book, quad_at, quad_edges, book_after, x_of, y_of, loop_edges, front_area, quads_area, follow}
use Rattle.books.specs.Net.{count_edge, net, quads_edges}
use Rattle.books.specs.Points.{winding, quads_round, LeftOfAll, RightOfNone}

-- the exact step from node u to node v
abbrev pub step_of : Book → ℕ → ℕ → Vector
step_of b u v = step_units (x_of b u) (y_of b u) (x_of b v) (y_of b v)

-- the corner at v between u and w: its sine is above 1/3, and the side from u is not shorter than 1e-150
pub record CornerHolds (b : Book) (u v w : ℕ) : Type 0 where
  pub sine : T (sine_above_third (step_of b u v) (step_of b v w))
  pub side : T (not (is_short (step_of b u v)))

-- the quad a, b, d, c turns left at all four corners
pub record QuadHolds (book : Book) (q : Quad) : Type 0 where
  pub at_a : CornerHolds book q.c q.a q.b
  pub at_b : CornerHolds book q.a q.b q.d
  pub at_d : CornerHolds book q.b q.d q.c
  pub at_c : CornerHolds book q.d q.c q.a

-- one closed loop for each loop of the outline, of an even number of edges; each edge of the front is in exactly one, and no node has two edges out
pub record LoopsHold (o : Outline) (b : Book) : Type 0 where
  pub loops : List (List ℕ)
  pub number : length loops ≡ loop_count o
  pub even : All Even loops
  pub edges : (u v : ℕ) → count_edge u v (loop_edges loops) ≡ count_edge u v b.front
  pub once : (u v : ℕ) → count_edge u v b.front ≤ 1
  pub single : (u v w : ℕ) → 0 < count_edge u v b.front → 0 < count_edge u w b.front → v ≡ w

-- after k quads of the run whose state is s
pub record HoldsAfter (o : Outline) (size : Float) (s : State) (k : ℕ) : Type 0 where
  pub book : Book
  -- each step of the book went through
  pub steps : book_after o size s k ≡ some book
  -- edge balance: for every u and v, the steps from u to v less those back are on the start's front what they are in the quads and on the front left
  pub edges : (u v : ℕ) → net u v (start_book o size).front ≡ net u v (quads_edges s k) +ℤ net u v book.front
  -- the start's area is the sum of the quads' and of the front left
  pub areas : front_area units (start_book o size) ≡ quads_area units book s k +ℤ front_area units book
  pub quads : (i : ℕ) → i < k → QuadHolds book (quad_at s i)
  -- each quad has a point of the plane, in n-ths of a unit, once or not at all: once if it is left of all four sides, and if once, it is right of none
  pub covers : (i : ℕ) → i < k → (n : ℕ) → 0 < n → (p : Vector)
      → Covers (LeftOfAll n p book (quad_at s i)) (RightOfNone n p book (quad_at s i)) (winding n p book (quad_edges (quad_at s i)))
  -- the start's front goes round a point as often as there are quads that have it, and as the front left goes round it
  pub points : (n : ℕ) → 0 < n → (p : Vector)
      → winding n p (start_book o size) (start_book o size).front ≡ pos (quads_round n p book s k) +ℤ winding n p book book.front
  pub loops : LoopsHold o book
  -- front edges plus twice the quads plus the points sampled make twice the nodes
  pub counts : length book.front + 2 * k + sampled_count o size ≡ 2 * length book.xs

-- where the run stops: its nodes bit for bit, its front edge for edge and its counts are the book's, and `front_loops` lists the book's loops of three or more
pub record Closes (o : Outline) (s : State) (b : Book) : Type 0 where
  pub xs : take s.counts.nodes s.xs ≡ b.xs
  pub ys : take s.counts.nodes s.ys ≡ b.ys
  pub front : (u : ℕ) → next_of s u ≡ follow b.front u
  pub nodes : s.counts.nodes ≡ length b.xs
  pub edges : s.counts.front ≡ length b.front
  pub loops : (L : LoopsHold o b) → LongLoops L.loops (front_loops s)

-- the exact books of a run that left the state s: before the first quad and after each one, and at the end
pub record BooksHold (o : Outline) (size : Float) (s : State) : Type 0 where
  pub each : (k : ℕ) → k ≤ s.counts.quads → HoldsAfter o size s k
  pub closes : (b : Book) → book_after o size s s.counts.quads ≡ some b → Closes o s b

-- ---- what is answered of the loops

-- n loops are listed, with m ids in all of them, in the lists `loops` and `lengths`, and it is said whether the run is whole
pub record LoopsAnswered (o : Outline) (b : Book) (n m : ℕ) (loops lengths : List ℕ) (said : Bool) : Type 0 where
  -- the loops listed are the book's of three or more
  pub listed : List (List ℕ)
  pub long : (L : LoopsHold o b) → LongLoops L.loops listed
  pub count : n ≡ length listed
  pub ids : m ≡ length (flatten listed)
  -- their ids one after the other, and the length of each
  pub nodes : take m loops ≡ flatten listed
  pub each : take n lengths ≡ map length listed
  -- whole exactly if every loop of the book has two nodes, and the outline as drawn is sound
  pub whole : (L : LoopsHold o b) → (said ≡ true) ↔ (All (λ l. length l ≡ 2) L.loops × (outline_sound o ≡ true))

-- the exact books of a run that left the state s and answered so of its loops
pub record BooksAnswered (o : Outline) (size : Float) (s : State) (n m : ℕ) (loops lengths : List ℕ) (said : Bool) : Type 0 where
  pub books : BooksHold o size s
  pub front : (b : Book) → book_after o size s s.counts.quads ≡ some b → LoopsAnswered o b n m loops lengths said
