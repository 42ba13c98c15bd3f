-- The exact books in the words in which they were asked for, which except corners at a side shorter than 1e-150. It follows from `BooksHold`, which has no exception.
use Rattle.std.specs.Prelude.{◌≡◌, ℕ, ◌+◌, ◌*◌, ◌<◌, ◌≤◌, ◌+ℤ◌, T, length, Float}
use Rattle.std.proofs.Math.Option.{some}
use Rattle.outline.specs.Outline.{Outline}
use Rattle.exact.specs.Units.{units}
use Rattle.exact.specs.Corner.{sine_above_third, is_short}
use Rattle.front.specs.State.{State}
use Rattle.front.specs.Sampling.{sampled_count}
use Rattle.books.specs.Book.{Book, Quad, start_book, quad_at, book_after, front_area, quads_area}
use Rattle.books.specs.Holds.{step_of, CornerHolds, QuadHolds, LoopsHold, HoldsAfter, Closes, BooksHold}

-- the side from u to v is shorter than 1e-150, and both its ends are among the n points sampled
pub record ShortSide (b : Book) (n u v : ℕ) : Type 0 where
  pub short : T (is_short (step_of b u v))
  pub from : u < n
  pub to : v < n

-- the corner at v between u and w: its sine is above 1/3, or one of its sides is short
pub data CornerDemanded (b : Book) (n u v w : ℕ) : Type 0 where
  turns : T (sine_above_third (step_of b u v) (step_of b v w)) → CornerDemanded b n u v w
  short_in : ShortSide b n u v → CornerDemanded b n u v w
  short_out : ShortSide b n v w → CornerDemanded b n u v w

-- the quad a, b, d, c turns left at all four corners
pub record QuadDemanded (book : Book) (n : ℕ) (q : Quad) : Type 0 where
  pub at_a : CornerDemanded book n q.c q.a q.b
  pub at_b : CornerDemanded book n q.a q.b q.d
  pub at_d : CornerDemanded book n q.b q.d q.c
  pub at_c : CornerDemanded book n q.d q.c q.a

-- after k quads of the run that left s
pub record DemandedAfter (o : Outline) (size : Float) (s : State) (k : ℕ) : Type 0 where
  pub book : Book
  pub steps : book_after o size s k ≡ some book
  -- the signed area of the sampled front at the start is the sum of the quads' signed areas plus the signed area of the front left
  pub areas : front_area units (start_book o size) ≡ quads_area units book s k +ℤ front_area units book
  -- each quad turns left at all four corners, with sine above 1/3; excepted are only corners at a side shorter than 1e-150
  pub quads : (i : ℕ) → i < k → QuadDemanded book (sampled_count o size) (quad_at s i)
  -- the front has one closed loop for each loop of the outline, of an even number of edges
  pub loops : LoopsHold o book
  -- front edges plus twice the quads plus the points sampled make twice the nodes
  pub counts : length book.front + 2 * k + sampled_count o size ≡ 2 * length book.xs

-- before the first quad, after each one, and wherever the run stops
pub record Demanded (o : Outline) (size : Float) (s : State) : Type 0 where
  pub each : (k : ℕ) → k ≤ s.counts.quads → DemandedAfter o size s k
  pub closes : (b : Book) → book_after o size s s.counts.quads ≡ some b → Closes o s b

corner_demanded : (b : Book) (n u v w : ℕ) → CornerHolds b u v w → CornerDemanded b n u v w
corner_demanded b n u v w H = turns H.sine

quad_demanded : (b : Book) (n : ℕ) (q : Quad) → QuadHolds b q → QuadDemanded b n q
quad_demanded b n q H =
    record {
      at_a = corner_demanded b n _ _ _ H.at_a;
      at_b = corner_demanded b n _ _ _ H.at_b;
      at_d = corner_demanded b n _ _ _ H.at_d;
      at_c = corner_demanded b n _ _ _ H.at_c;
    }

after_demanded : (o : Outline) (size : Float) (s : State) (k : ℕ) → HoldsAfter o size s k → DemandedAfter o size s k
after_demanded o size s k H =
    record {
      book = H.book;
      steps = H.steps;
      areas = H.areas;
      quads = λ i h. quad_demanded H.book (sampled_count o size) (quad_at s i) (H.quads i h);
      loops = H.loops;
      counts = H.counts;
    }

-- where the books hold, the demand is met
pub as_demanded : (o : Outline) (size : Float) (s : State) → BooksHold o size s → Demanded o size s
as_demanded o size s H = record { each = λ k h. after_demanded o size s k (H.each k h); closes = H.closes }
