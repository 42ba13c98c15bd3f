-- What it means that a lent mesh covers a sampled outline, and what a host gets of `sitjorbe_covers`. Statements only.
use Rattle.std.specs.Prelude.{◌≡◌, ℕ, ◌<◌, pos, take, length, Float}
use Rattle.exact.specs.Units.{units}
use Rattle.exact.specs.Corner.{Vector}
use Rattle.outline.specs.Outline.{Outline}
use Rattle.front.specs.State.{State}
use Rattle.cover_turns.specs.Turn.{Covers}
use Rattle.books.specs.Book.{Book, start_book, quad_at, quad_edges, front_area, quads_area}
use Rattle.books.specs.Net.{net, quads_edges}
use Rattle.books.specs.Points.{winding, quads_round, LeftOfAll, RightOfNone, InOne}
use Rattle.books.specs.Holds.{QuadHolds}
use Rattle.cover_check.specs.declared.CoversAnswer.{CoversAnswer}
use Rattle.cover_check.specs.declared.Room.{Room}
use Rattle.cover_check.specs.Check.{book_of, covers_answer}

-- the k quads of a lent mesh whose nodes are in the book b cover what the book `start` has as its front
pub record Covered (start b : Book) (s : State) (k : ℕ) : Type 0 where
  -- the mesh begins with the sampled outline's nodes, bit for bit
  pub xs : take (length start.xs) b.xs ≡ start.xs
  pub ys : take (length start.ys) b.ys ≡ start.ys
  -- every quad turns left at all four corners, with exact sines above 1/3
  pub quads : (i : ℕ) → i < k → QuadHolds b (quad_at s i)
  -- for every u and v, the steps from u to v less those back are on the sampled outline what they are in the quads
  pub edges : (u v : ℕ) → net u v start.front ≡ net u v (quads_edges s k)
  -- the outline's exact area is the sum of the quads'
  pub areas : front_area units start ≡ quads_area units b s k
  -- each quad has a point of the plane, in n-ths of a unit, once or not at all
  pub covers : (i : ℕ) → i < k → (n : ℕ) → 0 < n → (p : Vector)
      → Covers (LeftOfAll n p b (quad_at s i)) (RightOfNone n p b (quad_at s i)) (winding n p b (quad_edges (quad_at s i)))
  -- the outline goes round a point as often as there are quads that have it
  pub points : (n : ℕ) → 0 < n → (p : Vector) → winding n p start start.front ≡ pos (quads_round n p b s k)
  -- so that a point that it goes round once is in exactly one quad
  pub one : (n : ℕ) → 0 < n → (p : Vector) → winding n p start start.front ≡ pos 1 → InOne n p b s k

-- WHAT A HOST GETS, where the mesh s was lent with so much room, and r is answered
pub record CoversGiven (o : Outline) (size : Float) (s : State) (room : Room) (r : CoversAnswer) : Type 0 where
  pub equal : r ≡ covers_answer o size s room
  pub covered : r.refusal ≡ 0 → Covered (start_book o size) (book_of s) s s.counts.quads
