-- Which quads of a book have a point of the plane, and how often edges go round it. A point has rational coordinates: whole numbers of n-ths of a unit. Statements only.
use Rattle.std.specs.Prelude.{◌≡◌, Bool, true, cond, List, ℕ, ◌<◌, ℤ, pos, ◌*ℤ◌, Float}
use Rattle.std.specs.Int.Signed.{lt_z}
use Rattle.laws.specs.Loop.{sum_up}
use Rattle.exact.specs.Units.{units}
use Rattle.exact.specs.Corner.{Vector}
use Rattle.topology.specs.Sums.{All}
use Rattle.front.specs.State.{State}
use Rattle.cover_turns.specs.Turn.{turn, IsLeft, NotRight}
use Rattle.books.specs.Book.{Book, Edge, Quad, quad_at, place_of, edges_sumℤ, quad_edges}

-- a coordinate in n-ths of a unit
abbrev pub nths : ℕ → Float → ℤ
nths n x = pos n *ℤ units x

-- what the edge from node u to node v counts of the way round p, a point in n-ths of a unit
abbrev pub turn_of : ℕ → Vector → Book → ℕ → ℕ → ℤ
turn_of n p b u v = turn p (place_of (nths n) b u) (place_of (nths n) b v)

-- how often edges go round p
abbrev pub winding : ℕ → Vector → Book → List Edge → ℤ
winding n p b es = edges_sumℤ (turn_of n p b) es

-- the quad goes round p
abbrev pub is_round : ℕ → Vector → Book → Quad → Bool
is_round n p b q = lt_z (pos 0) (winding n p b (quad_edges q))

-- how many of the first k quads go round p
unfoldable pub quads_round : ℕ → Vector → Book → State → ℕ → ℕ
quads_round n p b s k = sum_up k (λ i. cond (is_round n p b (quad_at s i)) 1 0)

-- p is left of every side of the quad, and right of none
abbrev pub LeftOfAll : ℕ → Vector → Book → Quad → Type 0
LeftOfAll n p b q = All (λ (e : Edge). IsLeft p (place_of (nths n) b e.from) (place_of (nths n) b e.to)) (quad_edges q)

abbrev pub RightOfNone : ℕ → Vector → Book → Quad → Type 0
RightOfNone n p b q = All (λ (e : Edge). NotRight p (place_of (nths n) b e.from) (place_of (nths n) b e.to)) (quad_edges q)

-- p, in n-ths of a unit, is in exactly one of the first k quads
pub record InOne (n : ℕ) (p : Vector) (b : Book) (s : State) (k : ℕ) : Type 0 where
  pub quad : ℕ
  pub below : quad < k
  pub here : is_round n p b (quad_at s quad) ≡ true
  pub only : (i : ℕ) → i < k → is_round n p b (quad_at s i) ≡ true → i ≡ quad
