-- The exact book. It is fed the outline and size, and the quads and node coordinates that a run answers; it never looks at the run's front.
-- Definitions only.
use Rattle.std.specs.Prelude.{Bool, false, ◌&&◌, ◌||◌, cond, List, [], ◌∷◌, ◌++◌, ℕ, zero, suc, ◌*◌, ℤ, pos, ◌+ℤ◌, eqb, length, get_or, Float}
use Rattle.std.proofs.Math.Option.{Option, none, some}
use Rattle.std.specs.Float.{nan}
use Rattle.laws.specs.Loop.{for_up}
use Rattle.numbers.specs.Float.{zero_f}
use Rattle.outline.specs.Outline.{Outline}
use Rattle.exact.specs.Corner.{Vector, cross}
use Rattle.topology.specs.Links.{off}
use Rattle.topology.specs.Front.{head_or}
use Rattle.front.specs.State.{State, counted}
pub use Rattle.front.specs.State.{Quad}
unfoldable pub use Rattle.front.specs.State.{quad_at}
use Rattle.front.specs.Sampling.{sampled_count, from_boundary, boundary_loops}

-- a front edge
pub record Edge : Type 0 where
  pub from : ℕ
  pub to : ℕ

abbrev pub edge : ℕ → ℕ → Edge
edge u v = record { from = u; to = v }

-- the nodes' coordinates, and the front in no order
pub record Book : Type 0 where
  pub xs : List Float
  pub ys : List Float
  pub front : List Edge

abbrev pub book : List Float → List Float → List Edge → Book
book xs ys front = record { xs = xs; ys = ys; front = front }

-- ---- start: the nodes of the sampled outline, and in each loop an edge from each node to the next and from the last to the first

-- lists with room for n nodes
unfoldable pub filled {ℓ} : {A : Type ℓ} → ℕ → A → List A
filled zero a = []
filled (suc n) a = a ∷ filled n a

unfoldable pub room_for : ℕ → State
room_for n =
    record {
      xs = filled n zero_f;
      ys = filled n zero_f;
      next = filled n off;
      prev = filled n off;
      snapshot = filled n off;
      quads = [];
      edges = filled (2 * n) 0;
      counts = counted 0 0 0 0;
    }

-- an edge from each of a list to the next, and from the last to z
unfoldable pub edges_to : List ℕ → ℕ → List Edge
edges_to [] z = []
edges_to (u ∷ us) z = edge u (head_or z us) ∷ edges_to us z

unfoldable pub loop_edges : List (List ℕ) → List Edge
loop_edges [] = []
loop_edges (l ∷ ls) = edges_to l (head_or 0 l) ++ loop_edges ls

unfoldable pub start_book : Outline → Float → Book
start_book o size =
    let room = room_for (sampled_count o size) in
    let sampled = from_boundary o size room in
    book sampled.xs sampled.ys (loop_edges (boundary_loops o size room))

-- ---- a quad's step, which may fail

abbrev pub is_edge : Edge → Edge → Bool
is_edge e f = eqb e.from f.from && eqb e.to f.to

-- the edge is there
unfoldable pub has : Edge → List Edge → Bool
has e [] = false
has e (f ∷ fs) = is_edge e f || has e fs

-- the list without the first such edge
unfoldable pub without : Edge → List Edge → List Edge
without e [] = []
without e (f ∷ fs) = cond (is_edge e f) fs (f ∷ without e fs)

abbrev pub and_then : Option Book → (Book → Option Book) → Option Book
and_then none f = none
and_then (some b) f = f b

-- an edge that has to be there comes off
unfoldable pub comes_off : Edge → Book → Option Book
comes_off e b = cond (has e b.front) (some (book b.xs b.ys (without e b.front))) none

-- an edge goes on
abbrev pub goes_on : Edge → Book → Book
goes_on e b = book b.xs b.ys (e ∷ b.front)

-- node id is the next one, and takes the coordinates answered for it
unfoldable pub new_node : State → ℕ → Book → Option Book
new_node s id b =
    cond (eqb id (length b.xs)) (some (book (b.xs ++ get_or s.xs id nan ∷ []) (b.ys ++ get_or s.ys id nan ∷ []) b.front)) none

-- if the edge is there, it comes off; if not, id is a new node and the edge back goes on
unfoldable pub side : State → ℕ → Edge → Edge → Book → Option Book
side s id there back b =
    cond (has there b.front) (comes_off there b) (and_then (new_node s id b) (λ c. some (goes_on back c)))

-- a to b comes off; then c and d; last, c to d goes on
unfoldable pub book_quad : State → Quad → Book → Option Book
book_quad s q b0 =
    and_then (comes_off (edge q.a q.b) b0) λ b1.
    and_then (side s q.c (edge q.c q.a) (edge q.a q.c) b1) λ b2.
    and_then (side s q.d (edge q.b q.d) (edge q.d q.b) b2) λ b3.
    some (goes_on (edge q.c q.d) b3)

abbrev pub book_turn : State → ℕ → Option Book → Option Book
book_turn s k b = and_then b (book_quad s (quad_at s k))

-- the book after k quads
unfoldable pub book_after : Outline → Float → State → ℕ → Option Book
book_after o size s k = for_up k (book_turn s) (some (start_book o size))

-- ---- areas, doubled, in whole numbers: `measure` says how many units a coordinate is, or how many of any other step

abbrev pub x_of : Book → ℕ → Float
x_of b id = get_or b.xs id nan

abbrev pub y_of : Book → ℕ → Float
y_of b id = get_or b.ys id nan

-- where node id is
abbrev pub place_of : (Float → ℤ) → Book → ℕ → Vector
place_of measure b id = record { x = measure (x_of b id); y = measure (y_of b id) }

-- x(u)·y(v) − x(v)·y(u) of the edge u to v
abbrev pub area_of : (Float → ℤ) → Book → ℕ → ℕ → ℤ
area_of measure b u v = cross (place_of measure b u) (place_of measure b v)

-- a weight over the edges of a list
unfoldable pub edges_sumℤ : (ℕ → ℕ → ℤ) → List Edge → ℤ
edges_sumℤ w [] = pos 0
edges_sumℤ w (e ∷ es) = w e.from e.to +ℤ edges_sumℤ w es

-- the signed area of the front
abbrev pub front_area : (Float → ℤ) → Book → ℤ
front_area measure b = edges_sumℤ (area_of measure b) b.front

-- the edges of a quad, run a, b, d, c
unfoldable pub quad_edges : Quad → List Edge
quad_edges q = edge q.a q.b ∷ edge q.b q.d ∷ edge q.d q.c ∷ edge q.c q.a ∷ []

-- the signed area of a quad
abbrev pub quad_area : (Float → ℤ) → Book → Quad → ℤ
quad_area measure b q = edges_sumℤ (area_of measure b) (quad_edges q)

-- the sum of the signed areas of the first k quads
unfoldable pub quads_area : (Float → ℤ) → Book → State → ℕ → ℤ
quads_area measure b s k = for_up k (λ i sum. sum +ℤ quad_area measure b (quad_at s i)) (pos 0)

-- ---- following the front

-- where the front goes on from u, or `off`
unfoldable pub follow : List Edge → ℕ → ℕ
follow [] u = off
follow (e ∷ es) u = cond (eqb e.from u) e.to (follow es u)
