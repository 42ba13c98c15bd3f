-- What holds of the definitions of proofs/AreasBase.antt.
use Rattle.std.specs.Prelude.{Bool, cond, List, [], ◌∷◌, ◌++◌, ◌≡◌, refl, ℕ, zero, suc, ◌<◌, ◌≤◌, eqb, ℤ, pos, neg_ℤ, ◌+ℤ◌, length, take, Float}
use Rattle.std.proofs.Math.Bool.{true, false}
use Rattle.std.proofs.Math.Option.{none, some}
use Rattle.std.proofs.Common.{sym, ◌∙◌, ap, ap₂, subst, arith, length-take, get_or-take}
use Rattle.std.proofs.Math.ListN.{get_or}
use Rattle.std.proofs.Math.Seq.{take-length}
use Rattle.std.proofs.lemmas.List.{take-append-le}
use Rattle.std.specs.Float.Ieee.{nan}
use Rattle.laws.specs.Loop.{for_up}
use Rattle.exact.specs.Corner.{Vector, cross}
use Rattle.outline.specs.Outline.{Outline}
use Rattle.topology.specs.Links.{at, at_self}
use Rattle.front.specs.State.{State}
use Rattle.books.specs.Book.{Edge, Book, book, Quad, quad_at, start_book, has, without, and_then, comes_off, goes_on, new_node, side, book_quad, book_after}
use Rattle.books.specs.Book.{place_of, edges_sumℤ, front_area, quad_edges, quads_area}
use Rattle.books.specs.Net.{net, quads_edges}
use Rattle.books.proofs.Matches.{edges_sum}
use Rattle.books.proofs.BookBase.{Gives, gives_then, cross_anti}
use Rattle.books.proofs.NetBase.{sum_joined}
use Rattle.books.proofs.NetLaws.{net_joined, same_net}
use Rattle.books.proofs.AreasBase.{IsBookNode, FrontJoins}

-- ---- a book keeps the nodes that it has

-- the list m begins with l
abbrev Begins : List Float → List Float → Type 0
Begins l m = (take (length l) m ≡ l)

begins_more : (l m : List Float) (x : Float) → Begins l m → Begins l (m ++ x ∷ [])
begins_more l m x h =
    let long : length l ≤ length m = omega (arith, ap length h, length-take (length l) m) in
    take-append-le (length l) m (x ∷ []) long ∙ h

begins_at : (l m : List Float) → Begins l m → (id : ℕ) → id < length l → get_or l id nan ≡ get_or m id nan
begins_at l m h id less = ap (λ (k : List Float). get_or k id nan) (sym h) ∙ get_or-take (length l) m id nan less

-- c has the nodes of b, and perhaps more
abbrev Keeps : Book → Book → Type 0
Keeps b c = Begins b.xs c.xs × Begins b.ys c.ys

module _ (first : Book) where
  off_keeps : (e : Edge) (b : Book) → Keeps first b → Gives (Keeps first) (comes_off e b)
  unfolding comes_off
  off_keeps e b K = by (has e b.front)
    where
      by : (t : Bool) → Gives (Keeps first) (cond t (some (book b.xs b.ys (without e b.front))) none)
      by true = K
      by false = tt

  side_keeps : (s : State) (id : ℕ) (there back : Edge) (b : Book) → Keeps first b → Gives (Keeps first) (side s id there back b)
  unfolding side new_node
  side_keeps s id there back b K = by (has there b.front)
    where
      new : (t : Bool)
          → Gives (Keeps first)
          (and_then (cond t (some (book (b.xs ++ get_or s.xs id nan ∷ []) (b.ys ++ get_or s.ys id nan ∷ []) b.front)) none)
          (λ c. some (goes_on back c)))
      new true = (begins_more first.xs b.xs _ K.0, begins_more first.ys b.ys _ K.1)
      new false = tt

      by : (t : Bool) → Gives (Keeps first) (cond t (comes_off there b) (and_then (new_node s id b) (λ c. some (goes_on back c))))
      by true = off_keeps there b K
      by false = new (eqb id (length b.xs))

  quad_keeps : (s : State) (q : Quad) (b : Book) → Keeps first b → Gives (Keeps first) (book_quad s q b)
  unfolding book_quad
  quad_keeps s q b K =
      gives_then (Keeps first) (Keeps first) _ (comes_off _ b) (off_keeps _ b K) λ b1 K1.
      gives_then (Keeps first) (Keeps first) _ (side s q.c _ _ b1) (side_keeps s q.c _ _ b1 K1) λ b2 K2.
      gives_then (Keeps first) (Keeps first) _ (side s q.d _ _ b2) (side_keeps s q.d _ _ b2 K2) λ b3 K3. K3

after_keeps : (o : Outline) (size : Float) (s : State) (k : ℕ) → Gives (Keeps (start_book o size)) (book_after o size s k)
unfolding book_after for_up
after_keeps o size s zero = (take-length (start_book o size).xs, take-length (start_book o size).ys)
after_keeps o size s (suc k) =
    gives_then (Keeps first) (Keeps first) (book_quad s (quad_at s k)) (book_after o size s k) (after_keeps o size s k) (quad_keeps first s (quad_at s k))
  where
    first : Book
    first = start_book o size

-- ---- areas

pub weights_same : (w x : ℕ → ℕ → ℤ) (es : List Edge) → ((u v : ℕ) → 0 < edges_sum (at u v) es → w u v ≡ x u v) → edges_sumℤ w es ≡ edges_sumℤ x es
unfolding edges_sumℤ edges_sum
weights_same w x [] same = refl
weights_same w x (e ∷ es) same =
    rw (same e.from e.to (omega (arith, at_self e.from e.to)), weights_same w x es (λ u v h. same u v (omega arith)))

-- the sum of the first k quads
abbrev pub quads_sum : (ℕ → ℕ → ℤ) → State → ℕ → ℤ
quads_sum w s k = for_up k (λ i sum. sum +ℤ edges_sumℤ w (quad_edges (quad_at s i))) (pos 0)

pub quads_sum_lem : (w : ℕ → ℕ → ℤ) (s : State) (k : ℕ) → edges_sumℤ w (quads_edges s k) ≡ quads_sum w s k
unfolding quads_edges edges_sumℤ for_up
quads_sum_lem w s zero = refl
quads_sum_lem w s (suc k) =
    sum_joined w (quads_edges s k) (quad_edges (quad_at s k)) ∙ ap (λ (z : ℤ). z +ℤ edges_sumℤ w (quad_edges (quad_at s k))) (quads_sum_lem w s k)

-- a weight of two places, as one of nodes
abbrev pub weight_of : (Vector → Vector → ℤ) → (Float → ℤ) → Book → ℕ → ℕ → ℤ
weight_of w measure b u v = w (place_of measure b u) (place_of measure b v)

module _ (o : Outline) (size : Float) (s : State) (k : ℕ) (b : Book) (steps : book_after o size s k ≡ some b) (joins : FrontJoins (start_book o size))
    (measure : Float → ℤ) where
  place_same : (id : ℕ) → IsBookNode (start_book o size) id → place_of measure (start_book o size) id ≡ place_of measure b id
  place_same id h =
      let K : Keeps (start_book o size) b = subst (Gives (Keeps (start_book o size))) steps (after_keeps o size s k) in
      rw (begins_at (start_book o size).xs b.xs K.0 id h.0, begins_at (start_book o size).ys b.ys K.1 id h.1)

  -- a weight that changes its sign with the direction has on the start the sum of the quads' and of the front left
  pub weights_balance : ((u v : ℕ) → net u v (start_book o size).front ≡ net u v (quads_edges s k) +ℤ net u v b.front)
      → (w : Vector → Vector → ℤ) → ((u v : Vector) → w v u ≡ neg_ℤ (w u v))
      → edges_sumℤ (weight_of w measure (start_book o size)) (start_book o size).front
      ≡ quads_sum (weight_of w measure b) s k +ℤ edges_sumℤ (weight_of w measure b) b.front
  weights_balance edges w back =
      let start = start_book o size in
      let x = weight_of w measure b in
      weights_same (weight_of w measure start) x start.front (λ u v h. ap₂ w (place_same u (joins u v h).0) (place_same v (joins u v h).1))
      ∙ (same_net x (λ u v. back (place_of measure b u) (place_of measure b v)) start.front (quads_edges s k ++ b.front)
      (λ u v. edges u v ∙ sym (net_joined u v (quads_edges s k) b.front))
      ∙ (sum_joined x (quads_edges s k) b.front ∙ ap (λ (z : ℤ). z +ℤ edges_sumℤ x b.front) (quads_sum_lem x s k)))

  -- so the start's area is the sum of the quads' and of the front left
  pub areas_balance : ((u v : ℕ) → net u v (start_book o size).front ≡ net u v (quads_edges s k) +ℤ net u v b.front)
      → front_area measure (start_book o size) ≡ quads_area measure b s k +ℤ front_area measure b
  unfolding quads_area
  areas_balance edges = weights_balance edges cross cross_anti
