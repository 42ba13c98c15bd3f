-- Origins. The number of each node: that of the loop of the outline it was sampled from, 0 for the outer loop and k + 1 for hole k; a new node
-- takes the number of the node a of its quad. Definitions only.
use Rattle.std.specs.Prelude.{◌≡◌, cond, List, [], ◌∷◌, ◌++◌, ℕ, ◌<◌, ◌≤◌, eqb, length, get_or, take, drop, replicate, Float}
use Rattle.std.proofs.Math.Option.{some}
use Rattle.laws.specs.Loop.{for_up}
use Rattle.outline.specs.Outline.{Outline}
use Rattle.topology.specs.Sums.{All}
use Rattle.topology.specs.Front.{head_or}
use Rattle.front.specs.State.{State}
use Rattle.front.specs.Sampling.{loop_count, loop_nodes}
use Rattle.front_lent_mesh.specs.declared.QuadIds.{QuadIds}
use Rattle.front_lent_mesh.specs.Mesh.{quad_in}
use Rattle.books.specs.Book.{Edge, Book, book_after, loop_edges}
use Rattle.books.specs.Net.{count_edge}

-- ---- the numbers

-- the number of node id
abbrev pub origin_of : List ℕ → ℕ → ℕ
origin_of l id = get_or l id 0

-- the nodes of loop k, its midpoint among them, have number k
abbrev pub loop_origins : Outline → Float → ℕ → List ℕ
loop_origins o size k = replicate (loop_nodes o size k) k

-- the numbers of the samples, loop after loop
unfoldable pub sampled_origins : Outline → Float → List ℕ
sampled_origins o size = for_up (loop_count o) (λ k l. l ++ loop_origins o size k) []

-- where id is the next node, it takes the number of node a
unfoldable pub push_origin : ℕ → ℕ → List ℕ → List ℕ
push_origin a id l = cond (eqb id (length l)) (l ++ origin_of l a ∷ []) l

-- a quad's new nodes: c, then d
abbrev pub quad_origins : QuadIds → List ℕ → List ℕ
quad_origins q l = push_origin q.a q.d (push_origin q.a q.c l)

-- the numbers of the nodes after the first k quads of a run
unfoldable pub origins_after : Outline → Float → List ℕ → ℕ → List ℕ
origins_after o size quads k = for_up k (λ i l. quad_origins (quad_in quads i) l) (sampled_origins o size)

-- ---- what is claimed

-- nodes u and v have a number each, the same
pub record SameOrigin (l : List ℕ) (u v : ℕ) : Type 0 where
  pub left : u < length l
  pub right : v < length l
  pub equal : origin_of l u ≡ origin_of l v

-- every edge of a front joins nodes of one number
abbrev pub SameAlong : List ℕ → List Edge → Type 0
SameAlong l es = All (λ e. SameOrigin l e.from e.to) es

-- every node of a loop has the number of its first
abbrev pub SameInLoop : List ℕ → List ℕ → Type 0
SameInLoop l loop = All (λ u. SameOrigin l (head_or 0 loop) u) loop

-- all four nodes of a quad have one number
pub record SameInQuad (l : List ℕ) (q : QuadIds) : Type 0 where
  pub b : SameOrigin l q.a q.b
  pub d : SameOrigin l q.a q.d
  pub c : SameOrigin l q.a q.c

-- the numbers l of the nodes of the exact book after k quads
pub record OneOriginIn (o : Outline) (quads : List ℕ) (k : ℕ) (b : Book) (l : List ℕ) : Type 0 where
  -- as many numbers as nodes
  pub long : length l ≡ length b.xs
  -- each is that of a loop of the outline
  pub known : All (λ number. number < loop_count o) l
  pub fronts : SameAlong l b.front
  -- whatever loops make up the front, as those of `LoopsHold` do, each has one number
  pub loops : (ls : List (List ℕ)) → ((u v : ℕ) → count_edge u v (loop_edges ls) ≡ count_edge u v b.front) → All (SameInLoop l) ls
  -- and so has every quad
  pub each : (i : ℕ) → i < k → SameInQuad l (quad_in quads i)

-- after k quads of the run whose state is s, whose book has gone through
pub record OneOrigin (o : Outline) (size : Float) (s : State) (k : ℕ) : Type 0 where
  pub book : Book
  pub steps : book_after o size s k ≡ some book
  pub holds : OneOriginIn o s.quads k book (origins_after o size s.quads k)

-- of a run that left the state s, where `before` was lent for the numbers and `after` is left: the numbers are on the first places, a place a
-- node, the others are as they were; and after each quad no front loop and no quad has nodes of two numbers
pub record OriginsAnswered (o : Outline) (size : Float) (s : State) (before after : List ℕ) : Type 0 where
  pub written : take s.counts.nodes after ≡ origins_after o size s.quads s.counts.quads
  pub kept : drop s.counts.nodes after ≡ drop s.counts.nodes before
  pub each : (k : ℕ) → k ≤ s.counts.quads → OneOrigin o size s k
