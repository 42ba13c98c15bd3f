-- Whether the quads of a lent mesh cover a sampled outline: refusals 10, 23 and 27 to 30, and the answer. Definitions only.
use Rattle.std.specs.Prelude.{Bool, false, not, ◌&&◌, ◌||◌, cond, List, [], ℕ, ◌*◌, ◌/◌, min, eqb, ltb, length, get_or, Float}
use Rattle.std.specs.Float.{nan, binary64}
use Rattle.std.specs.Float.Ieee.{to_bits, unlike}
use Rattle.laws.specs.Loop.{any_up}
use Rattle.outline.specs.Outline.{Outline, first_of}
use Rattle.outline.specs.Queries.{answer_by}
use Rattle.geometry.specs.Plane.{convex_ccw}
use Rattle.field_cross.specs.Field.{drawn_refusal}
use Rattle.outline_sound.specs.Sound.{outline_sound}
use Rattle.front.specs.State.{State, most_nodes}
use Rattle.front.specs.Sampling.{sampled_refusal}
use Rattle.hand_mesh_check.specs.Check.{beyond_nodes, node_unsound}
use Rattle.books.specs.Book.{Book, book, Edge, edge, Quad, quad_at, start_book, follow}
use Rattle.books.specs.Net.{count_edge}
use Rattle.books_bounded.proofs.Corners.{corners_in}
use Rattle.cover_sides.specs.Sides.{sides_of}
use Rattle.cover_check.specs.declared.CoversAnswer.{CoversAnswer}
use Rattle.cover_check.specs.declared.Room.{Room}
use Rattle.cover_check.specs.Lowest.{lowest}

-- a lent mesh as a book with no front left
abbrev pub book_of : State → Book
book_of s = book s.xs s.ys []

-- ---- 10 and 23

-- 10: the sampled outline has more nodes than the scratch has places
abbrev pub room_refusal : Outline → Float → Room → ℕ
room_refusal o size room = sampled_refusal o size (min room.nodes most_nodes) room.edges

-- the counts don't fit the lists, or the scratch hasn't a number for each side
unfoldable pub misfits : State → ℕ → Bool
misfits s keys =
    ltb (length s.xs) s.counts.nodes || (ltb (length s.ys) s.counts.nodes || (ltb (min (length s.quads / 4) 250000) s.counts.quads || ltb (keys / 4) s.counts.quads))

-- 23: that, or an id is no node's, or a coordinate isn't finite or is beyond 1,001
unfoldable pub unfit : State → ℕ → Bool
unfit s keys = misfits s keys || (any_up (4 * s.counts.quads) (beyond_nodes s.counts.nodes s.quads) || any_up s.counts.nodes (node_unsound s.xs s.ys))

abbrev pub fit_refusal : State → ℕ → ℕ
fit_refusal s keys = cond (unfit s keys) 23 0

-- ---- 27 to 30

-- 27: quad k doesn't turn left by more than 20 degrees at all four corners, as the paving tests it
abbrev pub is_folded : State → ℕ → Bool
is_folded s k = not (convex_ccw (corners_in (book_of s) (quad_at s k)))

-- another side is the same, or not exactly one holds: the side back is there, or the side is an edge of the sampled outline
unfoldable pub side_wrong : Book → List Edge → Edge → Bool
side_wrong start sides e =
    ltb 1 (count_edge e.from e.to sides) || not (unlike (ltb 0 (count_edge e.to e.from sides)) (eqb (follow start.front e.from) e.to))

-- so is a side of the quad
unfoldable pub quad_wrong : Book → List Edge → Quad → Bool
quad_wrong start sides q =
    side_wrong start sides (edge q.a q.b) || (side_wrong start sides (edge q.b q.d) || (side_wrong start sides (edge q.d q.c) || side_wrong start sides (edge q.c q.a)))

-- 28: so is a side of quad k
abbrev pub is_wrong : Book → State → ℕ → Bool
is_wrong start s k = quad_wrong start (sides_of s) (quad_at s k)

-- 29: the edge of the sampled outline from node u is no quad's side
abbrev pub is_unlaid : Book → State → ℕ → Bool
is_unlaid start s u = eqb (count_edge u (follow start.front u) (sides_of s)) 0

abbrev pub same_bits : Float → Float → Bool
same_bits x y = eqb (to_bits binary64 x) (to_bits binary64 y)

-- the two have the node i alike, bit for bit
unfoldable pub is_same : Book → State → ℕ → Bool
is_same start s i = same_bits (get_or s.xs i nan) (get_or start.xs i nan) && same_bits (get_or s.ys i nan) (get_or start.ys i nan)

-- 30: node i isn't the sampled outline's
abbrev pub is_moved : Book → State → ℕ → Bool
is_moved start s i = not (ltb i s.counts.nodes && is_same start s i)

-- ---- the answer

abbrev pub covers_answered : ℕ → ℕ → Bool → CoversAnswer
covers_answered refusal place sound = record { refusal = refusal; place = place; sound = sound }

-- refused with the lowest of n that passes a test, if one does
abbrev pub or_at : ℕ → ℕ → (ℕ → Bool) → CoversAnswer → CoversAnswer
or_at number n test rest = cond (ltb (lowest n test) n) (covers_answered number (lowest n test) false) rest

-- of quads that turn left
abbrev pub sides_answer : Outline → Book → State → CoversAnswer
sides_answer o start s =
    or_at 28 s.counts.quads (is_wrong start s) (or_at 29 (length start.xs) (is_unlaid start s) (or_at 30 (length start.xs) (is_moved start s)
    (covers_answered 0 0 (outline_sound o))))

-- of a mesh that 23 lets pass
abbrev pub mesh_answer : Outline → Book → State → CoversAnswer
mesh_answer o start s = or_at 27 s.counts.quads (is_folded s) (sides_answer o start s)

-- what is refused before the quads are looked at: 1 to 7, 10, 23
abbrev pub lent_refusal : Outline → Float → State → Room → ℕ
lent_refusal o size s room = first_of (first_of (drawn_refusal o size) (room_refusal o size room)) (fit_refusal s room.keys)

-- THE ANSWER
unfoldable pub covers_answer : Outline → Float → State → Room → CoversAnswer
covers_answer o size s room =
    answer_by (λ number. covers_answered number 0 false) (mesh_answer o (start_book o size) s) (lent_refusal o size s room)
