-- The stages of a run: the state after k of its quads, the loops of its front, and the book fed these quads as the run answers them in
-- the end. By induction over how the run's states are reached.
use Rattle.std.specs.Prelude.{ℕ, ◌<◌, List, ◌≡◌, refl, ℤ, ◌+ℤ◌, length, Float}
use Rattle.std.proofs.Common.{◌∙◌}
use Rattle.std.proofs.Math.Option.{some}
use Rattle.outline.specs.Outline.{Outline}
use Rattle.geometry.specs.declared.Corners.{Corners}
use Rattle.topology.specs.Balance.{front_sumℤ, Antisymmetric}
use Rattle.front.specs.declared.Corner.{Corner}
use Rattle.front.specs.State.{State, node}
use Rattle.front.specs.Place.{place}
use Rattle.front.specs.Sampling.{sampled_count}
use Rattle.front.specs.Sound.{Sound, Frame}
use Rattle.front.proofs.FrameLaws.{frame_same, frame_trans}
use Rattle.paving.specs.Checks.{corners_of}
use Rattle.paving.specs.Advance.{with_snapshot}
use Rattle.paving.specs.Reach.{Placement, Reaches, begin, snapshot, placed}
use Rattle.books.specs.Book.{Book, Quad, quad_at, start_book, book_after, edges_sumℤ}
use Rattle.books.specs.Net.{quads_edges}
use Rattle.books.proofs.Matches.{Matches}
use Rattle.books.specs.Holds.{QuadHolds}
use Rattle.books_bounded.proofs.Corners.{corners_in}
use Rattle.books.proofs.Step.{answered_step}
use Rattle.books.proofs.Snapshot.{snapshot_frame, snapshot_sound}

-- ---- definitions

-- where a state has the nodes of a quad
abbrev pub points_in : State → Quad → Corners
points_in s q = record { a = node s q.a; b = node s q.b; d = node s q.d; c = node s q.c }

-- four points at which every book's quad turns left as the exact books have it
abbrev pub Turns : Corners → Type 0
Turns p = (b : Book) (q : Quad) → corners_in b q ≡ p → QuadHolds b q

-- a quad of the run's answer: its ids are below n, and its points turn left
pub record AnsweredQuad (n : ℕ) (final : State) (q : Quad) : Type 0 where
  pub a : q.a < n
  pub b : q.b < n
  pub d : q.d < n
  pub c : q.c < n
  pub turns : Turns (points_in final q)

-- where a run of passes begins: the points are sampled, ls are the loops of the front, no quad is placed
pub record Start (o : Outline) (size : Float) (s : State) (ls : List (List ℕ)) : Type 0 where
  pub sound : Sound (sampled_count o size) s ls
  pub matches : Matches s ls (start_book o size)
  pub none : s.counts.quads ≡ 0

-- t is the state after k quads of a run that began with s, whose front had the loops ls, and left the state `final`
pub record Stage (o : Outline) (size : Float) (s : State) (ls : List (List ℕ)) (final : State) (k : ℕ) (t : State) : Type 0 where
  pub quads : t.counts.quads ≡ k
  pub earlier : Frame s t
  pub later : Frame t final
  -- the loops of its front, as many as at the start
  pub loops : List (List ℕ)
  pub sound : Sound (sampled_count o size) t loops
  pub number : length loops ≡ length ls
  -- the book went through, and is the state's
  pub book : Book
  pub steps : book_after o size final k ≡ some book
  pub matches : Matches t loops book
  -- whatever changes its sign with the direction of an edge: the start's front is the quads and the front left
  pub balance : (w : ℕ → ℕ → ℤ) → Antisymmetric w → front_sumℤ w ls ≡ edges_sumℤ w (quads_edges final k) +ℤ front_sumℤ w loops
  pub each : (i : ℕ) → i < k → AnsweredQuad t.counts.nodes final (quad_at final i)

-- ---- every state of a run

-- a state t of a run, sound and after the one that the run began with, whose front had the loops `begun`
pub record Standing (n : ℕ) (s : State) (begun : List (List ℕ)) (t : State) : Type 0 where
  pub loops : List (List ℕ)
  pub sound : Sound n t loops
  pub number : length loops ≡ length begun
  pub frame : Frame s t

pub standing : {n : ℕ} {o : Outline} {size : Float} {s : State} {ls : List (List ℕ)} {k : ℕ} {t : State} → Sound n s ls → Reaches o size s k t
    → Standing n s ls t
standing {s = s} {ls = ls} S begin = record { loops = ls; sound = S; number = refl; frame = frame_same s }
standing {n = n} {s = s} S (snapshot {t = t} r) =
    let Y = standing S r in
    record {
      loops = Y.loops;
      sound = snapshot_sound n t Y.loops Y.sound;
      number = Y.number;
      frame = frame_trans s t (with_snapshot t) Y.frame (snapshot_frame t);
    }
standing {n = n} {o = o} {size = size} {s = s} S (placed {t = t} {a = a} {b = b} {c = c} {d = d} r P) =
    let Y = standing S r in
    let X = answered_step n t Y.loops o size a b c d Y.sound P in
    record {
      loops = X.loops;
      sound = X.sound;
      number = X.number ∙ Y.number;
      frame = frame_trans s t (place a b c d t) Y.frame X.frame;
    }

-- each quad that is placed turns left
abbrev pub QuadsTurn : Outline → Float → State → Type 0
QuadsTurn o size s =
    (k : ℕ) (t : State) (a b : ℕ) (c d : Corner) → Reaches o size s k t → Placement o size t a b c d → Turns (corners_of t a b c d)

-- some state of a run, after k quads
pub record StageOf (o : Outline) (size : Float) (s : State) (ls : List (List ℕ)) (final : State) (k : ℕ) : Type 0 where
  pub state : State
  pub stage : Stage o size s ls final k state
