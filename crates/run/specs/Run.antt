-- THE RUN: what is lent, what is answered, and what a caller gets. Definitions only.
use Rattle.std.specs.Prelude.{Bool, List, ◌++◌, ◌≡◌, ℕ, min, length, take, drop, Float, Result, Ok, Err, IfOk, OnErr}
use Rattle.laws.specs.Overlay.{overlay}
use Rattle.outline.specs.declared.Settings.{Settings}
use Rattle.outline.specs.Outline.{Outline, first_of}
use Rattle.outline.specs.Queries.{answer_by}
use Rattle.field_direction.specs.declared.Grid.{Grid}
use Rattle.field_direction.specs.Record.{FieldLists, field_lists, FieldRecord}
use Rattle.front.specs.declared.Counts.{Counts}
use Rattle.front.specs.State.{State, state_of}
use Rattle.paving.specs.declared.End.{End}
use Rattle.paving.specs.Advance.{EndedPaving}
use Rattle.run_whole.specs.Run.{run_refusal, WholeRun, run_of}
use Rattle.front_loop_list.specs.declared.Listed.{Listed}
use Rattle.front_loop_list.specs.Listed as loops
use Rattle.outline_sound.specs.Whole.{is_whole}
use Rattle.books.specs.Holds.{BooksAnswered}
use Rattle.run_origins.specs.Origins.{origins_after, OriginsAnswered}
use Rattle.run_refusal.specs.Lengths.{lengths_refusal}
use Rattle.run_sampled_advance.specs.Asked.{unused}
use Rattle.run.specs.declared.Paved.{Paved}

-- ---- what is handed over

abbrev pub settings : Float → ℕ → ℕ → Settings
settings size sweeps passes = record { size = size; sweeps = sweeps; passes = passes }

-- every list that the caller lends: the field's two, the seven of a paving's state, one for the loops that nodes came from, and two for the loops of
-- the front
pub record Lent : Type 0 where
  pub values : List Float
  pub marks : List ℕ
  pub xs : List Float
  pub ys : List Float
  pub next : List ℕ
  pub prev : List ℕ
  pub snapshot : List ℕ
  pub origins : List ℕ
  pub quads : List ℕ
  pub edges : List ℕ
  pub loops : List ℕ
  pub lengths : List ℕ

abbrev pub lent : List Float → List ℕ → List Float → List Float → List ℕ → List ℕ → List ℕ → List ℕ → List ℕ → List ℕ → List ℕ → List ℕ → Lent
lent values marks xs ys next prev snapshot origins quads edges loops lengths =
    record {
      values = values;
      marks = marks;
      xs = xs;
      ys = ys;
      next = next;
      prev = prev;
      snapshot = snapshot;
      origins = origins;
      quads = quads;
      edges = edges;
      loops = loops;
      lengths = lengths;
    }

-- scratch, of which no answer is made: the pools, the outline's blocks, and the edges tried in vain
pub record Scratch : Type 0 where
  pub node_pool : List ℕ
  pub edge_pool : List ℕ
  pub blocks : List ℕ
  pub tried : List ℕ

abbrev pub scratch : List ℕ → List ℕ → List ℕ → List ℕ → Scratch
scratch node_pool edge_pool blocks tried = record { node_pool = node_pool; edge_pool = edge_pool; blocks = blocks; tried = tried }

-- the same lists with another snapshot
abbrev pub other_snapshot : Lent → List ℕ → Lent
other_snapshot l snapshot =
    lent l.values l.marks l.xs l.ys l.next l.prev snapshot l.origins l.quads l.edges l.loops l.lengths

abbrev pub field_part : Lent → FieldLists
field_part l = field_lists l.values l.marks

abbrev pub state_part : Lent → State
state_part l = state_of l.xs l.ys l.next l.prev l.snapshot l.quads l.edges unused

-- ---- node places: of the lists that hold a number a node the shortest counts, the origins and the loops' ids among them

-- so many places of the snapshot count
abbrev pub snapshot_places : Lent → ℕ
snapshot_places l = min (min (length l.snapshot) (length l.loops)) (length l.origins)

-- the lists of which the run is made: no more of the snapshot than that
abbrev pub narrowed : Lent → Lent
narrowed l = other_snapshot l (take (snapshot_places l) l.snapshot)

-- the snapshot's other places keep their contents
abbrev pub broadened : Lent → Lent → Lent
broadened l after = other_snapshot after (after.snapshot ++ drop (snapshot_places l) l.snapshot)

-- ---- the answer

abbrev pub paved_answer : Grid → End → Counts → Listed → Bool → Paved
paved_answer grid end counts listed whole = record { end = end; grid = grid; counts = counts; listed = listed; whole = whole }

-- the answer, a refusal by its number, and every list as the run leaves it
pub record Ran : Type 0 where
  pub answer : Result Paved ℕ
  pub lists : Lent

abbrev pub ran : Result Paved ℕ → Lent → Ran
ran r l = record { answer = r; lists = l }

-- ---- the run

-- the field, and the paving in it
abbrev pub drawn_and_paved : FieldRecord → EndedPaving → WholeRun
drawn_and_paved field paving = record { field = field; paving = paving }

-- 1 to 10, in rising number
unfoldable pub refusal_of : Outline → Settings → Lent → ℕ
refusal_of o set l = first_of (run_refusal o set (field_part l) (state_part (narrowed l))) (lengths_refusal o (length l.lengths))

-- field, sampling and paving, then the loops of the front, the loops that nodes came from and the word whole, in all of the lists given
unfoldable pub accepted_in : Outline → Settings → Lent → Ran
accepted_in o set l =
    let r = run_of o set (field_part l) (state_part l) in
    let s = r.paving.state in
    let p = loops.listed_in s.counts s.next s.snapshot l.loops l.lengths in
    ran (Ok (paved_answer r.field.grid r.paving.end s.counts p.listed (is_whole o p.listed.count)))
    (lent r.field.lists.values r.field.lists.marks s.xs s.ys s.next s.prev p.marks
    (overlay (origins_after o set.size s.quads s.counts.quads) l.origins) s.quads s.edges p.loops p.lengths)

unfoldable pub accepted_run : Outline → Settings → Lent → Ran
accepted_run o set l = let r = accepted_in o set (narrowed l) in ran r.answer (broadened l r.lists)

-- refused, with nothing written; or run
unfoldable pub run_answer : Outline → Settings → Lent → Ran
run_answer o set l = answer_by (λ number. ran (Err number) l) (accepted_run o set l) (refusal_of o set l)

-- ---- what a caller gets

-- the state that is answered: the lists as they are left, with the counts answered
abbrev pub answered_state : Paved → Lent → State
answered_state r after =
    state_of after.xs after.ys after.next after.prev after.snapshot after.quads after.edges r.counts

-- the books of the outline, the size and what is answered
abbrev pub PavesBooks : Outline → Settings → Paved → Lent → Type 0
PavesBooks o set r after =
    BooksAnswered o set.size (answered_state r after) r.listed.count r.listed.ids after.loops after.lengths r.whole

-- the loops that the nodes answered came from, in the list lent for them
abbrev pub PavesOrigins : Outline → Settings → List ℕ → Paved → Lent → Type 0
PavesOrigins o set before r after = OriginsAnswered o set.size (answered_state r after) before after.origins

pub record Paves (o : Outline) (set : Settings) (before : Lent) (r : Result Paved ℕ) (after : Lent) : Type 0 where
  -- the answer and every list are the definition's, bit for bit
  pub equal : ran r after ≡ run_answer o set before
  -- a refusal leaves every list as it was
  pub refused : OnErr r (after ≡ before)
  -- the exact books hold
  pub books : IfOk r (λ p. PavesBooks o set p after)
  -- the numbers of the nodes are written, and no front loop and no quad has nodes of two
  pub origins : IfOk r (λ p. PavesOrigins o set before.origins p after)

-- of scratch, before and after: a refusal leaves it as it was, and what a run leaves in it is free
abbrev pub Spares : {A : Type 0} → ℕ → A → A → Type 0
Spares refusal before after = (refusal ≡ 0 → ⊥) → after ≡ before
