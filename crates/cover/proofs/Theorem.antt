-- No point of the plane is lost or counted twice: of every run that isn't refused, and of every hand-stepped sequence.
use Rattle.std.specs.Prelude.{List, ◌≡◌, ℕ, ◌≤◌, Float}
use Rattle.outline.specs.declared.Settings.{Settings}
use Rattle.outline.specs.Outline.{Outline}
use Rattle.outline.specs.Accepted.{OutlineFits}
use Rattle.field_direction.specs.Record.{FieldLists, FieldRecord}
use Rattle.front.specs.State.{State}
use Rattle.front.specs.Sampling.{from_boundary}
use Rattle.run_whole.specs.Run.{run_refusal, run_of}
use Rattle.books.specs.Holds.{BooksHold}
use Rattle.books_hold.specs.Runs.{AcceptedRun}
use Rattle.books_hold.proofs.Theorem.{books_hold}
use Rattle.books_hand.specs.Moves.{Move, moves_on}
use Rattle.books_hand.proofs.Sequences.{sequence_holds}
use Rattle.cover.specs.Cover.{PavedOnce}
use Rattle.cover.proofs.Balance.{paved_once}

-- of every state that has the exact books of an outline
pub books_points : (o : Outline) (size : Float) → (s : State) → BooksHold o size s → (k : ℕ) → k ≤ s.counts.quads
    → PavedOnce o size s k
books_points o size s B k h = paved_once o size s k (B.each k h)

-- EACH POINT ONCE, in every run that isn't refused: before the first quad, after each one and at the end, where every loop left has two
-- nodes, the sampled outline goes round every point of the plane as often as there are quads that have it.
pub run_points : (o : Outline) (set : Settings) (f : FieldLists) (lent : State) → OutlineFits o → run_refusal o set f lent ≡ 0
    → (k : ℕ) → k ≤ (run_of o set f lent).paving.state.counts.quads → PavedOnce o set.size (run_of o set f lent).paving.state k
run_points o set f lent doubles none =
    books_points o set.size (run_of o set f lent).paving.state (books_hold o set f lent doubles none)

-- The same of every hand-stepped sequence that begins with a sampled outline, passes between the steps included.
pub sequence_points : (o : Outline) (size : Float) (lent : State) → AcceptedRun o size lent → (field : FieldRecord) (ms : List Move) (k : ℕ)
    → k ≤ (moves_on o size field ms (from_boundary o size lent)).counts.quads → PavedOnce o size (moves_on o size field ms (from_boundary o size lent)) k
sequence_points o size lent A field ms =
    books_points o size (moves_on o size field ms (from_boundary o size lent)) (sequence_holds o size lent A field ms)
