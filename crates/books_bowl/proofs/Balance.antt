-- What holds of the definitions of specs/Balance.antt.
use Rattle.std.specs.Prelude.{List, ◌≡◌, ℕ, ◌<◌, ◌≤◌, ℤ, get_or, take, Float}
use Rattle.std.proofs.Common.{sym, ◌∙◌, ap, ap₂, get_or-take}
use Rattle.std.specs.Float.{nan}
use Rattle.exact.specs.Corner.{Vector}
use Rattle.outline.specs.Outline.{Outline}
use Rattle.front.specs.State.{State}
use Rattle.books.specs.Book.{Book, place_of}
use Rattle.books.specs.Holds.{Closes, BooksHold}
use Rattle.books.proofs.Areas.{areas_balance}
use Rattle.books_hold.specs.Runs.{AcceptedRun, accepted_run_lem}
use Rattle.books_hold.proofs.Runs.{sampled_joins}
use Rattle.bowl_nearest_step.specs.Step.{nearest_step}
use Rattle.bowl.specs.Steps.{steps_at}
use Rattle.books_bowl.specs.Balance.{StepsBalance}
use Rattle.outline.specs.declared.Settings.{Settings}
use Rattle.outline.specs.Accepted.{OutlineFits}
use Rattle.field_direction.specs.Record.{FieldLists, FieldRecord}
use Rattle.front.specs.Sampling.{from_boundary}
use Rattle.run_whole.specs.Run.{run_refusal, run_of}
use Rattle.books_hold.proofs.Theorem.{books_hold}
use Rattle.books_hand.specs.Moves.{Move, moves_on}
use Rattle.books_hand.proofs.Sequences.{sequence_holds}

-- Of every state that has the exact books of a sampled outline.
pub books_balance : (o : Outline) (size : Float) (lent : State) → AcceptedRun o size lent → (s : State) → BooksHold o size s → (k : ℕ) → k ≤ s.counts.quads
    → StepsBalance o size s k
books_balance o size lent A s B k h =
    let H = B.each k h in
    record {
      book = H.book;
      steps = H.steps;
      areas = areas_balance o size s k H.book H.steps (sampled_joins o size lent A) nearest_step H.edges;
    }

-- Where the book closes, its nodes in steps are those of the mesh that was left: what `sitjorbe_bowl_steps` tests and stores.
pub places_same : (o : Outline) (s : State) (b : Book) → Closes o s b → (id : ℕ) → id < s.counts.nodes → place_of nearest_step b id ≡ steps_at s.xs s.ys id
places_same o s b C id h = ap₂ vec (same s.xs b.xs C.xs) (same s.ys b.ys C.ys)
  where
    vec : ℤ → ℤ → Vector
    vec x y = record { x = x; y = y }

    same : (all left : List Float) → take s.counts.nodes all ≡ left → nearest_step (get_or left id nan) ≡ nearest_step (get_or all id nan)
    same all left e = ap nearest_step (ap (λ (l : List Float). get_or l id nan) (sym e) ∙ get_or-take s.counts.nodes all id nan h)

-- THE BALANCE OF EVERY RUN that isn't refused: before the first quad, after each one and at the end.
pub run_balance : (o : Outline) (set : Settings) (f : FieldLists) (lent : State) → OutlineFits o → run_refusal o set f lent ≡ 0
    → (k : ℕ) → k ≤ (run_of o set f lent).paving.state.counts.quads → StepsBalance o set.size (run_of o set f lent).paving.state k
run_balance o set f lent doubles none =
    books_balance o set.size lent (accepted_run_lem o set f lent doubles none) (run_of o set f lent).paving.state (books_hold o set f lent doubles none)

-- THE BALANCE OF EVERY HAND-STEPPED SEQUENCE that begins with a sampled outline, passes between the steps included.
pub sequence_balance : (o : Outline) (size : Float) (lent : State) → AcceptedRun o size lent → (field : FieldRecord) (ms : List Move) (k : ℕ)
    → k ≤ (moves_on o size field ms (from_boundary o size lent)).counts.quads → StepsBalance o size (moves_on o size field ms (from_boundary o size lent)) k
sequence_balance o size lent A field ms =
    books_balance o size lent A (moves_on o size field ms (from_boundary o size lent)) (sequence_holds o size lent A field ms)
