-- THE THEOREM of the exact books. What it says: crates/books/specs/Holds.antt, over the book of crates/books/specs/Book.antt. Demanded.antt gives
-- it in the demand's own words, and Runs.antt what else holds of a run.
use Rattle.std.specs.Prelude.{◌≡◌}
use Rattle.outline.specs.declared.Settings.{Settings}
use Rattle.outline.specs.Outline.{Outline}
use Rattle.outline.specs.Accepted.{OutlineFits}
use Rattle.field_direction.specs.Record.{FieldLists}
use Rattle.field_cross.specs.Field.{field_of}
use Rattle.front.specs.State.{State}
use Rattle.run_whole.specs.Run.{run_refusal, run_of}
use Rattle.books.specs.Holds.{BooksHold}
use Rattle.books_hold.specs.Runs.{accepted_run_lem}
use Rattle.books_hold.proofs.Runs.{advance_holds}

-- THE EXACT BOOKS OF EVERY RUN HOLD. Take any outline o, any settings (the size, the sweeps and the passes allowed) and any lists f and
-- lent, of whatever lengths and contents, of which nothing is refused. The reference's run on them, `run_of`, leaves a state; and
-- before its first quad, after each one and where it stops, the book that is fed the outline, the size and the quads and node coordinates
-- answered has gone through, its edges net and its areas balance, its quads turn left with sine above 1/3, its front is one even closed
-- loop for each loop of the outline, and its counts agree; in the end its nodes, front, counts and loops are the run's. That the
-- outline's floats are doubles is what a slice of f64 holds.
pub books_hold : (o : Outline) (set : Settings) (f : FieldLists) (lent : State) → OutlineFits o → run_refusal o set f lent ≡ 0
    → BooksHold o set.size (run_of o set f lent).paving.state
unfolding run_of
books_hold o set f lent doubles none =
    advance_holds o set.size lent (accepted_run_lem o set f lent doubles none) (field_of o set.size set.sweeps f) set.passes
