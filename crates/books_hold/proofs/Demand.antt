-- The exact books, in the words in which they were asked for.
use Rattle.std.specs.Prelude.{◌≡◌}
use Rattle.outline.specs.declared.Settings.{Settings}
use Rattle.outline.specs.Outline.{Outline}
use Rattle.outline.specs.Accepted.{OutlineFits}
use Rattle.field_direction.specs.Record.{FieldLists}
use Rattle.front.specs.State.{State}
use Rattle.run_whole.specs.Run.{run_refusal, run_of}
use Rattle.books_hold.specs.Demanded.{Demanded, as_demanded}
use Rattle.books_hold.proofs.Theorem.{books_hold}

-- In the demand's own words, with its exception for sides shorter than 1e-150, which is never used.
pub demand_met : (o : Outline) (set : Settings) (f : FieldLists) (lent : State) → OutlineFits o → run_refusal o set f lent ≡ 0
    → Demanded o set.size (run_of o set f lent).paving.state
demand_met o set f lent doubles none = as_demanded o set.size _ (books_hold o set f lent doubles none)
