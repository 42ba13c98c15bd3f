-- A run that no refusal stops: its start, that each of its quads turns left, and what holds of the state it leaves: `run_facts`.
use Rattle.std.specs.Prelude.{◌≡◌, ℕ, ◌≤◌, Float}
use Rattle.outline.specs.declared.Settings.{Settings}
use Rattle.outline.specs.Outline.{Outline, outline_refusal}
use Rattle.outline.specs.Accepted.{OutlineFits, first_zero}
use Rattle.field_direction.specs.Record.{FieldLists, FieldRecord}
use Rattle.field_cross.specs.Field.{field_refusal}
use Rattle.front.specs.State.{State, cleared}
use Rattle.front.specs.Sampling.{front_refusal, from_boundary}
use Rattle.front.specs.Sound.{Frame}
use Rattle.paving.specs.Advance.{EndedPaving, most_quads}
use Rattle.run_whole.specs.Run.{run_refusal}
use Rattle.books_bounded.proofs.Point.{Bounded}
use Rattle.books_bounded.proofs.Nodes.{AllNodes}
use Rattle.books_hold.specs.Ends.{Ended}

-- ---- definitions

-- what is asked of a run: the outline's floats are doubles, as those of a slice of f64 are; and no refusal stops it
pub record AcceptedRun (o : Outline) (size : Float) (lent : State) : Type 0 where
  pub doubles : OutlineFits o
  pub outline : outline_refusal o ≡ 0
  pub front : front_refusal o size lent ≡ 0

-- what holds of a run, beside its books
pub record RunFacts (o : Outline) (size : Float) (field : FieldRecord) (passes : ℕ) (lent : State) (run : EndedPaving) : Type 0 where
  -- it ends as SCOPE has it
  pub ends : Ended o size field passes (from_boundary o size lent) run.state run.end
  pub few : run.state.counts.quads ≤ most_quads
  -- every node is a pair of doubles within 1,001
  pub nodes : AllNodes Bounded run.state
  -- places past the counts keep the contents that were lent
  pub past : Frame (cleared lent) run.state

-- ---- the run

module _ (o : Outline) (set : Settings) (f : FieldLists) (lent : State) (doubles : OutlineFits o) (none : run_refusal o set f lent ≡ 0) where
  pub accepted_run_lem : AcceptedRun o set.size lent
  unfolding run_refusal field_refusal
  accepted_run_lem =
      let both = first_zero _ _ none in
      record { doubles = doubles; outline = (first_zero _ _ both.0).0; front = both.1 }
