-- What holds of the definitions of specs/Runs.antt.
use Rattle.std.specs.Prelude.{List, ◌≡◌, ℕ, ◌≤◌, Float}
use Rattle.std.proofs.Common.{arith}
use Rattle.outline.specs.declared.Settings.{Settings}
use Rattle.outline.specs.Outline.{Outline}
use Rattle.outline.specs.Accepted.{OutlineFits}
use Rattle.field_direction.specs.Record.{FieldLists, FieldRecord}
use Rattle.field_cross.specs.Field.{field_of}
use Rattle.front.specs.State.{State, cleared}
use Rattle.front.specs.Sampling.{sampled_count, from_boundary, boundary_loops}
use Rattle.front.proofs.FrameLaws.{frame_trans}
use Rattle.paving.specs.declared.End.{End}
use Rattle.paving.specs.declared.End.TheVariants.{Still, Passes, Cap, Full}
use Rattle.paving.specs.Advance.{most_quads, advance}
use Rattle.paving.specs.Reach.{Reaches}
use Rattle.paving.specs.ReachLaws.{Reached, advance_reaches}
use Rattle.run_whole.specs.Run.{run_refusal, run_of}
use Rattle.books.specs.Book.{start_book}
use Rattle.books.specs.Holds.{BooksHold}
use Rattle.books.proofs.AreasBase.{FrontJoins}
use Rattle.front_sampled.proofs.Outlines.{outline_three}
use Rattle.front_sampled.proofs.BegunBase.{Begun}
use Rattle.front_sampled.proofs.Begun.{begun}
use Rattle.front_sampled.proofs.Starts.{starts}
use Rattle.books_bounded.proofs.Placed.{placement_holds}
use Rattle.books_bounded.proofs.Run.{run_bounded}
use Rattle.books_hold.proofs.StagesBase.{Start, QuadsTurn, standing}
use Rattle.books_hold.proofs.Areas.{start_joins}
use Rattle.books_hold.proofs.Assembled.{reached_hold}
use Rattle.books_hold.specs.Ends.{Ended}
use Rattle.books_hold.proofs.EndLaws.{advance_ends}
use Rattle.books_hold.specs.Runs.{AcceptedRun, RunFacts, accepted_run_lem}

-- ---- laws

-- at most 250,000 quads
ended_few : (o : Outline) (size : Float) (field : FieldRecord) (n : ℕ) (s t : State) (e : End) → Ended o size field n s t e
    → t.counts.quads ≤ most_quads
ended_few o size field n s t Still E = omega (arith, E.0.below)
ended_few o size field n s t Passes E = omega (arith, E.below)
ended_few o size field n s t Cap E = omega (arith, E.0)
ended_few o size field n s t Full E = omega (arith, E.0.below)

module _ (o : Outline) (size : Float) (lent : State) (A : AcceptedRun o size lent) where
  abbrev sampled : State
  sampled = from_boundary o size lent

  abbrev loops : List (List ℕ)
  loops = boundary_loops o size lent

  pub begins : Begun o (sampled_count o size) lent sampled loops
  begins = begun o size lent (outline_three o A.outline) A.front

  pub start : Start o size sampled loops
  start = record { sound = begins.sound; matches = starts o size lent (outline_three o A.outline) A.front; none = begins.quad_count_of }

  -- so areas balance in any measure where the book goes through: `areas_balance`
  pub sampled_joins : FrontJoins (start_book o size)
  sampled_joins = start_joins o size sampled loops start

  pub turns : QuadsTurn o size sampled
  turns k t a b c d r P =
      placement_holds o A.doubles A.outline (standing start.sound r).sound
      (run_bounded o size A.doubles A.outline lent A.front r) P

  -- the books of every state that is reached, by passes or by hand
  pub reached_holds : {k : ℕ} {t : State} → Reaches o size sampled k t → BooksHold o size t
  reached_holds r = reached_hold o size sampled loops start begins.loops turns r

  module _ (field : FieldRecord) (n : ℕ) where
    reached : Reached o size sampled (advance o size field n sampled).state
    reached = advance_reaches o size sampled field n

    pub advance_holds : BooksHold o size (advance o size field n sampled).state
    advance_holds = reached_holds reached.by

    pub advance_facts : RunFacts o size field n lent (advance o size field n sampled)
    advance_facts =
        let run = advance o size field n sampled in
        let ends = advance_ends o size field sampled loops start n in
        record {
          ends = ends;
          few = ended_few o size field n sampled run.state run.end ends;
          nodes = run_bounded o size A.doubles A.outline lent A.front reached.by;
          past = frame_trans (cleared lent) sampled run.state begins.frame (standing start.sound reached.by).frame;
        }

-- ---- the run

module _ (o : Outline) (set : Settings) (f : FieldLists) (lent : State) (doubles : OutlineFits o) (none : run_refusal o set f lent ≡ 0) where
  pub run_facts : RunFacts o set.size (run_of o set f lent).field set.passes lent (run_of o set f lent).paving
  unfolding run_of
  run_facts = advance_facts o set.size lent (accepted_run_lem o set f lent doubles none) (field_of o set.size set.sweeps f) set.passes
