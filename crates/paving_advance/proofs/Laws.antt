-- The turns of `advance` in the code. Assumes nothing.
use Rattle.std.specs.Prelude.{◌≡◌, List, ℕ, min, Float}
use Rattle.std.proofs.Common.{sym}
use Rattle.laws.specs.Loop.{go, out, Run, run}
use Rattle.outline.specs.Outline.{Outline}
use Rattle.field_direction.specs.declared.Grid.{Grid}
use Rattle.field_direction.specs.Record.{FieldRecord}
use Rattle.front.specs.declared.Counts.{Counts}
use Rattle.front.specs.State.{State, state_of}
use Rattle.paving.specs.declared.End.{End}
use Rattle.paving.specs.Advance.{EndedPaving, paved, Passed, passes_turn, all_used, advance}
use Rattle.paving.specs.ReachLaws.{Reached, AtEnd, pass_kept}
use Rattle.paving.specs.Reach.{begin}
use Rattle.std.specs.declared.ops.ControlFlow.{ControlFlow}
use Rattle.std.specs.declared.ops.ControlFlow.TheVariants.{Continue, Break}
use Rattle.paving_ends.specs.Answers.{passed}
use Rattle.paving_settling.specs.Paveable.{Paveable, Later}
use Rattle.paving_passes.proofs.Laws.{run_has, later}

-- what a pass answered, once it is known which
module _ {s : State} (r : ControlFlow End (Unit {0})) {T : Passed} (E : passed r s ≡ T) where
  pub pass_on : {u : Unit {0}} → r ≡ Continue u → T ≡ go s
  pass_on q = sym (rw q at E)

  pub pass_over : {e : End} → r ≡ Break e → T ≡ out (paved s e)
  pass_over q = sym (rw q at E)

-- the passes are as many as asked for, at most 600
pub advance_whole : (o : Outline) (size : Float) (field : FieldRecord) (passes : ℕ) (s : State) {most : ℕ} {w : EndedPaving} → most ≡ min passes 600
    → w ≡ run most (passes_turn o size field) all_used s → w ≡ advance o size field passes s
unfolding advance
advance_whole o size field passes s e E = rw e at E

-- ---- what holds in the loop

pub in_advance : (o : Outline) (size : Float) (g : Grid) (values : List Float) (field : FieldRecord) (s : State)
    → Paveable g values s → {n i : ℕ} {t : State} → Run (passes_turn o size field) all_used s n i t → Later g values s t
in_advance o size g values field s P L =
    later o size g values field s P
    (run_has (Reached o size s) (AtEnd o size s) (passes_turn o size field) (record { quads = 0; by = begin }) (λ j t r. pass_kept o size s field t r) L)
