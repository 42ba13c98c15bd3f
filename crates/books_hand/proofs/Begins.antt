-- What a sequence begins with: a run of 0 passes leaves the sampled outline.
use Rattle.std.specs.Prelude.{◌≡◌, refl, ℕ, Float}
use Rattle.std.proofs.Common.{subst, sym}
use Rattle.laws.specs.Loop.{for_up, run}
use Rattle.outline.specs.declared.Settings.{Settings}
use Rattle.outline.specs.Outline.{Outline}
use Rattle.field_direction.specs.Record.{FieldLists, FieldRecord}
use Rattle.front.specs.State.{State}
use Rattle.front.specs.Sampling.{from_boundary}
use Rattle.paving.specs.declared.End.TheVariants.{Passes}
use Rattle.paving.specs.Advance.{paved, advance}
use Rattle.run_whole.specs.Run.{run_of}

-- no pass leaves the state as it is
pub advance_none : (o : Outline) (size : Float) (field : FieldRecord) (s : State) → advance o size field 0 s ≡ paved s Passes
unfolding advance run for_up
advance_none o size field s = refl

-- so nodes, front, edges and counts after a run of 0 passes are those of `from_boundary`
pub run_samples : (o : Outline) (set : Settings) (f : FieldLists) (lent : State) → set.passes ≡ 0
    → (run_of o set f lent).paving ≡ paved (from_boundary o set.size lent) Passes
unfolding run_of advance run for_up
run_samples o set f lent e = rw e refl
