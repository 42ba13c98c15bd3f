-- What a run asks. Definitions only.
use Rattle.std.specs.Prelude.{◌≡◌, ◌≤◌, length}
use Rattle.outline.specs.declared.Settings.{Settings}
use Rattle.outline.specs.Outline.{Outline}
use Rattle.front.specs.Sampling.{loop_count}
use Rattle.run_whole.specs.Run.{run_refusal}
use Rattle.run.specs.Run as run

-- in all of the lists: none of 1 to 10 refuses it, the loops' ids and the origins have a place for each of the snapshot's, and the loops' lengths
-- one for each loop
pub record CanRun (o : Outline) (set : Settings) (l : run.Lent) : Type 0 where
  pub none : run_refusal o set (run.field_part l) (run.state_part l) ≡ 0
  pub loops : length l.snapshot ≤ length l.loops
  pub origins : length l.snapshot ≤ length l.origins
  pub lengths : loop_count o ≤ length l.lengths
