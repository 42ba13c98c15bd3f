-- The results as they are lent.
use Rattle.std.specs.Prelude.{◌≡◌}
use Rattle.exam_thresholds.specs.Figures.{Results, results}
use Rattle.exam_results.specs.declared.LentResults.{LentResults}
use Rattle.exam_results.specs.declared.SeenResults.{SeenResults}

abbrev pub results_lent : LentResults → Results
results_lent r = results r.thresholds.now r.count.now r.sum.now

abbrev pub results_seen : SeenResults → Results
results_seen r = results r.thresholds.now r.count r.sum

-- s writes where r does
pub record SameBorrows (r s : LentResults) : Type 0 where
  pub thresholds : s.thresholds.ghost_name ≡ r.thresholds.ghost_name
  pub count : s.count.ghost_name ≡ r.count.ghost_name
  pub sum : s.sum.ghost_name ≡ r.sum.ghost_name
