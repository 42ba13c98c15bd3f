-- An outline that is not refused has loops of three points or more.
use Rattle.std.specs.Prelude.{◌≡◌, ℕ, ◌<◌, ◌≤◌}
use Rattle.std.proofs.Common.{le_of_suc-le-suc}
use Rattle.outline.specs.Outline.{Outline, loop_at, points, outline_refusal}
use Rattle.outline.proofs.Accepted.{accepted}
use Rattle.front.specs.Sampling.{loop_count}

-- every loop has three points or more
abbrev pub Threes : Outline → Type 0
Threes o = (k : ℕ) → k < loop_count o → 3 ≤ points (loop_at o k)

pub outline_three : (o : Outline) → outline_refusal o ≡ 0 → Threes o
outline_three o e k h = (accepted o e).three k (le_of_suc-le-suc h)
