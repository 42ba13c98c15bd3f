-- `replay::replay_all` is safe and ends: each turn takes a line at least, and the counts don't exceed what was taken.
use Rattle.std.proofs.Common.{◌+◌, ◌≤◌, length}
use Rattle.replay.proofs.replay_all.Given as goal

abbrev pub invariant-loop-rest : goal.invariant-loop-rest
invariant-loop-rest g l = (l.files + length l.rest ≤ length l.list) × (l.differences ≤ l.files)

abbrev pub decreases-loop-rest : goal.decreases-loop-rest
decreases-loop-rest g l = length l.rest
