-- A comment begins within its line.
use Rattle.std.specs.Prelude.{ℕ, ◌≤◌, List, length, not}
use Rattle.std.proofs.lemmas.List.Sums.{prefix_len-le-length}
use Rattle.points_text.specs.Lines.{comment_at, is_hash}

pub comment_within : (line : List ℕ) → comment_at line ≤ length line
comment_within line = prefix_len-le-length (λ b. not (is_hash b)) line
